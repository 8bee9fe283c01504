-- What contracts see of a host over a state.
use Rattle.std.specs.Prelude.{ℕ, refl}
use Rattle.std.specs.Coded.{Coded, code_by, coded×, coded_ℕ}
use Rattle.hk_model.specs.Replica.Codes.{content_code}
use Rattle.hk_model.specs.Replica.Content.{Content}

-- the value of a `StateHost`: what its state holds, and the number of its operations
pub record HostValue : Type 0 where
  pub content : Content
  pub ops : ℕ

abbrev pub host_code : Coded HostValue
host_code = code_by (Content × ℕ) (coded× content_code coded_ℕ) (λ h. (h.content, h.ops)) (λ p. record { content = p.0; ops = p.1 }) (λ _. refl)
