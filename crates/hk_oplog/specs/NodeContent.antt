-- What a node holds.
use Rattle.std.specs.Prelude.{ℕ, Bool, List, refl}
use Rattle.std.specs.Coded.{Coded, code_by, coded×, coded_ℕ, coded_bool, coded_list}
use Rattle.hk_model.specs.Replica.Content.{Content}
use Rattle.hk_model.specs.Replica.Codes.{content_code}
use Rattle.hk_oplog.specs.declared.op.Hold.{Hold}

-- the content of its replica, the holds that stand, whether it met a conflict, whether it is guarded, how many holds it
-- gave, and how many operations it made
pub record NodeContent : Type 0 where
  pub content : Content
  pub holds : List Hold
  pub damaged : Bool
  pub guarded : Bool
  pub hold_count : ℕ
  pub op_count : ℕ

abbrev pub hold_code : Coded Hold
hold_code = code_by (ℕ × ℕ) (coded× coded_ℕ coded_ℕ) (λ h. (h.reader, h.at)) (λ p. record { reader = p.0; at = p.1 }) (λ _. refl)

abbrev pub node_code : Coded NodeContent
node_code =
    code_by (Content × (List Hold × (Bool × (Bool × (ℕ × ℕ)))))
    (coded× content_code (coded× (coded_list hold_code) (coded× coded_bool (coded× coded_bool (coded× coded_ℕ coded_ℕ)))))
    (λ c. (c.content, (c.holds, (c.damaged, (c.guarded, (c.hold_count, c.op_count)))))) (λ p. record { content = p.0; holds = p.1.0; damaged = p.1.1.0; guarded = p.1.1.1.0; hold_count = p.1.1.1.1.0; op_count = p.1.1.1.1.1 }) (λ _. refl)
