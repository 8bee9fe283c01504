-- What contracts see of a counted device.
use Rattle.std.specs.Prelude.{ℕ, refl}
use Rattle.std.specs.Coded.{Coded, code_by, coded×, coded_ℕ}

-- the value of a `Counted`: the device, how many calls were made of it, and how many of them failed
pub record CountedValue (D : Type 0) : Type 0 where
  pub device : D
  pub calls : ℕ
  pub faults : ℕ

abbrev pub counted_code : {D : Type 0} → Coded D → Coded (CountedValue D)
counted_code {D} device =
    code_by (D × (ℕ × ℕ)) (coded× device (coded× coded_ℕ coded_ℕ)) (λ c. (c.device, (c.calls, c.faults))) (λ p. record { device = p.0; calls = p.1.0; faults = p.1.1 }) (λ _. refl)
