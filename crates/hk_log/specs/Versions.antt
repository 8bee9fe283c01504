-- What contracts see of a version.
use Rattle.std.specs.Prelude.{◌≡◌, ℕ, Bool, true, false, ◌||◌, Option, Some, None, refl, is_some, List}
use Rattle.std.specs.Coded.{Coded, code_by, coded×, coded_ℕ, coded_list, coded_option}
use Rattle.hk_types.specs.Values.{RowValue}

-- the value of a `Version`: its row and the time of its end, as far as they are known
pub record VersionValue : Type 0 where
  pub row : Option RowValue
  pub died : Option ℕ

-- whether anything is known
abbrev pub is_known : VersionValue → Bool
is_known v = is_some v.row || is_some v.died

abbrev pub row_code : Coded RowValue
row_code = code_by (ℕ × List ℕ) (coded× coded_ℕ (coded_list coded_ℕ)) (λ r. (r.tag, r.body)) (λ p. record { tag = p.0; body = p.1 }) (λ _. refl)

abbrev pub version_code : Coded VersionValue
version_code = code_by (Option RowValue × Option ℕ) (coded× (coded_option row_code) (coded_option coded_ℕ)) (λ v. (v.row, v.died)) (λ p. record { row = p.0; died = p.1 }) (λ _. refl)

-- the version of this row and this end; or none, where neither is there
abbrev pub IsVersionOf : Option RowValue → Option ℕ → Option VersionValue → Type 0
IsVersionOf row died None = is_known (record { row = row; died = died }) ≡ false
IsVersionOf row died (Some v) = (v ≡ record { row = row; died = died }) × (is_known v ≡ true)
