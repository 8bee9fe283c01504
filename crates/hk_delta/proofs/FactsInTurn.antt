-- Facts one after the other.
use Rattle.std.proofs.Common.{◌≡◌, refl, List, [], ◌∷◌, Result, Ok, Err}
use Rattle.hk_types.specs.declared.faults.Refusal.{Refusal}
use Rattle.hk_fragment.specs.Parts.{Known}
use Rattle.hk_delta.specs.Versions.{FactOn, joined_to}

-- these facts, one after the other, up to the first that conflicts with what is there
abbrev pub joined_on : Result (List Known) Refusal → FactOn → Result (List Known) Refusal
joined_on (Ok es) s = joined_to es s
joined_on (Err why) s = Err why

abbrev pub all_joined : Result (List Known) Refusal → List FactOn → Result (List Known) Refusal
all_joined r [] = r
all_joined r (s ∷ more) = all_joined (joined_on r s) more

-- what was refused stays refused
pub stays_refused : (why : Refusal) (xs : List FactOn) → all_joined (Err why) xs ≡ Err why
stays_refused why [] = refl
stays_refused why (x ∷ xs) = stays_refused why xs
