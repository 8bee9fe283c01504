-- What uniting two fragments of base 0 and horizon 0 does.
use Rattle.std.specs.Prelude.{◌≡◌, ◌⊎◌, true, false, List, ◌++◌, All, Result, Ok, Err, OnOk}
use Rattle.hk_types.specs.Values.{ConfigValue}
use Rattle.hk_types.specs.declared.faults.Refusal.{Refusal}
use Rattle.hk_types.specs.declared.faults.Refusal.TheVariants.{Conflict, Memory}
use Rattle.hk_log.specs.declared.item.Item.{Item}
use Rattle.hk_model.specs.Replica.Fragments.{FragmentValue}
use Rattle.hk_model.specs.Replica.Lawful.{IsItem}
use Rattle.hk_model.specs.Replica.Rules.{contents_conflict, gather_result}
use Rattle.hk_fragment.specs.Merging.{union_of}

-- the fragment became the union, or nothing changed: some version has different rows or ends in the two, or memory ran out
abbrev pub Unites : FragmentValue → FragmentValue → FragmentValue → Result (Unit {0}) Refusal → Type 0
Unites old new other (Ok done) = (contents_conflict old.content other.content ≡ false) × (new ≡ union_of old other)
Unites old new other (Err why) =
    (new ≡ old) × (((contents_conflict old.content other.content ≡ true) × (why ≡ Conflict)) ⊎ ((contents_conflict old.content other.content ≡ false) × (why ≡ Memory)))

-- the fragment is what these items are gathered to
abbrev pub IsGathered : ConfigValue → List Item → FragmentValue → Type 0
IsGathered config items f = (gather_result config items ≡ Ok f) × All IsItem items

-- what two lists of items are gathered to becomes what the one list after the other is gathered to
abbrev pub UnitesGathered : FragmentValue → FragmentValue → FragmentValue → Result (Unit {0}) Refusal → Type 0
UnitesGathered old new other result =
    (config : ConfigValue) (items others : List Item) → IsGathered config items old → IsGathered config others other → OnOk result (IsGathered config (items ++ others) new)
