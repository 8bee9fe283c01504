-- What is left of facts above a base, and what cutting a state answers.
use Rattle.std.specs.Prelude.{◌≡◌, ◌⊎◌, ◌<◌, ◌≤◌, ℕ, false, nat_lt, if◌then◌else◌, All, List, map, Option, Some, None, Result, Ok, Err, IfOk}
use Rattle.std.specs.List.{flat_map}
use Rattle.std.specs.List.Sorted.{IsStrictlySortedBy}
use Rattle.hk_types.specs.Values.{ConfigValue, RowValue}
use Rattle.hk_types.specs.declared.version_key.VersionKey.{VersionKey}
use Rattle.hk_types.specs.declared.faults.Refusal.{Refusal}
use Rattle.hk_types.specs.declared.faults.Refusal.TheVariants.{Memory, TooOld}
use Rattle.hk_log.specs.Versions.{VersionValue}
use Rattle.hk_log.specs.declared.item.Item.{Item}
use Rattle.hk_model.specs.History.Rows.{version_key_cmp}
use Rattle.hk_model.specs.Replica.Content.{Content, at_most}
use Rattle.hk_model.specs.Replica.Fragments.{FragmentValue, cut, part}
use Rattle.hk_model.specs.History.Histories.{History}
use Rattle.hk_model.specs.Replica.Replicas.{Represents}
use Rattle.hk_facts.specs.Facts.{if_known}
use Rattle.hk_store.specs.Facts.{FactsValue, known_at, entry_if}
use Rattle.hk_store.specs.Drops.{is_among}
use Rattle.hk_store.specs.Versions.{AreVersions}
use Rattle.hk_fragment.specs.Parts.{Known}

-- the row of a version that was born above the base
abbrev pub row_above : ℕ → ℕ → Option RowValue → Option RowValue
row_above base born row = if nat_lt base born then row else None

-- the end that is above the base
abbrev pub end_above : ℕ → Option ℕ → Option ℕ
end_above base died = if at_most base died then None else died

-- what is left of a version above the base, if anything
abbrev pub left_above : ℕ → VersionKey → VersionValue → Option VersionValue
left_above base v known = if_known (record { row = row_above base v.born known.row; died = end_above base known.died })

-- the same as a list
abbrev pub known_left : ℕ → VersionKey → VersionValue → List Known
known_left base v known = entry_if v (left_above base v known)

-- what is left of versions
abbrev pub all_left : ℕ → List Known → List Known
all_left base versions = flat_map (λ e. known_left base e.0 e.1) versions

-- the list has each version of which anything is left above the base, with what is known of it, in rising order
pub record HasLeft (f : FactsValue) (base : ℕ) (versions : List Known) : Type 0 where
  pub known : All (λ e. known_at f e.0 ≡ Some e.1) versions
  pub others : (v : VersionKey) (known : VersionValue) → known_at f v ≡ Some known → is_among (map (λ e. e.0) versions) v ≡ false → left_above base v known ≡ None
  pub rising : IsStrictlySortedBy version_key_cmp (map (λ e. e.0) versions)

-- the list is what is left of the facts' versions above the base
abbrev pub IsLeftOf : FactsValue → ℕ → List Known → Type 0
IsLeftOf f base left = (versions : List Known) × (HasLeft f base versions × (left ≡ all_left base versions))

-- the list is what is left of all versions of the facts above the base
abbrev pub IsAllLeft : FactsValue → ℕ → List Known → Type 0
IsAllLeft f base left = (versions : List Known) × (AreVersions f versions × (left ≡ all_left base versions))

-- the cut at the base, or it was refused: below the horizon, or else memory ran out
abbrev pub Cuts : Content → ℕ → Result FragmentValue Refusal → Type 0
Cuts c base (Ok f) = (c.horizon ≤ base) × (f ≡ cut c base)
Cuts c base (Err why) = ((base < c.horizon) × (why ≡ TooOld c.horizon)) ⊎ ((c.horizon ≤ base) × (why ≡ Memory))

-- where the content represents items of a history, the fragment is the part of them at its horizon
abbrev pub CutsOf : Content → ℕ → Result FragmentValue Refusal → Type 0
CutsOf c base result =
    (config : ConfigValue) (history : History) (items : List Item) (horizon : ℕ) → Represents config history items horizon c
    → IfOk result (λ f. f ≡ part config items horizon base)
