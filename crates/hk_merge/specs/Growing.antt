-- What a change gains.
use Rattle.std.specs.Prelude.{◌≡◌, ℕ, Bool, ◌||◌, ◌&&◌, ◌==◌, if◌then◌else◌, List, [], ◌∷◌, ◌++◌, Option}
use Rattle.std.specs.FinMap.{find}
use Rattle.hk_types.specs.Values.{RowValue}
use Rattle.hk_types.specs.declared.version_key.VersionKey.{VersionKey}
use Rattle.hk_log.specs.Versions.{VersionValue}
use Rattle.hk_model.specs.History.Rows.{version_key_cmp}
use Rattle.hk_model.specs.Replica.Maps.{or_else}
use Rattle.hk_model.specs.Replica.Content.{Content}
use Rattle.hk_model.specs.Replica.Fragments.{FragmentValue}
use Rattle.hk_model.specs.Replica.Rules.{content_after_join}
use Rattle.hk_state.specs.Changes.{content_after_change}
use Rattle.hk_state.specs.declared.apply.Change.{Change}
use Rattle.hk_store.specs.Drops.{is_among}
use Rattle.hk_store.specs.Facts.{FactsValue, entry_if}
use Rattle.hk_merge.specs.declared.plan.Admission.{Admission}
use Rattle.hk_merge.specs.declared.plan.Retention.{Retention}
use Rattle.hk_merge.specs.Plans.{stays, goes, row_back, end_back, all_gone, rows_back, ends_back, row_comes, end_comes, row_coming, end_coming}
use Rattle.hk_merge.specs.Sent.{sends_row}

-- ---- by the lists: the new change has what the old one has, and then these

abbrev pub GainsDrops : Change → Change → List VersionKey → Type 0
GainsDrops old new drops = new.drops.items ≡ old.drops.items ++ drops

abbrev pub GainsRows : Change → Change → List (VersionKey × RowValue) → Type 0
GainsRows old new rows = new.rows.items ≡ old.rows.items ++ rows

abbrev pub GainsEnds : Change → Change → List (VersionKey × ℕ) → Type 0
GainsEnds old new ends = new.ends.items ≡ old.ends.items ++ ends

-- ---- version by version: the new change has what the old one has of it, or else this

abbrev pub AddsDrops : Change → Change → (VersionKey → Bool) → Type 0
AddsDrops old new goes = (q : VersionKey) → is_among new.drops.items q ≡ (is_among old.drops.items q || goes q)

abbrev pub AddsRows : Change → Change → (VersionKey → Option RowValue) → Type 0
AddsRows old new row = (q : VersionKey) → find version_key_cmp q new.rows.items ≡ or_else (find version_key_cmp q old.rows.items) (row q)

abbrev pub AddsEnds : Change → Change → (VersionKey → Option ℕ) → Type 0
AddsEnds old new end = (q : VersionKey) → find version_key_cmp q new.ends.items ≡ or_else (find version_key_cmp q old.ends.items) (end q)

-- ---- of the target's own

module _ (l : Retention) where
  abbrev pub stays_of : VersionKey → VersionValue → Bool
  stays_of v own = stays l.whole l.horizon (sends_row l.sent.now) v own

  abbrev pub goes_of : VersionKey → VersionValue → Bool
  goes_of v own = goes l.whole l.horizon (sends_row l.sent.now) v own

  -- a version, where it goes
  abbrev pub drop_of : VersionKey → VersionValue → List VersionKey
  drop_of v own = if goes_of v own then v ∷ [] else []

  -- what comes back of it
  abbrev pub row_back_of : VersionKey → VersionValue → List (VersionKey × RowValue)
  row_back_of v own = entry_if v (row_back l.whole l.horizon (sends_row l.sent.now) v own)

  abbrev pub end_back_of : VersionKey → VersionValue → List (VersionKey × ℕ)
  end_back_of v own = entry_if v (end_back l.whole l.horizon (sends_row l.sent.now) v own)

  -- of a list
  abbrev pub drops_of : List (VersionKey × VersionValue) → List VersionKey
  drops_of own = all_gone l.whole l.horizon (sends_row l.sent.now) own

  abbrev pub rows_back_of : List (VersionKey × VersionValue) → List (VersionKey × RowValue)
  rows_back_of own = rows_back l.whole l.horizon (sends_row l.sent.now) own

  abbrev pub ends_back_of : List (VersionKey × VersionValue) → List (VersionKey × ℕ)
  ends_back_of own = ends_back l.whole l.horizon (sends_row l.sent.now) own

-- ---- of what is sent to a target that has these facts

abbrev pub row_of_coming : FactsValue → Admission → VersionKey → VersionValue → List (VersionKey × RowValue)
row_of_coming own coming v sent = entry_if v (row_comes own coming.old coming.horizon v sent)

abbrev pub end_of_coming : FactsValue → Admission → VersionKey → VersionValue → List (VersionKey × ℕ)
end_of_coming own coming v sent = entry_if v (end_comes own coming.old coming.horizon v sent)

-- the same of a content that is sent, at a version
abbrev pub row_from : FactsValue → Admission → Content → VersionKey → Option RowValue
row_from own coming sent = row_coming own coming.old coming.horizon sent

abbrev pub end_from : FactsValue → Admission → Content → VersionKey → Option ℕ
end_from own coming sent = end_coming own coming.old coming.horizon sent

-- whether a fragment is a whole, and of this horizon
abbrev pub has_horizon : FragmentValue → ℕ → Bool
has_horizon f h = (f.base == 0) && (f.content.horizon == h)

-- ---- the whole change

-- the content after a change, with the numbers and marks of a fragment
abbrev pub after_change : Content → FragmentValue → Change → Content
after_change c f change = content_after_change c change f.content.streams

-- the change makes what joining the fragment gives
abbrev pub IsJoinOf : Content → FragmentValue → Change → Type 0
IsJoinOf c f change = after_change c f change ≡ content_after_join c f
