-- What a join changes, version by version.
use Rattle.std.specs.Prelude.{ℕ, Bool, false, not, max, ◌&&◌, ◌||◌, ◌==◌, nat_le, nat_lt, if◌then◌else◌, Option, Some, None, List, [], ◌∷◌, is_some}
use Rattle.std.specs.Option.{option_and_then}
use Rattle.std.specs.List.{flat_map}
use Rattle.std.specs.FinMap as finmap
use Rattle.hk_types.specs.Values.{RowValue}
use Rattle.hk_types.specs.declared.version_key.VersionKey.{VersionKey}
use Rattle.hk_log.specs.Versions.{VersionValue}
use Rattle.hk_model.specs.Replica.Content.{Content, at_most, ended_by}
use Rattle.hk_model.specs.Replica.Fragments.{FragmentValue}
use Rattle.hk_facts.specs.Facts.{row_of, died_of}
use Rattle.hk_store.specs.Facts.{FactsValue, known_at, entry_if}
use Rattle.hk_store.specs.Indexed.{is_stated}
use Rattle.hk_store.specs.Reads.{facts_of_content}

-- ---- what is left of the target's own, where the horizon rises to h: `whole` where the whole is sent, and then
-- `sent` has the versions whose rows are

module _ (whole : Bool) (h : ℕ) (sent : VersionKey → Bool) where
  -- whether a row stays
  abbrev pub stays : VersionKey → VersionValue → Bool
  stays v own = nat_lt h v.born || (if whole then sent v else not (at_most h own.died))

  -- whether a row or an end goes
  abbrev pub goes : VersionKey → VersionValue → Bool
  goes v own = at_most h own.died || (is_some own.row && not (stays v own))

  -- the row that comes back where the version is dropped
  abbrev pub row_back : VersionKey → VersionValue → Option RowValue
  row_back v own = if goes v own && stays v own then own.row else None

  -- the end that comes back where the version is dropped
  abbrev pub end_back : VersionKey → VersionValue → Option ℕ
  end_back v own = if goes v own && not (at_most h own.died) then own.died else None

  -- the versions of a list that go, and what comes back of them
  abbrev pub all_gone : List (VersionKey × VersionValue) → List VersionKey
  all_gone own = flat_map (λ e. if goes e.0 e.1 then e.0 ∷ [] else []) own

  abbrev pub rows_back : List (VersionKey × VersionValue) → List (VersionKey × RowValue)
  rows_back own = flat_map (λ e. entry_if e.0 (row_back e.0 e.1)) own

  abbrev pub ends_back : List (VersionKey × VersionValue) → List (VersionKey × ℕ)
  ends_back own = flat_map (λ e. entry_if e.0 (end_back e.0 e.1)) own

-- whether a version of the target's own may go where the horizon rises to h: it has a row born by then, or an end by then,
-- and where not the whole is sent, an end by then
abbrev pub may_go : Bool → ℕ → FactsValue → VersionKey → Bool
may_go whole h f v = if whole then is_stated f (λ t. nat_le t h) v else ended_by f.ends h v

-- ---- what comes of what is sent, at the horizon h: `old` where rows born at or below it come too

module _ (own : FactsValue) (old : Bool) (h : ℕ) where
  -- the row that comes, where the target has none
  abbrev pub row_comes : VersionKey → VersionValue → Option RowValue
  row_comes v sent = if (nat_lt h v.born || old) && not (is_some (row_of (known_at own v))) then sent.row else None

  -- the end that comes, where the target has none
  abbrev pub end_comes : VersionKey → VersionValue → Option ℕ
  end_comes v sent = if not (at_most h sent.died) && not (is_some (died_of (known_at own v))) then sent.died else None

  -- those of a list
  abbrev pub rows_come : List (VersionKey × VersionValue) → List (VersionKey × RowValue)
  rows_come sent = flat_map (λ e. entry_if e.0 (row_comes e.0 e.1)) sent

  abbrev pub ends_come : List (VersionKey × VersionValue) → List (VersionKey × ℕ)
  ends_come sent = flat_map (λ e. entry_if e.0 (end_comes e.0 e.1)) sent

-- ---- of a target and what is sent to it, at a version

-- whether a test passes of what is known, where anything is
abbrev pub passes : {A : Type 0} → (A → Bool) → Option A → Bool
passes test None = false
passes test (Some x) = test x

-- what is known of a version in a content
abbrev pub known_in : Content → VersionKey → Option VersionValue
known_in c v = known_at (facts_of_content c) v

module _ (own : FactsValue) (old : Bool) (h : ℕ) (sent : Content) where
  -- the row that comes of a content that is sent, where the target has none
  abbrev pub row_coming : VersionKey → Option RowValue
  row_coming v = option_and_then (row_comes own old h v) (known_in sent v)

  -- the end that comes so
  abbrev pub end_coming : VersionKey → Option ℕ
  end_coming v = option_and_then (end_comes own old h v) (known_in sent v)

module _ (t : Content) (f : FragmentValue) where
  -- whether the horizon rises
  abbrev pub rises : Bool
  rises = nat_lt t.horizon f.content.horizon

  -- whether a version's row is sent
  abbrev pub is_sent : VersionKey → Bool
  is_sent v = is_some (finmap.get f.content.rows v)

  -- whether rows born at or below the horizon come too
  abbrev pub old_come : Bool
  old_come = (f.base == 0) && (f.content.horizon == max t.horizon f.content.horizon)

  abbrev pub gone_at : VersionKey → Bool
  gone_at v = rises && passes (goes (f.base == 0) f.content.horizon is_sent v) (known_in t v)

  abbrev pub row_back_at : VersionKey → Option RowValue
  row_back_at v = if rises then option_and_then (row_back (f.base == 0) f.content.horizon is_sent v) (known_in t v) else None

  abbrev pub end_back_at : VersionKey → Option ℕ
  end_back_at v = if rises then option_and_then (end_back (f.base == 0) f.content.horizon is_sent v) (known_in t v) else None

  abbrev pub row_comes_at : VersionKey → Option RowValue
  row_comes_at v = row_coming (facts_of_content t) old_come (max t.horizon f.content.horizon) f.content v

  abbrev pub end_comes_at : VersionKey → Option ℕ
  end_comes_at v = end_coming (facts_of_content t) old_come (max t.horizon f.content.horizon) f.content v
