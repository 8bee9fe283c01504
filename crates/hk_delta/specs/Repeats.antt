-- Entries that are told again, and stand otherwise than they are told.
use Rattle.std.specs.Prelude.{◌≡◌, ◌⊎◌, ℕ, Bool, false, not, ◌&&◌, ◌||◌, ◌==◌, nat_lt, if◌then◌else◌, List, Option, Some, None, Result, Ok, Err}
use Rattle.std.specs.List.{list_any}
use Rattle.std.specs.FinMap as finmap
use Rattle.hk_types.specs.Values.{RowValue}
use Rattle.hk_types.specs.declared.faults.Refusal.{Refusal}
use Rattle.hk_types.specs.declared.faults.Refusal.TheVariants.{Conflict, Memory}
use Rattle.hk_types.specs.declared.version_key.VersionKey.{VersionKey}
use Rattle.hk_log.specs.declared.item.Item.{Item}
use Rattle.hk_log.specs.declared.item.Item.TheVariants.{Commit, Closed}
use Rattle.hk_model.specs.History.Facts.{inserted_version}
use Rattle.hk_model.specs.Replica.Content.{Content}
use Rattle.hk_model.specs.Replica.Fragments.{FragmentValue}
use Rattle.hk_model.specs.Replica.Maps.{or_else}
use Rattle.hk_model.specs.Replica.Past.{same_shown}
use Rattle.hk_model.specs.Replica.Rules.{join_result}
use Rattle.hk_model.specs.Replica.Touches.{join_touches_past}
use Rattle.hk_store.specs.Facts.{FactsValue}
use Rattle.hk_delta.specs.Agreeing.{absorb_all, fragment_of_taken}

-- whether there is an end, and it is this
abbrev pub is_end : Option ℕ → ℕ → Bool
is_end None time = false
is_end (Some d) time = d == time

-- whether a row that an entry of this time inserts is lacking, or another
abbrev pub lacks_row : (VersionKey → Option RowValue) → ℕ → ℕ × ℕ × RowValue → Bool
lacks_row rows time p = not (same_shown (rows (inserted_version time p).0) (Some p.2))

-- whether the end at this time of a version is lacking, or another
abbrev pub lacks_end : (VersionKey → Option ℕ) → ℕ → VersionKey → Bool
lacks_end ends time v = not (is_end (ends v) time)

-- whether an item is an entry of a time above this of which a row or an end is lacking, or another
abbrev pub is_otherwise : (VersionKey → Option RowValue) → (VersionKey → Option ℕ) → ℕ → Item → Bool
is_otherwise rows ends horizon (Commit e) = nat_lt horizon e.time && (list_any (lacks_row rows e.time) e.rows || list_any (lacks_end ends e.time) e.ends)
is_otherwise rows ends horizon (Closed m) = false

-- whether an item is an entry above a content's horizon, which stands there otherwise than the entry says
abbrev pub stands_otherwise : Content → Item → Bool
stands_otherwise c item = is_otherwise (finmap.get c.rows) (finmap.get c.ends) c.horizon item

-- the row, and the end, of a version that the first of two has, or else the second
abbrev pub row_in : FactsValue → FactsValue → VersionKey → Option RowValue
row_in f g v = or_else (finmap.get f.rows v) (finmap.get g.rows v)

abbrev pub end_in : FactsValue → FactsValue → VersionKey → Option ℕ
end_in f g v = or_else (finmap.get f.ends v) (finmap.get g.ends v)

-- the same of what two hold together
abbrev pub stands_otherwise_in : FactsValue → FactsValue → ℕ → Item → Bool
stands_otherwise_in f g horizon item = is_otherwise (row_in f g) (end_in f g) horizon item

-- what absorbing leaves, where no entry above the horizon stands there otherwise than it was told
abbrev pub if_as_told : List Item → Result Content Refusal → Result Content Refusal
if_as_told items (Ok d) = if list_any (stands_otherwise d) items then Err Conflict else Ok d
if_as_told items (Err why) = Err why

-- the content after these items, absorbed one after the other, each repeat compared or not
abbrev pub absorb_so : Bool → Content → List Item → Result Content Refusal
absorb_so compared c items = if compared then if_as_told items (absorb_all c items) else absorb_all c items

-- the fragment of what the items tell, whose join leaves that content, and does not touch the past; or it was refused as that
-- is; or memory ran out
abbrev pub AgreesSo : Bool → Content → List Item → Result FragmentValue Refusal → Type 0
AgreesSo compared c items (Ok f) = (f ≡ fragment_of_taken c items) × ((d : Content) × (absorb_so compared c items ≡ Ok d) × (join_result c f ≡ Ok d) × (join_touches_past c f ≡ false))
AgreesSo compared c items (Err why) = (absorb_so compared c items ≡ Err why) ⊎ (why ≡ Memory)
