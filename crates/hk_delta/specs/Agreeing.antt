-- What absorbing items in turn gives, and the fragment of those that tell something new.
use Rattle.std.specs.Prelude.{◌≡◌, ◌⊎◌, ℕ, ◌<◌, Bool, true, false, ◌||◌, ◌==◌, nat_le, List, [], ◌∷◌, ◌++◌, length, All, Some, None, Result, Ok, Err}
use Rattle.std.specs.FinSet as set
use Rattle.hk_types.specs.Values.{same_row}
use Rattle.hk_types.specs.declared.faults.Refusal.{Refusal}
use Rattle.hk_types.specs.declared.faults.Refusal.TheVariants.{Conflict, Memory}
use Rattle.hk_log.specs.declared.item.Item.{Item}
use Rattle.hk_log.specs.declared.item.Item.TheVariants.{Commit, Closed}
use Rattle.hk_model.specs.declared.took.Took.{Took}
use Rattle.hk_model.specs.declared.took.Took.TheVariants.{Taken, Repeated}
use Rattle.hk_model.specs.History.Facts.{rows_of, ends_of}
use Rattle.hk_model.specs.Replica.Content.{Content, readable}
use Rattle.hk_model.specs.Replica.Fragments.{FragmentValue, part}
use Rattle.hk_model.specs.Replica.Items.{wrong_log}
use Rattle.hk_model.specs.Replica.Lawful.{IsItem, IsLawful}
use Rattle.hk_model.specs.Replica.Maps.{maps_conflict}
use Rattle.hk_model.specs.Replica.Replicas.{content_after_take}
use Rattle.hk_model.specs.Replica.Rules.{first_wrong_log, took, take_result, with_items, join_result}
use Rattle.hk_model.specs.Replica.Touches.{join_touches_past}
use Rattle.hk_model.specs.Replica.Streams.{StreamContent, stream_at, streams_of, all_together, adds_nothing}
use Rattle.hk_store.specs.Facts.{conflicts_with_entry}
use Rattle.hk_store.specs.Reads.{facts_of_content}
use Rattle.hk_state.specs.Items.{facts_with, log_of_content}
use Rattle.hk_delta.specs.declared.agreeing.News.{News}
use Rattle.hk_delta.specs.Gathers.{have_conflict}

-- the content that an item left
abbrev pub content_taken : Result (Took × Content) Refusal → Result Content Refusal
content_taken (Ok told) = Ok told.1
content_taken (Err why) = Err why

-- one item more, unless there was a refusal before
abbrev pub then_take : Result Content Refusal → Item → Result Content Refusal
then_take (Ok c) item = content_taken (take_result c item)
then_take (Err why) item = Err why

abbrev pub take_all : Result Content Refusal → List Item → Result Content Refusal
take_all r [] = r
take_all r (item ∷ items) = take_all (then_take r item) items

-- the content after these items, absorbed one after the other, or the first refusal
abbrev pub absorb_all : Content → List Item → Result Content Refusal
absorb_all c items = take_all (Ok c) items

abbrev pub if_taken : Took → Item → List Item
if_taken Taken item = item ∷ []
if_taken Repeated item = []

-- those of the items that are told Taken, absorbed one after the other
abbrev pub taken_items : Content → List Item → List Item
taken_items c [] = []
taken_items c (item ∷ items) = if_taken (took c item) item ++ taken_items (content_after_take c (take_result c item)) items

-- the fragment of those of the items that tell a content something new
abbrev pub fragment_of_taken : Content → List Item → FragmentValue
fragment_of_taken c items = part (record { log = c.log; streams = length c.streams }) (taken_items c items) 0 0

-- the fragment of what the items tell, whose join leaves what absorbing them leaves, and does not touch the past; or it was
-- refused as the first item that is refused is; or memory ran out
abbrev pub Agrees : Content → List Item → Result FragmentValue Refusal → Type 0
Agrees c items (Ok f) = (f ≡ fragment_of_taken c items) × ((d : Content) × (absorb_all c items ≡ Ok d) × (join_result c f ≡ Ok d) × (join_touches_past c f ≡ false))
Agrees c items (Err why) = (absorb_all c items ≡ Err why) ⊎ (why ≡ Memory)

-- ---- what is learnt on the way

-- whether an item tells these streams nothing new
abbrev pub tells_nothing : List StreamContent → Item → Bool
tells_nothing streams (Commit e) = set.contains (stream_at streams e.stream).taken e.number
tells_nothing streams (Closed m) = adds_nothing (stream_at streams m.stream) m.count m.upto

-- whether an item contradicts a content, or what was learnt beside it
abbrev pub contradicts : Content → News → Item → Bool
contradicts c n (Commit e) = conflicts_with_entry (facts_of_content c) e || (conflicts_with_entry n.facts e || nat_le e.time (stream_at n.all e.stream).closed)
contradicts c n (Closed m) = false

abbrev pub streams_with : List StreamContent → Item → List StreamContent
streams_with streams item = all_together streams (streams_of (length streams) (item ∷ []))

abbrev pub learnt : News → Item → News
learnt n item = record { facts = facts_with n.facts (item ∷ []); got = streams_with n.got item; all = streams_with n.all item }

-- an item was learnt, or it told nothing new; or it is none of the log, or it contradicts, or memory ran out
abbrev pub Learns : Content → News → News → Item → Result (Unit {0}) Refusal → Type 0
Learns c old new item (Ok done) =
    (wrong_log c.log (length c.streams) item ≡ None) × IsItem item
    × (((tells_nothing old.all item ≡ true) × (new ≡ old)) ⊎ ((tells_nothing old.all item ≡ false) × (contradicts c old item ≡ false) × (new ≡ learnt old item)))
Learns c old new item (Err why) =
    (wrong_log c.log (length c.streams) item ≡ Some why)
    ⊎ (((wrong_log c.log (length c.streams) item ≡ None) × (tells_nothing old.all item ≡ false) × (contradicts c old item ≡ true) × (why ≡ Conflict)) ⊎ (why ≡ Memory))

-- whether an item is no entry of a time at most this
abbrev pub IsAbove : ℕ → Item → Type 0
IsAbove h (Commit e) = h < e.time
IsAbove h (Closed m) = Unit {0}

-- items that contradict a content nowhere, with the entries above its readable mark
pub record DoAgree (c : Content) (items : List Item) : Type 0 where
  pub each : All IsItem items
  pub late : All (IsAbove (readable c)) items
  pub rows : maps_conflict same_row c.rows (rows_of items) ≡ false
  pub ends : maps_conflict (λ a b. a == b) c.ends (ends_of items) ≡ false

-- what was learnt of these items, absorbed one after the other: none was refused, and the facts, numbers and marks are those
-- of the items that were taken
pub record IsLearnt (c : Content) (items : List Item) (n : News) : Type 0 where
  pub absorbed : absorb_all c items ≡ Ok (with_items c (taken_items c items))
  pub before : IsLawful c
  pub lawful : IsLawful (with_items c (taken_items c items))
  pub agree : DoAgree c (taken_items c items)
  pub facts : n.facts ≡ record { rows = rows_of (taken_items c items); ends = ends_of (taken_items c items) }
  pub got : n.got ≡ streams_of (length c.streams) (taken_items c items)
  pub all : n.all ≡ all_together c.streams (streams_of (length c.streams) (taken_items c items))

-- all items were learnt, or the first refusal
abbrev pub LearnsAll : Content → List Item → Result News Refusal → Type 0
LearnsAll c items (Ok n) = IsLearnt c items n
LearnsAll c items (Err why) = (absorb_all c items ≡ Err why) ⊎ (why ≡ Memory)

-- ---- what is all new

-- whether an item contradicts a content, or comes too late for these streams
abbrev pub contradicts_content : Content → List StreamContent → Item → Bool
contradicts_content c streams (Commit e) = nat_le e.time (stream_at streams e.stream).closed || conflicts_with_entry (facts_of_content c) e
contradicts_content c streams (Closed m) = false

-- an item of the log tells the streams something new and contradicts the content nowhere, and the streams have it now
abbrev pub IsNew : Content → List StreamContent → List StreamContent → Item → Type 0
IsNew c old new item =
    (wrong_log c.log (length c.streams) item ≡ None) × IsItem item
    × ((tells_nothing old item ≡ false) × (contradicts_content c old item ≡ false) × (new ≡ streams_with old item))

-- what is learnt of items that are all taken
abbrev pub all_told : Content → List Item → News
all_told c items = record {
  facts = record { rows = rows_of items; ends = ends_of items };
  got = streams_of (length c.streams) items;
  all = all_together c.streams (streams_of (length c.streams) items);
}

-- items of the log that are all taken, absorbed one after the other, if they don't conflict with each other
pub record AreNew (c : Content) (items : List Item) : Type 0 where
  pub fits : first_wrong_log (log_of_content c) items ≡ None
  pub taken : have_conflict items ≡ false → taken_items c items ≡ items
  pub learnt : have_conflict items ≡ false → IsLearnt c items (all_told c items)
