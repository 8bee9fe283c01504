-- What a replica's operations do to its content, for every log, honest or not.
use Rattle.std.specs.Prelude.{ℕ, max, length, List, [], ◌∷◌, Bool, not, ◌&&◌, ◌||◌, ◌==◌, nat_le, nat_lt, if◌then◌else◌, Option, Some, None, Result, Ok, Err}
use Rattle.std.specs.List.{list_any}
use Rattle.std.specs.Ordering.{eq_by_cmp}
use Rattle.std.specs.FinMap as finmap
use Rattle.std.specs.FinSet as set
use Rattle.hk_types.specs.Values.{ConfigValue}
use Rattle.hk_types.specs.declared.faults.Refusal.{Refusal}
use Rattle.hk_types.specs.declared.faults.Refusal.TheVariants.{ForeignLog, WrongStreams, Gap, Conflict, AheadOfMark}
use Rattle.hk_model.specs.declared.took.Took.{Took}
use Rattle.hk_model.specs.declared.took.Took.TheVariants.{Taken, Repeated}
use Rattle.hk_model.specs.Replica.Maps.{or_else, union, maps_conflict}
use Rattle.hk_types.specs.declared.version_key.VersionKey.{VersionKey}
use Rattle.hk_types.specs.Values.{same_row}
use Rattle.hk_model.specs.History.Rows.{version_key_cmp}
use Rattle.hk_log.specs.Items.{EntryValue}
use Rattle.hk_log.specs.declared.item.Item.{Item}
use Rattle.hk_log.specs.declared.item.Item.TheVariants.{Commit, Closed}
use Rattle.hk_model.specs.Replica.Items.{wrong_log}
use Rattle.hk_model.specs.History.Facts.{row_facts, end_facts, rows_of, ends_of}
use Rattle.hk_model.specs.Replica.Streams.{streams_of, all_together, stream_at, adds_nothing}
use Rattle.hk_model.specs.Replica.Content.{Content, readable, ended_by, without_ended}
use Rattle.hk_model.specs.Replica.Fragments.{FragmentValue, cut, part}

-- whether some version has different rows, or different ends, in the two
abbrev pub contents_conflict : Content → Content → Bool
contents_conflict c d = maps_conflict same_row c.rows d.rows || maps_conflict (λ a b. a == b) c.ends d.ends

-- the content with the facts, numbers and marks of these items
abbrev pub with_items : Content → List Item → Content
with_items c items =
    record {
      log = c.log;
      horizon = c.horizon;
      rows = union c.rows (rows_of items);
      ends = union c.ends (ends_of items);
      streams = all_together c.streams (streams_of (length c.streams) items);
    }

-- whether an entry whose number is new conflicts with the content
abbrev pub entry_conflicts : Content → EntryValue → Bool
entry_conflicts c e =
    maps_conflict same_row c.rows (rows_of (Commit e ∷ []))
    || maps_conflict (λ a b. a == b) c.ends (ends_of (Commit e ∷ []))
    || nat_le e.time (stream_at c.streams e.stream).closed

-- whether an item tells a content something new
abbrev pub took : Content → Item → Took
took c (Commit e) = if set.contains (stream_at c.streams e.stream).taken e.number then Repeated else Taken
took c (Closed m) = if adds_nothing (stream_at c.streams m.stream) m.count m.upto then Repeated else Taken

-- what an absorb gives, of an item of the content's log
abbrev pub absorb_result : Content → Item → Result (Took × Content) Refusal
absorb_result c (Commit e) =
    if set.contains (stream_at c.streams e.stream).taken e.number then Ok (Repeated, c)
    else if entry_conflicts c e then Err Conflict
    else Ok (Taken, with_items c (Commit e ∷ []))
absorb_result c (Closed m) =
    Ok (if adds_nothing (stream_at c.streams m.stream) m.count m.upto then Repeated else Taken, with_items c (Closed m ∷ []))

-- what it gives, where nothing kept the item from it
abbrev pub take_result_unless : Content → Item → Option Refusal → Result (Took × Content) Refusal
take_result_unless c item (Some why) = Err why
take_result_unless c item None = absorb_result c item

-- what an absorb gives
abbrev pub take_result : Content → Item → Result (Took × Content) Refusal
take_result c item = take_result_unless c item (wrong_log c.log (length c.streams) item)

-- the content that a fragment's join leaves, where nothing is refused
abbrev pub content_after_join : Content → FragmentValue → Content
content_after_join t f =
    let h = max t.horizon f.content.horizon in
    let own_are_old = (t.horizon == h) || nat_lt 0 f.base in
    let sent_are_old = (f.base == 0) && (f.content.horizon == h) in
    record {
      log = t.log;
      horizon = h;
      rows = union
          (finmap.retain_keys t.rows (λ v. nat_lt h v.born || (own_are_old && not (ended_by t.ends h v))))
          (finmap.retain_keys f.content.rows (λ v. nat_lt h v.born || sent_are_old));
      ends = union (without_ended t.ends h t.ends) (without_ended f.content.ends h f.content.ends);
      streams = all_together t.streams f.content.streams;
    }

-- what a fragment's join gives
abbrev pub join_result : Content → FragmentValue → Result Content Refusal
join_result t f =
    if not (f.content.log == t.log) then Err ForeignLog
    else if not (length f.content.streams == length t.streams) then Err WrongStreams
    else if nat_lt (readable t) f.base then Err (Gap f.base (readable t))
    else if contents_conflict t f.content then Err Conflict
    else Ok (content_after_join t f)

-- what a merge gives: the join of the whole
abbrev pub merge_result : Content → Content → Result Content Refusal
merge_result t s = join_result t (cut s 0)

-- what a prune gives
abbrev pub prune_result : Content → ℕ → Result Content Refusal
prune_result c h =
    if nat_lt (readable c) h then Err (AheadOfMark (readable c))
    else if nat_le h c.horizon then Ok c
    else Ok (record c { horizon = h; rows = without_ended c.ends h c.rows; ends = without_ended c.ends h c.ends })

-- whether two facts give a version key different values
abbrev pub conflict : {X : Type 0} → (X → X → Bool) → List (VersionKey × X) → Bool
conflict same facts = list_any (λ e. list_any (λ f. eq_by_cmp version_key_cmp e.0 f.0 && not (same e.1 f.1)) facts) facts

-- why the first of the items that is none of the log is none
abbrev pub first_wrong_log : ConfigValue → List Item → Option Refusal
first_wrong_log config [] = None
first_wrong_log config (item ∷ items) = or_else (wrong_log config.log config.streams item) (first_wrong_log config items)

-- the fragment of these items, where all are of the log: base 0, horizon 0 and all that they tell
abbrev pub gather_result_unless : ConfigValue → List Item → Option Refusal → Result FragmentValue Refusal
gather_result_unless config items (Some why) = Err why
gather_result_unless config items None =
    if conflict same_row (row_facts items) || conflict (λ a b. a == b) (end_facts items) then Err Conflict
    else Ok (part config items 0 0)

-- the fragment of these items
abbrev pub gather_result : ConfigValue → List Item → Result FragmentValue Refusal
gather_result config items = gather_result_unless config items (first_wrong_log config items)
