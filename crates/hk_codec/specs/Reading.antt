-- Reading the rest of an item's frame from left to right, with the first fault that is met.
use Rattle.std.specs.Prelude.{ℕ, ◌+◌, ◌^◌, true, false, ◌&&◌, ◌||◌, ◌==◌, nat_lt, if◌then◌else◌, List, [], length, Option, None, Result, Ok}
use Rattle.std.specs.Int.{w16, w32, w64}
use Rattle.hk_types.specs.Values.{RowValue}
use Rattle.hk_types.specs.declared.version_key.VersionKey.{VersionKey}
use Rattle.hk_types.specs.declared.faults.FormFault.{FormFault}
use Rattle.hk_types.specs.declared.faults.FormFault.TheVariants.{BadVersion, BadKind, BadStream, BadNumber, BadOrder, BadCount, WrongLength}
use Rattle.hk_log.specs.Items.{EntryValue, MarkValue, end_place, row_place, is_after}
use Rattle.hk_log.specs.declared.item.Item.{Item}
use Rattle.hk_log.specs.declared.item.Item.TheVariants.{Commit, Closed}
use Rattle.hk_frames.specs.Fields.{◌>>=◌, check, byte_at, number_at, body_at, list_at}
use Rattle.hk_codec.specs.declared.reading.FrameHead.{FrameHead}
use Rattle.hk_codec.specs.Encoding.{WrittenItem}
use Rattle.hk_codec.specs.Lists.{groups_at}

-- an end of this table after the place before it, of an entry with this time
unfoldable pub keyed_end_at : ℕ → ℕ → Option (ℕ × ℕ) → List ℕ → Result (VersionKey × List ℕ) FormFault
keyed_end_at time table before bytes = do
  key ← number_at w64 bytes
  born ← number_at w64 key.1
  _ ← check (if is_after before (table, key.0) then false else true) BadOrder
  _ ← check (if nat_lt 0 born.0 && nat_lt born.0 time then false else true) BadNumber
  Ok (record { table = table; key = key.0; born = born.0 }, born.1)

-- an end behind its table
unfoldable pub end_at : ℕ → Option (ℕ × ℕ) → List ℕ → Result (VersionKey × List ℕ) FormFault
end_at time before bytes = do
  table ← number_at w16 bytes
  keyed_end_at time table.0 before table.1

-- a row of this table after the place before it
unfoldable pub keyed_row_at : ℕ → Option (ℕ × ℕ) → List ℕ → Result ((ℕ × ℕ × RowValue) × List ℕ) FormFault
keyed_row_at table before bytes = do
  key ← number_at w64 bytes
  _ ← check (if is_after before (table, key.0) then false else true) BadOrder
  tag ← number_at w32 key.1
  body ← body_at tag.1
  Ok ((table, key.0, record { tag = tag.0; body = body.0 }), body.1)

-- a row behind its table
unfoldable pub row_at : Option (ℕ × ℕ) → List ℕ → Result ((ℕ × ℕ × RowValue) × List ℕ) FormFault
row_at before bytes = do
  table ← number_at w16 bytes
  keyed_row_at table.0 before table.1

-- so many ends
abbrev pub ends_at : ℕ → ℕ → Option (ℕ × ℕ) → List ℕ → Result (List VersionKey × List ℕ) FormFault
ends_at time count before bytes = list_at end_place (end_at time) count before bytes

-- so many rows
abbrev pub rows_at : ℕ → Option (ℕ × ℕ) → List ℕ → Result (List (ℕ × ℕ × RowValue) × List ℕ) FormFault
rows_at count before bytes = list_at row_place row_at count before bytes

-- the number and the time of an entry
unfoldable pub moment_at : List ℕ → Result ((ℕ × ℕ) × List ℕ) FormFault
moment_at bytes = do
  number ← number_at w64 bytes
  time ← number_at w64 number.1
  _ ← check (nat_lt number.0 1 || nat_lt time.0 number.0 || nat_lt (2 ^ 62) time.0) BadNumber
  Ok ((number.0, time.0), time.1)

-- the ends behind their count
unfoldable pub counted_ends_at : ℕ → List ℕ → Result (List VersionKey × List ℕ) FormFault
counted_ends_at time bytes = do
  count ← number_at w16 bytes
  _ ← check (nat_lt 1024 count.0) BadCount
  ends_at time count.0 None count.1

-- the rows behind their count, at least one where there are no ends
unfoldable pub counted_rows_at : ℕ → List ℕ → Result (List (ℕ × ℕ × RowValue) × List ℕ) FormFault
counted_rows_at ends bytes = do
  count ← number_at w16 bytes
  _ ← check (nat_lt 1024 count.0 || nat_lt (ends + count.0) 1) BadCount
  rows_at count.0 None count.1

-- the ends in groups, behind the count of these
unfoldable pub grouped_ends_at : ℕ → List ℕ → Result (List VersionKey × List ℕ) FormFault
grouped_ends_at time bytes = do
  count ← number_at w16 bytes
  _ ← check (nat_lt 1024 count.0) BadCount
  groups_at end_place (keyed_end_at time) count.0 [] count.1

-- the rows in groups, behind the count of these, at least one where there are no ends
unfoldable pub grouped_rows_at : ℕ → List ℕ → Result (List (ℕ × ℕ × RowValue) × List ℕ) FormFault
grouped_rows_at ends bytes = do
  count ← number_at w16 bytes
  _ ← check (nat_lt 1024 count.0 || nat_lt (ends + count.0) 1) BadCount
  groups_at row_place keyed_row_at count.0 [] count.1

-- the ends in a version
abbrev pub ends_of_version : ℕ → ℕ → List ℕ → Result (List VersionKey × List ℕ) FormFault
ends_of_version version time bytes = if version == 1 then counted_ends_at time bytes else grouped_ends_at time bytes

-- the rows in a version
abbrev pub rows_of_version : ℕ → ℕ → List ℕ → Result (List (ℕ × ℕ × RowValue) × List ℕ) FormFault
rows_of_version version ends bytes = if version == 1 then counted_rows_at ends bytes else grouped_rows_at ends bytes

-- what an entry has behind its head, in a version
unfoldable pub entry_at : ℕ → ℕ → ℕ → List ℕ → Result (EntryValue × List ℕ) FormFault
entry_at version log stream bytes = do
  moment ← moment_at bytes
  ends ← ends_of_version version moment.0.1 moment.1
  rows ← rows_of_version version (length ends.0) ends.1
  Ok (record { log = log; stream = stream; number = moment.0.0; time = moment.0.1; ends = ends.0; rows = rows.0 }, rows.1)

-- what a mark has behind its head
unfoldable pub mark_at : ℕ → ℕ → List ℕ → Result (MarkValue × List ℕ) FormFault
mark_at log stream bytes = do
  count ← number_at w64 bytes
  upto ← number_at w64 count.1
  _ ← check (nat_lt upto.0 count.0 || nat_lt (2 ^ 62) upto.0) BadNumber
  Ok (record { log = log; stream = stream; count = count.0; upto = upto.0 }, upto.1)

-- the version, the kind, the log and the stream
pub record HeadValue : Type 0 where
  pub version : ℕ
  pub kind : ℕ
  pub log : ℕ
  pub stream : ℕ

-- what is seen of a head
abbrev pub head_seen : FrameHead → HeadValue
head_seen head = record { version = head.version; kind = head.kind; log = head.log; stream = head.stream }

-- what an entry has behind this head
abbrev pub entry_behind : HeadValue → List ℕ → Result (EntryValue × List ℕ) FormFault
entry_behind head bytes = entry_at head.version head.log head.stream bytes

-- version 1 or 2, then a kind that has a meaning, the log, and a stream of 1 to 64
unfoldable pub head_at : List ℕ → Result (HeadValue × List ℕ) FormFault
head_at bytes = do
  version ← byte_at bytes
  _ ← check (if version.0 == 1 || version.0 == 2 then false else true) BadVersion
  kind ← byte_at version.1
  _ ← check (if kind.0 == 1 || kind.0 == 2 then false else true) BadKind
  log ← number_at w64 kind.1
  stream ← number_at w16 log.1
  _ ← check (nat_lt stream.0 1 || nat_lt 64 stream.0) BadStream
  Ok (record { version = version.0; kind = kind.0; log = log.0; stream = stream.0 }, stream.1)

-- what stands behind the head
unfoldable pub kind_at : HeadValue → List ℕ → Result (Item × List ℕ) FormFault
kind_at head bytes =
    if head.kind == 1 then (entry_at head.version head.log head.stream bytes >>= λ e. Ok (Commit e.0, e.1))
    else (mark_at head.log head.stream bytes >>= λ k. Ok (Closed k.0, k.1))

-- the item that is all of the bytes, with its version
unfoldable pub item_at : List ℕ → Result WrittenItem FormFault
item_at bytes = do
  head ← head_at bytes
  item ← kind_at head.0 head.1
  _ ← check (nat_lt 0 (length item.1)) WrongLength
  Ok (record { version = head.0.version; item = item.0 })
