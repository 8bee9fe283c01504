-- The encodings of an item, one in version 1 and one in version 2. All numbers are big-endian.
use Rattle.std.specs.Prelude.{◌≡◌, ℕ, ◌^◌, ◌<◌, ◌≤◌, ◌⊎◌, List, ◌∷◌, ◌++◌, length}
use Rattle.std.specs.List.{AllByRecursion}
use Rattle.std.specs.Int.{w16, w32, w64}
use Rattle.hk_types.specs.Values.{RowValue}
use Rattle.hk_types.specs.declared.version_key.VersionKey.{VersionKey}
use Rattle.hk_log.specs.Items.{EntryValue, MarkValue, IsEntry, IsMark, end_place, row_place}
use Rattle.hk_log.specs.declared.item.Item.{Item}
use Rattle.hk_log.specs.declared.item.Item.TheVariants.{Commit, Closed}
use Rattle.hk_frames.specs.Fields.{number}
use Rattle.hk_codec.specs.Lists.{list_text}

-- an item, and the version that its frame is written in
pub record WrittenItem : Type 0 where
  pub version : ℕ
  pub item : Item

-- an end beside its table: key, born
unfoldable pub keyed_end_text : VersionKey → List ℕ
keyed_end_text v = number w64 v.key ++ number w64 v.born

-- a row beside its table: key, tag, the length of the body, the body
unfoldable pub keyed_row_text : ℕ × ℕ × RowValue → List ℕ
keyed_row_text r = number w64 r.1 ++ (number w32 r.2.tag ++ (number w16 (length r.2.body) ++ r.2.body))

-- the version, the kind, the log, the stream
unfoldable pub head_text : ℕ → ℕ → ℕ → ℕ → List ℕ
head_text version kind log stream = version ∷ kind ∷ number w64 log ++ number w16 stream

-- the length of the rest, its head, and two numbers
abbrev pub front_text : ℕ → ℕ → ℕ → ℕ → ℕ → ℕ × ℕ → List ℕ
front_text rest version kind log stream numbers = number w32 rest ++ (head_text version kind log stream ++ (number w64 numbers.0 ++ number w64 numbers.1))

-- the ends
abbrev pub ends_text : ℕ → List VersionKey → List ℕ
ends_text version vs = list_text version end_place keyed_end_text vs

-- the rows
abbrev pub rows_text : ℕ → List (ℕ × ℕ × RowValue) → List ℕ
rows_text version rs = list_text version row_place keyed_row_text rs

-- number, time, the ends, the rows
unfoldable pub entry_text : ℕ → EntryValue → List ℕ
entry_text version e = number w64 e.number ++ (number w64 e.time ++ (ends_text version e.ends ++ rows_text version e.rows))

-- the number of entries, and the time up to which they are all
unfoldable pub mark_text : MarkValue → List ℕ
mark_text k = number w64 k.count ++ number w64 k.upto

-- what comes after the length, in a version: kind 1 is an entry, kind 2 a mark
unfoldable pub version_text : ℕ → Item → List ℕ
version_text version (Commit e) = head_text version 1 e.log e.stream ++ entry_text version e
version_text version (Closed k) = head_text version 2 k.log k.stream ++ mark_text k

-- the same behind a length
abbrev pub rest_behind : ℕ → ℕ → Item → List ℕ
rest_behind rest version item = number w32 rest ++ version_text version item

-- that of an entry
abbrev pub entry_rest : ℕ → ℕ → EntryValue → List ℕ
entry_rest rest version e = rest_behind rest version (Commit e)

-- what comes after the length
abbrev pub rest_text : WrittenItem → List ℕ
rest_text w = version_text w.version w.item

-- an end whose numbers fit their fields
pub record EndFits (v : VersionKey) : Type 0 where
  pub table : v.table < 2 ^ 16
  pub key : v.key < 2 ^ 64

-- a row whose numbers and body fit their fields
pub record RowFits (r : ℕ × ℕ × RowValue) : Type 0 where
  pub table : r.0 < 2 ^ 16
  pub key : r.1 < 2 ^ 64
  pub tag : r.2.tag < 2 ^ 32
  pub body : length r.2.body ≤ 4096

-- what has encodings: an item as its constructor lets it be, whose parts fit their fields
abbrev pub IsEncodableItem : Item → Type 0
IsEncodableItem (Commit e) = IsEntry e × AllByRecursion EndFits e.ends × AllByRecursion RowFits e.rows
IsEncodableItem (Closed k) = IsMark k

-- such an item, in version 1 or 2
abbrev pub IsWritten : WrittenItem → Type 0
IsWritten w = ((w.version ≡ 1) ⊎ (w.version ≡ 2)) × IsEncodableItem w.item
