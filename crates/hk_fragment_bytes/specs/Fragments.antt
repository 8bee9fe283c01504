-- Fragments: what their bytes tell, their encoding and their reading.
use Rattle.std.specs.Prelude.{◌≡◌, ◌⊎◌, ℕ, ◌+◌, ◌^◌, ◌<◌, ◌≤◌, Bool, true, not, ◌&&◌, ◌||◌, max, min, nat_lt, nat_le, ◌==◌, if◌then◌else◌, List, [], ◌∷◌, ◌++◌, length, map, Option, Some, None, Err}
use Rattle.std.specs.Int.{w16, w32, w64}
use Rattle.std.specs.List.{flat_map, AllByRecursion}
use Rattle.std.specs.Ordering.{nat_cmp}
use Rattle.std.specs.FinMap as finmap
use Rattle.std.specs.FinSet as set
use Rattle.hk_types.specs.Values.{RowValue}
use Rattle.hk_types.specs.declared.version_key.VersionKey.{VersionKey}
use Rattle.hk_types.specs.declared.faults.FormFault.TheVariants.{BadNumber, BadOrder}
use Rattle.hk_log.specs.Versions.{VersionValue}
use Rattle.hk_model.specs.Replica.Streams.{StreamContent, covers, stream_at as content_at}
use Rattle.hk_model.specs.Replica.Fragments.{FragmentValue}
use Rattle.hk_marks.specs.Steps.{extra_numbers}
use Rattle.hk_marks.specs.Told.{prefix_of}
use Rattle.hk_fragment.specs.Parts.{Known, versions_listed, follows, is_valid_end}
use Rattle.hk_frames.specs.Fields.{number, number_at, list_at}
use Rattle.hk_answers.specs.Readers.{Reader, both, after, fault_where, mapped_value, by_kind, list_by_count, time_at, Chained, stream_count_at, DiedFits}
use Rattle.hk_answers.specs.Answers.{row_text, row_at, RowFits, PresentFits}

-- what is told of a stream: the number up to which all are taken, the closed time, the taken numbers above it,
-- and the waiting marks by their counts
pub record WireStream : Type 0 where
  pub prefix : ℕ
  pub closed : ℕ
  pub extra : List ℕ
  pub waiting : List (ℕ × ℕ)

-- what is told of a fragment: its facts as one list of versions
pub record WireFragment : Type 0 where
  pub log : ℕ
  pub base : ℕ
  pub horizon : ℕ
  pub streams : List WireStream
  pub facts : List Known

-- these numbers in rising order, each once
abbrev pub rising_numbers : List ℕ → List ℕ
rising_numbers numbers = finmap.keys (finmap.from_entries {R = nat_cmp} (map (λ n. (n, n)) numbers))

-- what is told of a stream
abbrev pub wire_stream_of : StreamContent → WireStream
wire_stream_of s =
    record {
      prefix = prefix_of s;
      closed = s.closed;
      extra = rising_numbers (set.items (extra_numbers s));
      waiting = finmap.entries s.waiting;
    }

-- what is told of the stream of this number
abbrev pub wire_stream_at : List StreamContent → ℕ → WireStream
wire_stream_at streams s = wire_stream_of (content_at streams s)

-- what is told of a fragment
abbrev pub wire_fragment_of : FragmentValue → WireFragment
wire_fragment_of f =
    record {
      log = f.content.log;
      base = f.base;
      horizon = f.content.horizon;
      streams = map wire_stream_of f.content.streams;
      facts = versions_listed f.content;
    }

-- ---- encoding

-- a count and a time
abbrev pub mark_text : ℕ × ℕ → List ℕ
mark_text m = number w64 m.0 ++ number w64 m.1

-- numbers behind their count
abbrev pub extras_text : List ℕ → List ℕ
extras_text extra = number w32 (length extra) ++ flat_map (number w64) extra

-- marks behind their count
abbrev pub waits_text : List (ℕ × ℕ) → List ℕ
waits_text waiting = number w32 (length waiting) ++ flat_map mark_text waiting

unfoldable pub stream_text : WireStream → List ℕ
stream_text s = number w64 s.prefix ++ (number w64 s.closed ++ (extras_text s.extra ++ waits_text s.waiting))

-- the streams one after the other
abbrev pub streams_text : List StreamContent → List ℕ
streams_text streams = flat_map stream_text (map wire_stream_of streams)

-- 1 with a row, 2 with an end, 3 with both
abbrev pub flags_of : Option RowValue → Option ℕ → ℕ
flags_of None None = 0
flags_of (Some row) None = 1
flags_of None (Some died) = 2
flags_of (Some row) (Some died) = 3

abbrev pub known_flags : VersionValue → ℕ
known_flags x = flags_of x.row x.died

-- the row and the end, as far as they are known
abbrev pub parts_text : Option RowValue → Option ℕ → List ℕ
parts_text None None = []
parts_text (Some row) None = row_text row
parts_text None (Some died) = number w64 died
parts_text (Some row) (Some died) = row_text row ++ number w64 died

abbrev pub known_parts : VersionValue → List ℕ
known_parts x = parts_text x.row x.died

-- the name of a version
abbrev pub version_text : VersionKey → List ℕ
version_text v = number w16 v.table ++ (number w64 v.key ++ number w64 v.born)

-- a version, the flags, and what is known of it
unfoldable pub fact_text : Known → List ℕ
fact_text e = version_text e.0 ++ (known_flags e.1 ∷ known_parts e.1)

-- facts behind their count
abbrev pub facts_text : List Known → List ℕ
facts_text facts = number w32 (length facts) ++ flat_map fact_text facts

unfoldable pub fragment_text : WireFragment → List ℕ
fragment_text f =
    number w64 f.log ++ (number w16 (length f.streams) ++ (number w64 f.base ++ (number w64 f.horizon
    ++ (flat_map stream_text f.streams ++ facts_text f.facts))))

-- what the encoding of a fragment has before its facts
unfoldable pub fragment_front : WireFragment → List ℕ
fragment_front f =
    number w64 f.log ++ (number w16 (length f.streams) ++ (number w64 f.base ++ (number w64 f.horizon
    ++ (flat_map stream_text f.streams ++ number w32 (length f.facts)))))

-- ---- reading

-- a number after the one before it, where there is one
abbrev pub number_follows : Option ℕ → ℕ → Bool
number_follows None n = true
number_follows (Some before) n = nat_lt before n

-- an extra number: after the one before it, above the prefix and the next number, and at most 2^62
unfoldable pub extra_at : ℕ → Option ℕ → Reader ℕ
extra_at prefix before bytes =
    fault_where (fault_where (number_at w64) (λ n. not (number_follows before n)) BadOrder) (λ n. nat_le n (prefix + 1) || nat_lt (2 ^ 62) n) BadNumber bytes

-- the count of a waiting mark: after the one before it, and above the prefix
abbrev pub waiting_count_at : ℕ → Option ℕ → Reader ℕ
waiting_count_at prefix before bytes =
    fault_where (fault_where (number_at w64) (λ n. not (number_follows before n)) BadOrder) (λ n. nat_le n prefix) BadNumber bytes

-- a waiting mark: its time is not below its count
unfoldable pub waiting_at : ℕ → Option ℕ → Reader (ℕ × ℕ)
waiting_at prefix before bytes = fault_where (both (waiting_count_at prefix before) time_at) (λ m. nat_lt m.1 m.0) BadNumber bytes

-- what is told of a stream behind its prefix
abbrev pub stream_of : ℕ → Reader (ℕ × (List ℕ × List (ℕ × ℕ)))
stream_of prefix bytes = both time_at (both (list_by_count (λ n. n) (extra_at prefix)) (list_by_count (λ m. m.0) (waiting_at prefix))) bytes

-- a stream
unfoldable pub stream_at : Reader WireStream
stream_at bytes = mapped_value (λ s. record { prefix = s.0; closed = s.1.0; extra = s.1.1.0; waiting = s.1.1.1 }) (after time_at stream_of) bytes

-- a version after the one before it, born at 1 or later
unfoldable pub version_at : Option VersionKey → Reader VersionKey
version_at before bytes =
    fault_where (fault_where (mapped_value (λ p. record { table = p.0; key = p.1.0; born = p.1.1 }) (both (number_at w16) (both (number_at w64) (number_at w64)))) (λ v. not (follows before v)) BadOrder)
    (λ v. nat_lt v.born 1 || nat_lt (2 ^ 62) v.born) BadNumber bytes

-- an end above the base, the horizon and the birth of its version
abbrev pub died_at : ℕ → ℕ → ℕ → Reader ℕ
died_at base horizon born bytes = fault_where time_at (λ died. not (is_valid_end base horizon born (Some died))) BadNumber bytes

-- what is known of a version, by its flags; a row is of a version that was born above the base
unfoldable pub known_of : ℕ → ℕ → ℕ → ℕ → Reader VersionValue
known_of base horizon born flags bytes =
    if flags == 2 then mapped_value (λ died. record { row = None; died = Some died }) (died_at base horizon born) bytes
    else if nat_le born base then Err BadNumber
    else if flags == 1 then mapped_value (λ row. record { row = Some row; died = None }) row_at bytes
    else if flags == 3 then mapped_value (λ p. record { row = Some p.0; died = Some p.1 }) (both row_at (died_at base horizon born)) bytes
    else Err BadNumber

-- a fact after the version before it
unfoldable pub fact_at : ℕ → ℕ → Option VersionKey → Reader Known
fact_at base horizon before bytes = after (version_at before) (λ v. by_kind (known_of base horizon v.born)) bytes

-- the least closed time of the streams
abbrev pub least_closed_of : List WireStream → ℕ
least_closed_of [] = 0
least_closed_of (s ∷ []) = s.closed
least_closed_of (s ∷ t ∷ more) = min s.closed (least_closed_of (t ∷ more))

-- streams stand in their order
abbrev pub no_stream : WireStream → Unit {0}
no_stream s = tt

-- a base that is 0 or not below the horizon, and the horizon
unfoldable pub bounds_at : Reader (ℕ × ℕ)
bounds_at bytes = fault_where (both time_at time_at) (λ p. not ((p.0 == 0) || nat_le p.1 p.0)) BadNumber bytes

-- so many streams, of which none is closed below the horizon
unfoldable pub streams_at : ℕ → ℕ → Reader (List WireStream)
streams_at horizon count bytes = fault_where (list_at no_stream (λ _. stream_at) count None) (λ streams. nat_lt (least_closed_of streams) horizon) BadNumber bytes

-- the log, the number of streams, the base and the horizon
abbrev pub fragment_head_at : Reader (ℕ × (ℕ × (ℕ × ℕ)))
fragment_head_at bytes = both (number_at w64) (both stream_count_at bounds_at) bytes

-- the facts behind their count
abbrev pub facts_at : ℕ → ℕ → Reader (List Known)
facts_at base horizon bytes = list_by_count (λ e. e.0) (fact_at base horizon) bytes

-- a fragment: the head, the streams, the facts
unfoldable pub fragment_at : Reader WireFragment
fragment_at bytes =
    mapped_value (λ p. record { log = p.0.0.0; base = p.0.0.1.1.0; horizon = p.0.0.1.1.1; streams = p.0.1; facts = p.1 })
    (after (after fragment_head_at (λ h. streams_at h.1.1.1 h.1.0)) (λ p. facts_at p.0.1.1.0 p.0.1.1.1)) bytes

-- ---- what can be told

-- an extra number in its place
abbrev pub ExtraFits : ℕ → Option ℕ → ℕ → Type 0
ExtraFits prefix before n = (number_follows before n ≡ true) × ((prefix + 1 < n) × (n ≤ 2 ^ 62))

-- a waiting mark in its place
abbrev pub WaitingFits : ℕ → Option ℕ → ℕ × ℕ → Type 0
WaitingFits prefix before m = (number_follows before m.0 ≡ true) × ((prefix < m.0) × ((m.0 ≤ m.1) × (m.1 ≤ 2 ^ 62)))

-- a stream: its times are times, and its numbers and marks stand in their places
pub record StreamFits (s : WireStream) : Type 0 where
  pub prefix : s.prefix ≤ 2 ^ 62
  pub closed : s.closed ≤ 2 ^ 62
  pub extra : Chained (λ n. n) (ExtraFits s.prefix) None s.extra
  pub waiting : Chained (λ m. m.0) (WaitingFits s.prefix) None s.waiting

-- a version in its place
abbrev pub VersionFits : Option VersionKey → VersionKey → Type 0
VersionFits before v = (follows before v ≡ true) × ((v.table < 2 ^ 16) × ((v.key < 2 ^ 64) × ((0 < v.born) × (v.born ≤ 2 ^ 62))))

-- an end above the base, the horizon and the birth of its version
abbrev pub EndFits : ℕ → ℕ → ℕ → ℕ → Type 0
EndFits base horizon born died = (died ≤ 2 ^ 62) × (is_valid_end base horizon born (Some died) ≡ true)

-- a row, an end or both, the row of a version that was born above the base
abbrev pub PartsFit : ℕ → ℕ → ℕ → Option RowValue → Option ℕ → Type 0
PartsFit base horizon born None None = ⊥
PartsFit base horizon born (Some row) None = (base < born) × RowFits row
PartsFit base horizon born None (Some died) = EndFits base horizon born died
PartsFit base horizon born (Some row) (Some died) = (base < born) × (RowFits row × EndFits base horizon born died)

-- what is known of a version, in its place
abbrev pub FactFits : ℕ → ℕ → Option VersionKey → Known → Type 0
FactFits base horizon before e = VersionFits before e.0 × PartsFit base horizon e.0.born e.1.row e.1.died

-- a version whose numbers fit their fields
pub record NameFits (v : VersionKey) : Type 0 where
  pub table : v.table < 2 ^ 16
  pub key : v.key < 2 ^ 64
  pub born : v.born ≤ 2 ^ 62

-- a version and what is known of it, whose numbers and body fit their fields
pub record KnownFits (e : Known) : Type 0 where
  pub name : NameFits e.0
  pub row : PresentFits e.1.row
  pub died : DiedFits e.1.died

-- a fragment whose parts fit their fields and keep the rules of fragments
pub record FragmentFits (f : WireFragment) : Type 0 where
  pub log : f.log < 2 ^ 64
  pub least : 1 ≤ length f.streams
  pub most : length f.streams ≤ 64
  pub base : f.base ≤ 2 ^ 62
  pub horizon : f.horizon ≤ 2 ^ 62
  pub base_above : (f.base ≡ 0) ⊎ (f.horizon ≤ f.base)
  pub within : f.horizon ≤ least_closed_of f.streams
  pub streams : AllByRecursion StreamFits f.streams
  pub facts : Chained (λ e. e.0) (FactFits f.base f.horizon) None f.facts

-- ---- what can be counted

-- whether the numbers and the marks of a stream can be counted
abbrev pub stream_is_counted : WireStream → Bool
stream_is_counted s = nat_lt (length s.extra) (2 ^ 32) && nat_lt (length s.waiting) (2 ^ 32)

abbrev pub streams_are_counted : List WireStream → Bool
streams_are_counted [] = true
streams_are_counted (s ∷ streams) = stream_is_counted s && streams_are_counted streams

-- whether all of a fragment can be counted
abbrev pub is_counted : WireFragment → Bool
is_counted f = streams_are_counted f.streams && nat_lt (length f.facts) (2 ^ 32)

-- a fragment of base 0
unfoldable pub whole_at : Reader WireFragment
whole_at bytes = fault_where fragment_at (λ fragment. not (fragment.base == 0)) BadNumber bytes
