-- The steps of reading a fragment: what is known of a stream while its bytes are read.
use Rattle.std.specs.Prelude.{◌≡◌, ℕ, nat_le, List, [], Option, None, Ok}
use Rattle.std.specs.FinMap as finmap
use Rattle.std.specs.FinSet as set
use Rattle.hk_types.specs.declared.version_key.VersionKey.{VersionKey}
use Rattle.hk_model.specs.Replica.Streams.{StreamContent, covers}
use Rattle.hk_marks.specs.Seen.{up_to}
use Rattle.hk_fragment.specs.Parts.{Known}
use Rattle.hk_frames.specs.Fields.{list_at}
use Rattle.hk_fragment_bytes.specs.declared.stream_reading.Start.{Start}
use Rattle.hk_answers.specs.Readers.{Reader, Chained}
use Rattle.hk_fragment_bytes.specs.Fragments.{WireStream, extra_at, waiting_at, stream_at, fact_at, no_stream, ExtraFits, WaitingFits}

-- what is seen of a head: the log, the number of its streams, the base and the horizon
abbrev pub head_seen : Start → ℕ × (ℕ × (ℕ × ℕ))
head_seen head = (head.config.log, (head.config.streams, (head.base, head.horizon)))

-- the stream of which this is told: the numbers up to the prefix and the extra ones are taken, and the marks wait
abbrev pub stream_made : WireStream → StreamContent
stream_made s = record { taken = set.union (up_to s.prefix) (set.from_list s.extra); closed = s.closed; waiting = finmap.from_entries s.waiting }

-- with neither extra numbers nor waiting marks
abbrev pub stream_without_marks : ℕ → ℕ → StreamContent
stream_without_marks prefix closed = stream_made (record { prefix = prefix; closed = closed; extra = []; waiting = [] })

-- so many extra numbers, the first of them after the one before it
abbrev pub extras_at : ℕ → ℕ → Option ℕ → Reader (List ℕ)
extras_at prefix count before bytes = list_at (λ n. n) (extra_at prefix) count before bytes

-- so many waiting marks
abbrev pub waits_at : ℕ → ℕ → Option ℕ → Reader (List (ℕ × ℕ))
waits_at prefix count before bytes = list_at (λ m. m.0) (waiting_at prefix) count before bytes

-- so many streams
abbrev pub streams_at : ℕ → Option (Unit {0}) → Reader (List WireStream)
streams_at count before bytes = list_at no_stream (λ _. stream_at) count before bytes

-- so many facts
abbrev pub fact_list_at : ℕ → ℕ → ℕ → Option VersionKey → Reader (List Known)
fact_list_at base horizon count before bytes = list_at (λ e. e.0) (fact_at base horizon) count before bytes

-- a stream that was closed at a time has taken the extra numbers that the bytes have
pub record TakesExtra (prefix count closed : ℕ) (bytes rest : List ℕ) (after : StreamContent) : Type 0 where
  pub extra : List ℕ
  pub read : extras_at prefix count None bytes ≡ Ok (extra, rest)
  pub fit : Chained (λ n. n) (ExtraFits prefix) None extra
  pub made : after ≡ stream_made (record { prefix = prefix; closed = closed; extra = extra; waiting = [] })

-- a stream with this prefix in which no mark waits
pub record IsReady (prefix : ℕ) (s : StreamContent) : Type 0 where
  pub covers_all : (n : ℕ) → covers s.taken n ≡ nat_le n prefix
  pub none : s ≡ record s { waiting = finmap.from_entries [] }

-- such a stream has taken the waiting marks that the bytes have
pub record TakesWaits (prefix count : ℕ) (before : StreamContent) (bytes rest : List ℕ) (after : StreamContent) : Type 0 where
  pub waiting : List (ℕ × ℕ)
  pub read : waits_at prefix count None bytes ≡ Ok (waiting, rest)
  pub fit : Chained (λ m. m.0) (WaitingFits prefix) None waiting
  pub made : after ≡ record before { waiting = finmap.from_entries waiting }
