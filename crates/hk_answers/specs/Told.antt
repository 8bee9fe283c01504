-- Pages of rows, and what is told of streams: their values, their encoding and their reading.
use Rattle.std.specs.Prelude.{ℕ, ◌^◌, ◌<◌, ◌≤◌, Bool, true, false, ◌&&◌, ◌==◌, nat_le, nat_lt, if◌then◌else◌, List, [], ◌∷◌, ◌++◌, length, Option, Some, None, Err}
use Rattle.std.specs.Int.{w16, w64}
use Rattle.std.specs.List.{flat_map, AllByRecursion}
use Rattle.hk_types.specs.declared.faults.FormFault.TheVariants.{BadNumber}
use Rattle.hk_frames.specs.Fields.{number, number_at, list_at}
use Rattle.hk_answers.specs.Readers.{Reader, both, mapped_value, nothing, by_kind, list_by, time_at, stream_count_at, DiedFits, is_ops, ops_at, front_at}
use Rattle.hk_answers.specs.Answers.{rows_text, rows_at, keys_rise, KeyedFits}
use Rattle.hk_model.specs.Replica.Pages.{PageValue}
use Rattle.hk_model.specs.Replica.StreamsTold.{StreamsValue}
use Rattle.hk_model.specs.declared.streams_told.StreamTold.{StreamTold}

-- ---- yes or no

-- 1 for yes, 0 for no
abbrev pub flag : Bool → ℕ
flag b = if b then 1 else 0

abbrev pub flag_text : Bool → List ℕ
flag_text b = flag b ∷ []

-- the answer of a flag
unfoldable pub flag_of : ℕ → Reader Bool
flag_of n bytes = if n == 0 then nothing false bytes else if n == 1 then nothing true bytes else Err BadNumber

unfoldable pub flag_at : Reader Bool
flag_at bytes = by_kind flag_of bytes

-- ---- pages

-- whether more rows follow, and the rows
abbrev pub page_text : PageValue → List ℕ
page_text page = flag_text page.more ++ rows_text page.rows

-- whether the rows of a page can be counted and their keys rise strictly
abbrev pub page_keeps_rules : PageValue → Bool
page_keeps_rules page = nat_lt (length page.rows) (2 ^ 32) && keys_rise None page.rows

-- a page whose numbers and bodies fit their fields
abbrev pub PageFits : PageValue → Type 0
PageFits page = AllByRecursion KeyedFits page.rows

unfoldable pub page_at : Reader PageValue
page_at bytes = mapped_value (λ p. record { rows = p.1; more = p.0 }) (both flag_at rows_at) bytes

-- ---- streams

-- a stream: its prefix, its closed time, how many extra numbers it has, and how many marks wait
unfoldable pub told_text : StreamTold → List ℕ
told_text s = number w64 s.prefix ++ (number w64 s.closed ++ (number w64 s.extra ++ number w64 s.waiting))

-- whether a hold stands
abbrev pub hold_flag : Option ℕ → ℕ
hold_flag None = 0
hold_flag (Some t) = 1

-- the time that is held, where there is one
abbrev pub hold_fields : Option ℕ → List ℕ
hold_fields None = []
hold_fields (Some t) = number w64 t

abbrev pub hold_text : Option ℕ → List ℕ
hold_text hold = hold_flag hold ∷ hold_fields hold

-- the streams behind their number
abbrev pub told_streams_text : List StreamTold → List ℕ
told_streams_text streams = number w16 (length streams) ++ flat_map told_text streams

-- the log, the horizon, the readable mark, whether the node is damaged, its operations, the least hold, the streams
unfoldable pub streams_text : StreamsValue → List ℕ
streams_text s =
    number w64 s.log ++ ((number w64 s.horizon ++ number w64 s.readable) ++ (flag_text s.damaged ++ (number w64 s.operations ++ (hold_text s.least_hold ++ told_streams_text s.streams))))

-- whether a log can have so many streams: 1 to 64
abbrev pub are_streams : ℕ → Bool
are_streams n = nat_le 1 n && nat_le n 64

-- whether what is told of streams keeps its rules
abbrev pub streams_keep_rules : StreamsValue → Bool
streams_keep_rules s = nat_le s.horizon s.readable && (is_ops s.operations && are_streams (length s.streams))

-- a stream whose numbers fit their fields
abbrev pub ToldFits : StreamTold → Type 0
ToldFits s = (s.prefix < 2 ^ 64) × ((s.closed ≤ 2 ^ 62) × ((s.extra < 2 ^ 64) × (s.waiting < 2 ^ 64)))

-- what is told of streams, in numbers that fit their fields
pub record StreamsFit (s : StreamsValue) : Type 0 where
  pub log : s.log < 2 ^ 64
  pub horizon : s.horizon ≤ 2 ^ 62
  pub readable : s.readable ≤ 2 ^ 62
  pub operations : s.operations < 2 ^ 64
  pub least_hold : DiedFits s.least_hold
  pub streams : AllByRecursion ToldFits s.streams

-- a stream
unfoldable pub told_at : Reader StreamTold
told_at bytes =
    mapped_value (λ p. record { prefix = p.0; closed = p.1.0; extra = p.1.1.0; waiting = p.1.1.1 })
    (both (number_at w64) (both time_at (both (number_at w64) (number_at w64)))) bytes

-- streams stand in their order
abbrev pub no_place : StreamTold → Unit {0}
no_place s = tt

-- so many streams
abbrev pub told_list_at : ℕ → Option (Unit {0}) → Reader (List StreamTold)
told_list_at count before bytes = list_at no_place (λ _. told_at) count before bytes

-- the streams behind their number
unfoldable pub told_streams_at : Reader (List StreamTold)
told_streams_at bytes = list_by stream_count_at no_place (λ _. told_at) bytes

-- the time of a hold that stands, or none
unfoldable pub hold_of : ℕ → Reader (Option ℕ)
hold_of n bytes = if n == 0 then nothing None bytes else if n == 1 then mapped_value (λ t. Some t) time_at bytes else Err BadNumber

unfoldable pub hold_at : Reader (Option ℕ)
hold_at bytes = by_kind hold_of bytes

-- what is told of streams
unfoldable pub streams_at : Reader StreamsValue
streams_at bytes =
    mapped_value (λ p. record { log = p.0; horizon = p.1.0.0; readable = p.1.0.1; damaged = p.1.1.0; operations = p.1.1.1.0; least_hold = p.1.1.1.1.0; streams = p.1.1.1.1.1 })
    (both (number_at w64) (both front_at (both flag_at (both ops_at (both hold_at told_streams_at))))) bytes
