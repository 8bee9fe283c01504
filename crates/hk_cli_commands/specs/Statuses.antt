-- How far a stream is, and the line that is printed of it.
use Rattle.std.specs.Prelude.{ℕ, zero, suc, List, [], ◌∷◌, ◌++◌, ◌^◌, ◌==◌, Bool, true, not, ◌&&◌, if◌then◌else◌, length, codes}
use Rattle.std.specs.Fmt.{decimal}
use Rattle.hk_model.specs.Replica.Streams.{StreamContent, stream_at}
use Rattle.hk_model.specs.Replica.Content.{least_closed}
use Rattle.hk_marks.specs.Told.{stream_told}
use Rattle.hk_cli_calls.specs.declared.call.OutputForm.{OutputForm}
use Rattle.hk_cli_calls.specs.declared.call.OutputForm.TheVariants.{Lines, Json, Bytes}
use Rattle.hk_cli_json.specs.Statuses.{stream_line}
use Rattle.hk_cli_fields.specs.Lines.{line_end}
use Rattle.hk_cli_commands.specs.declared.status.Standing.{Standing}
use Rattle.hk_cli_commands.specs.declared.status.Standing.TheVariants.{Open, Holds, Retired}
use Rattle.hk_cli_commands.specs.declared.status.StreamStatus.{StreamStatus}

-- whether all streams are closed up to a time and no further
abbrev pub are_closed_at : ℕ → List StreamContent → Bool
are_closed_at time [] = true
are_closed_at time (s ∷ streams) = s.closed == time && are_closed_at time streams

-- what a stream does to the readable mark, by the time up to which it is closed: where that is the last time of all it is
-- retired; where it is the least one, and another stream is closed further, it holds the mark back
abbrev pub standing_of : ℕ → List StreamContent → Standing
standing_of closed streams =
    if closed == 2 ^ 62 then Retired
    else (if closed == least_closed streams && not (are_closed_at closed streams) then Holds else Open)

-- which entries a stream has
abbrev pub taken_part : StreamStatus → List ℕ
taken_part s = codes "stream " ++ decimal s.stream ++ codes " prefix " ++ decimal s.prefix ++ codes " extra " ++ decimal s.extra

-- up to when it is closed, and how many marks wait
abbrev pub closed_part : StreamStatus → List ℕ
closed_part s = codes " closed " ++ decimal s.closed ++ codes " waiting " ++ decimal s.waiting

abbrev pub standing_part : Standing → List ℕ
standing_part Open = codes " open" ++ line_end
standing_part Holds = codes " holds" ++ line_end
standing_part Retired = codes " retired" ++ line_end

-- what is printed of a stream
abbrev pub status_line : StreamStatus → List ℕ
status_line s = taken_part s ++ closed_part s ++ standing_part s.standing

-- how far the stream of a number is
abbrev pub status_of : List StreamContent → ℕ → StreamStatus
status_of streams stream =
    let told = stream_told (stream_at streams stream) in
    record {
      stream = stream;
      prefix = told.prefix;
      extra = told.extra;
      closed = told.closed;
      waiting = told.waiting;
      standing = standing_of told.closed streams;
    }

-- the word of a standing in JSON
abbrev pub word_of : Standing → List ℕ
word_of Open = codes "open"
word_of Holds = codes "holds"
word_of Retired = codes "retired"

-- what is printed of a stream in JSON
abbrev pub status_json : StreamStatus → List ℕ
status_json s = stream_line s.stream s.prefix s.extra s.closed s.waiting (word_of s.standing)

-- what is printed of a stream in a form
abbrev pub line_in : OutputForm → StreamStatus → List ℕ
line_in Lines s = status_line s
line_in Json s = status_json s
line_in Bytes s = status_line s

-- what is printed of the first so many streams
abbrev pub lines_of : OutputForm → List StreamContent → ℕ → List ℕ
lines_of form streams zero = []
lines_of form streams (suc n) = lines_of form streams n ++ line_in form (status_of streams (suc n))

-- what is printed of all streams
abbrev pub all_lines : OutputForm → List StreamContent → List ℕ
all_lines form streams = lines_of form streams (length streams)
