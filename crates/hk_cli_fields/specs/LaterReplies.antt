-- The lines that are printed of replies of version 2, each with its line feed.
use Rattle.std.specs.Prelude.{ℕ, suc, Bool, if◌then◌else◌, List, [], ◌∷◌, ◌++◌, length, codes, Option, Some, None}
use Rattle.std.specs.List.{flat_map}
use Rattle.std.specs.Fmt.{decimal}
use Rattle.hk_fragment.specs.Parts.{Known}
use Rattle.hk_model.specs.Replica.Pages.{PageValue}
use Rattle.hk_model.specs.Replica.StreamsTold.{StreamsValue}
use Rattle.hk_model.specs.declared.streams_told.StreamTold.{StreamTold}
use Rattle.hk_fragment_bytes.specs.Parts.{WireHead}
use Rattle.hk_messages.specs.LaterReplies.{ReplyValue}
use Rattle.hk_messages.specs.LaterReplies.ReplyValue.{Done, Streams, Latest, Page, Part, LastPart, Added, Held, Refused, Fed, Ready, Stats, Tables}
use Rattle.hk_cli_fields.specs.Metrics.{stats_lines, tables_lines}
use Rattle.hk_cli_fields.specs.Lines.{line_end, field, keyed_line, answer_lines, refusal_line}

-- ---- streams

-- which entries a stream has
abbrev pub taken_part : ℕ → StreamTold → List ℕ
taken_part stream s = codes "stream " ++ decimal stream ++ codes " prefix " ++ decimal s.prefix ++ codes " extra " ++ decimal s.extra

-- up to when it is closed, and how many marks wait
abbrev pub closed_part : StreamTold → List ℕ
closed_part s = codes " closed " ++ decimal s.closed ++ codes " waiting " ++ decimal s.waiting ++ line_end

-- what is printed of the stream of a number
abbrev pub told_line : ℕ → StreamTold → List ℕ
told_line stream s = taken_part stream s ++ closed_part s

-- the same of streams that come after so many others
abbrev pub told_lines : ℕ → List StreamTold → List ℕ
told_lines before [] = []
told_lines before (s ∷ streams) = told_line (suc before) s ++ told_lines (suc before) streams

-- from where to where the node can be read, and its operations
abbrev pub readable_part : StreamsValue → List ℕ
readable_part s =
    codes "streams log " ++ decimal s.log ++ codes " horizon " ++ decimal s.horizon ++ codes " readable " ++ decimal s.readable ++ codes " operations " ++ decimal s.operations

-- the least time that is held, where a hold stands
abbrev pub hold_part : Option ℕ → List ℕ
hold_part None = []
hold_part (Some t) = field (codes "held") t

-- whether the node is damaged
abbrev pub damaged_part : Bool → List ℕ
damaged_part damaged = if damaged then codes " damaged" else []

-- what holds the node, and whether it is damaged
abbrev pub state_part : StreamsValue → List ℕ
state_part s = hold_part s.least_hold ++ damaged_part s.damaged ++ line_end

-- what is printed of what is told of streams
abbrev pub streams_lines : StreamsValue → List ℕ
streams_lines s = readable_part s ++ state_part s ++ told_lines 0 s.streams

-- ---- pages

-- whether more rows follow
abbrev pub more_part : Bool → List ℕ
more_part more = if more then codes " more" else codes " all"

-- what is printed of a page
abbrev pub page_lines : PageValue → List ℕ
page_lines page = flat_map keyed_line page.rows ++ codes "page " ++ decimal (length page.rows) ++ more_part page.more ++ line_end

-- ---- parts

-- what is printed of a part: how many facts it has, and how many come after it
abbrev pub part_line : List Known → ℕ → List ℕ
part_line facts left = codes "part " ++ decimal (length facts) ++ codes " left " ++ decimal left ++ line_end

-- what is printed of the last part: how many facts it has, and where the fragment of all parts begins
abbrev pub last_part_line : List Known → WireHead → List ℕ
last_part_line facts head = codes "last part " ++ decimal (length facts) ++ codes " base " ++ decimal head.base ++ line_end

-- ---- holds, items that were fed, and waits

-- what is printed of a hold
abbrev pub held_line : ℕ → ℕ → List ℕ
held_line hold t = codes "held " ++ decimal hold ++ codes " at " ++ decimal t ++ line_end

-- what is printed of items that were fed: the node's operations, and how many of the items were new
abbrev pub fed_line : ℕ → ℕ → List ℕ
fed_line ops new = codes "fed " ++ decimal ops ++ codes " new " ++ decimal new ++ line_end

-- what is printed of a wait that ended: from where to where the node can be read
abbrev pub ready_line : ℕ → ℕ → List ℕ
ready_line horizon readable = codes "ready horizon " ++ decimal horizon ++ codes " readable " ++ decimal readable ++ line_end

-- ---- replies

-- what is printed of a reply
abbrev pub reply_lines : ReplyValue → List ℕ
reply_lines (Done ops) = codes "done " ++ decimal ops ++ line_end
reply_lines (Streams told) = streams_lines told
reply_lines (Latest t a) = codes "latest " ++ decimal t ++ line_end ++ answer_lines a
reply_lines (Page page) = page_lines page
reply_lines (Part left facts) = part_line facts left
reply_lines (LastPart facts head) = last_part_line facts head
reply_lines (Added count) = codes "added " ++ decimal count ++ line_end
reply_lines (Held hold t) = held_line hold t
reply_lines (Refused why) = refusal_line why
reply_lines (Fed ops new) = fed_line ops new
reply_lines (Ready horizon readable) = ready_line horizon readable
reply_lines (Stats metrics) = stats_lines metrics
reply_lines (Tables tables) = tables_lines tables
