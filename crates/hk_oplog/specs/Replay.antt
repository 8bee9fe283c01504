-- What a list of operations comes to, and which lists are legal.
use Rattle.std.specs.Prelude.{ℕ, ◌≡◌, ◌+◌, ◌^◌, Bool, true, false, not, ◌&&◌, ◌||◌, ◌==◌, nat_lt, min, if◌then◌else◌, List, [], ◌∷◌, ◌++◌, length, fold, filter, Option, Some, None, Result, Ok, Err, is_none, MatchResult}
use Rattle.std.specs.List.{list_any}
use Rattle.hk_types.specs.Values.{ConfigValue}
use Rattle.hk_types.specs.declared.faults.Refusal.{Refusal}
use Rattle.hk_types.specs.declared.faults.Refusal.TheVariants.{Conflict, ForeignLog, WrongStreams, Gap, AheadOfMark, TooOld, Held, Damaged, NodeFull, NoHold}
use Rattle.hk_model.specs.Replica.Maps.{or_else}
use Rattle.hk_model.specs.Replica.Content.{Content, readable}
use Rattle.hk_model.specs.Replica.Fragments.{FragmentValue}
use Rattle.hk_model.specs.Replica.Replicas.{empty_content}
use Rattle.hk_model.specs.Replica.Rules.{contents_conflict, join_result, prune_result}
use Rattle.hk_model.specs.Replica.Touches.{join_touches_past, prune_touches_past}
use Rattle.hk_oplog.specs.declared.op.Hold.{Hold}
use Rattle.hk_oplog.specs.declared.op.NodeKind.{NodeKind}
use Rattle.hk_oplog.specs.declared.op.Op.{Op}
use Rattle.hk_oplog.specs.declared.op.Op.TheVariants.{Start, Join, Merge, Prune, Hold as HoldAt, Release}
use Rattle.hk_oplog.specs.NodeContent.{NodeContent}

-- the number of the next operation, after so many
abbrev pub next_op : ℕ → Result ℕ Refusal
next_op count = if nat_lt count (2 ^ 62) then Ok (count + 1) else Err NodeFull

-- ---- holds

-- whether a hold is of the lesser time, or at one time of the lesser number
abbrev pub is_before : Hold → Hold → Bool
is_before h g = nat_lt h.at g.at || ((h.at == g.at) && nat_lt h.reader g.reader)

abbrev pub first_of_two : Option Hold → Hold → Option Hold
first_of_two None h = Some h
first_of_two (Some g) h = if is_before h g then Some h else Some g

-- the hold of the least time, and of the least number there
abbrev pub least_hold : List Hold → Option Hold
least_hold holds = fold first_of_two None holds

-- the lower of a time and that of a hold
abbrev pub up_to_hold : ℕ → Option Hold → ℕ
up_to_hold t None = t
up_to_hold t (Some h) = min t h.at

-- how far a prune to a time reaches: to the least hold that stands, where that is lower
abbrev pub prune_reach : NodeContent → ℕ → ℕ
prune_reach c t = up_to_hold t (least_hold c.holds)

abbrev pub is_hold : ℕ → ℕ → Hold → Bool
is_hold reader at h = (h.reader == reader) && (h.at == at)

-- ---- refusals

abbrev pub full_refusal : NodeContent → Option Refusal
full_refusal c = if nat_lt c.op_count (2 ^ 62) then None else Some NodeFull

abbrev pub passed_hold : ℕ → Option Hold → Option Refusal
passed_hold horizon None = None
passed_hold horizon (Some h) = if nat_lt h.at horizon then Some (Held h.reader h.at) else None

-- the hold that the horizon of a join would pass, where it rises to this
abbrev pub held_refusal : NodeContent → ℕ → Option Refusal
held_refusal c horizon = if nat_lt c.content.horizon horizon then passed_hold horizon (least_hold c.holds) else None

-- why a fragment of this log, so many streams, this base and this horizon does not fit
abbrev pub fit_refusal : NodeContent → ℕ → ℕ → ℕ → ℕ → Option Refusal
fit_refusal c log streams base horizon =
    if c.damaged then Some Damaged
    else if not (log == c.content.log) then Some ForeignLog
    else if not (streams == length c.content.streams) then Some WrongStreams
    else if nat_lt (readable c.content) base then Some (Gap base (readable c.content))
    else held_refusal c horizon

-- why a fragment is not joined, but for a conflict
abbrev pub fit_or_full : NodeContent → FragmentValue → Option Refusal
fit_or_full c f = or_else (fit_refusal c f.content.log (length f.content.streams) f.base f.content.horizon) (full_refusal c)

-- why a guarded node does not join what conflicts with what it holds
abbrev pub guard_refusal : NodeContent → Content → Option Refusal
guard_refusal c told = if c.guarded && contents_conflict c.content told then Some Conflict else None

-- why a guarded node refuses what touches the past of what it holds: it would change an answer that was given, or could
abbrev pub past_refusal : NodeContent → Bool → Option Refusal
past_refusal c touches = if c.guarded && touches then Some Conflict else None

-- why a fragment is not joined: it does not fit, the node is guarded and it conflicts or touches the past, or there is no
-- room for one operation more
abbrev pub join_refused : NodeContent → FragmentValue → Option Refusal
join_refused c f =
    or_else (fit_refusal c f.content.log (length f.content.streams) f.base f.content.horizon)
    (or_else (guard_refusal c f.content) (or_else (past_refusal c (join_touches_past c.content f)) (full_refusal c)))

-- the same, whether or not it touches the past
abbrev pub join_unfit : NodeContent → FragmentValue → Option Refusal
join_unfit c f =
    or_else (fit_refusal c f.content.log (length f.content.streams) f.base f.content.horizon) (or_else (guard_refusal c f.content) (full_refusal c))

abbrev pub hold_refusal : NodeContent → ℕ → Option Refusal
hold_refusal c at =
    if c.damaged then Some Damaged
    else if nat_lt at c.content.horizon then Some (TooOld c.content.horizon)
    else full_refusal c

abbrev pub release_refusal : NodeContent → ℕ → ℕ → Option Refusal
release_refusal c reader at =
    if c.damaged then Some Damaged
    else if list_any (is_hold reader at) c.holds then full_refusal c
    else Some NoHold

-- why an operation is refused, if it is. A conflict is a refusal of a join in a guarded node alone, since it damages
-- another, and so is what touches the past, which an unguarded node does not look at; a hold is none of a prune, which
-- stops there
abbrev pub refusal_of : NodeContent → Op → Option Refusal
refusal_of c (Start kind) = Some Damaged
refusal_of c (Join f) = join_refused c f
refusal_of c (Merge f) = join_refused c f
refusal_of c (Prune h) =
    if c.damaged then Some Damaged
    else if nat_lt (readable c.content) h then Some (AheadOfMark (readable c.content))
    else or_else (past_refusal c (prune_touches_past c.content (prune_reach c h))) (full_refusal c)
refusal_of c (HoldAt at) = hold_refusal c at
refusal_of c (Release reader at) = release_refusal c reader at

-- why an operation is refused, whether or not it touches the past. What was let into a list is not looked at again for that
abbrev pub unfit_of : NodeContent → Op → Option Refusal
unfit_of c (Start kind) = Some Damaged
unfit_of c (Join f) = join_unfit c f
unfit_of c (Merge f) = join_unfit c f
unfit_of c (Prune h) =
    if c.damaged then Some Damaged
    else if nat_lt (readable c.content) h then Some (AheadOfMark (readable c.content))
    else full_refusal c
unfit_of c (HoldAt at) = hold_refusal c at
unfit_of c (Release reader at) = release_refusal c reader at

-- ---- effects

abbrev pub after_join : NodeContent → Result Content Refusal → NodeContent
after_join c (Ok content) = record c { content = content; op_count = c.op_count + 1 }
after_join c (Err why) = record c { damaged = true; op_count = c.op_count + 1 }

-- a conflict that a join meets leaves a guarded node as it is, which refuses such a join
abbrev pub after_conflict : NodeContent → NodeContent
after_conflict c = if c.guarded then c else record c { damaged = true; op_count = c.op_count + 1 }

abbrev pub after_prune : NodeContent → Result Content Refusal → NodeContent
after_prune c (Ok content) = record c { content = content; op_count = c.op_count + 1 }
after_prune c (Err why) = record c { op_count = c.op_count + 1 }

-- what a node holds at its start
abbrev pub start_content : NodeKind → NodeContent
start_content kind =
    record { content = empty_content kind.config; holds = []; damaged = false; guarded = kind.guarded; hold_count = 0; op_count = 1 }

-- what an operation makes of what a node holds, where it is not refused
abbrev pub effect : NodeContent → Op → NodeContent
effect c (Start kind) = start_content kind
effect c (Join f) = after_join c (join_result c.content f)
effect c (Merge f) = after_join c (join_result c.content f)
effect c (Prune h) = after_prune c (prune_result c.content (prune_reach c h))
effect c (HoldAt at) = record c { holds = c.holds ++ (record { reader = c.hold_count + 1; at = at }) ∷ []; hold_count = c.hold_count + 1; op_count = c.op_count + 1 }
effect c (Release reader at) = record c { holds = filter (λ h. not (is_hold reader at h)) c.holds; op_count = c.op_count + 1 }

abbrev pub unless : Option Refusal → NodeContent → NodeContent → NodeContent
unless None kept next = next
unless (Some why) kept next = kept

-- what an operation of a list makes of what a node holds: one that does not fit changes nothing
abbrev pub content_after_op : NodeContent → Op → NodeContent
content_after_op c op = unless (unfit_of c op) c (effect c op)

-- a call made what an operation makes, or memory ran out and nothing changed
abbrev pub IsApplied : {A B : Type 0} → NodeContent → Op → NodeContent → Result A B → Type 0
IsApplied old op new result = MatchResult result (λ _. new ≡ content_after_op old op) (λ _. new ≡ old)

-- ---- lists of operations

-- of which log a node is, and whether it is guarded
abbrev pub kind_of : List Op → NodeKind
kind_of (Start kind ∷ ops) = kind
kind_of _ = record { config = record { log = 0; streams = 0 }; guarded = false }

-- the log that a node is of
abbrev pub config_of : List Op → ConfigValue
config_of ops = (kind_of ops).config

-- whether a node is guarded
abbrev pub guarded_of : List Op → Bool
guarded_of ops = (kind_of ops).guarded

abbrev pub tail_of : List Op → List Op
tail_of [] = []
tail_of (op ∷ ops) = ops

-- what a list of operations comes to
abbrev pub replay : List Op → NodeContent
replay ops = fold content_after_op (start_content (kind_of ops)) (tail_of ops)

-- whether no operation is refused at its place
abbrev pub legal_from : NodeContent → List Op → Bool
legal_from c [] = true
legal_from c (op ∷ ops) = is_none (refusal_of c op) && legal_from (content_after_op c op) ops

-- whether a list begins with a start, and none of the others is refused at its place
abbrev pub is_legal : List Op → Bool
is_legal (Start kind ∷ ops) = legal_from (start_content kind) ops
is_legal _ = false

-- a legal list of a node of this log, guarded or not
abbrev pub IsListOf : NodeKind → List Op → Type 0
IsListOf kind ops = (is_legal ops ≡ true) × (kind_of ops ≡ kind)
