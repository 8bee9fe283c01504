-- What a host over a state answers, and what state it is left in.
use Rattle.std.specs.Prelude.{ℕ, ◌≡◌, ◌⊎◌, ◌+◌, ◌^◌, ◌&&◌, Bool, true, false, List, length, nat_lt, is_ok, if◌then◌else◌, Result, Ok, Err}
use Rattle.hk_types.specs.Values.{ConfigValue}
use Rattle.hk_types.specs.declared.faults.FormFault.TheVariants.{BadKind}
use Rattle.hk_types.specs.declared.faults.Refusal.{Refusal}
use Rattle.hk_types.specs.declared.faults.Refusal.TheVariants as refusals
use Rattle.hk_log.specs.declared.item.Item.{Item}
use Rattle.hk_model.specs.Replica.Answers.{AnswerValue, reply}
use Rattle.hk_model.specs.Replica.Content.{Content, readable}
use Rattle.hk_model.specs.Replica.Fragments.{FragmentValue, cut}
use Rattle.hk_model.specs.Replica.Rules.{gather_result, join_result, prune_result}
pub use Rattle.hk_delta.specs.Joins.{joined_if}
use Rattle.hk_query.specs.Memory.{asking_may_lack}
use Rattle.hk_messages.specs.declared.reply.Reply.{Reply}
use Rattle.hk_messages.specs.declared.request.Request.{Request}
use Rattle.hk_messages.specs.declared.request.Request.TheVariants as asked
use Rattle.hk_fragment_bytes.specs.Fragments.{wire_fragment_of}
use Rattle.hk_messages.specs.Replies.{ReplyValue, Done, Front, Fragment, Answer, Refused, reply_seen}
use Rattle.hk_state_host.specs.Values.{HostValue}

-- the log of a content, and how many streams it has
abbrev pub config_of : Content → ConfigValue
config_of c = record { log = c.log; streams = length c.streams }

-- an accepted change counts as one operation and is answered with their number; a refused one changes nothing
abbrev pub change_reply : HostValue → Result Content Refusal → ReplyValue × HostValue
change_reply h (Ok c) = (Done (h.ops + 1), record { content = c; ops = h.ops + 1 })
change_reply h (Err why) = (Refused why, h)

-- a change; after the last operation it is refused before any other test
abbrev pub change_step : HostValue → Result Content Refusal → ReplyValue × HostValue
change_step h outcome = if nat_lt h.ops (2 ^ 62) then change_reply h outcome else (Refused refusals.NodeFull, h)

-- the answer to a query, or why there is none
abbrev pub query_reply : Result AnswerValue Refusal → ReplyValue
query_reply (Ok a) = Answer a
query_reply (Err why) = Refused why

-- what a content knows since a time, where its horizon is not above it
abbrev pub since : Content → ℕ → Result FragmentValue Refusal
since c base = if nat_lt base c.horizon then Err (refusals.TooOld c.horizon) else Ok (cut c base)

-- a fragment that is handed out, or why there is none
abbrev pub fragment_reply : Result FragmentValue Refusal → ReplyValue
fragment_reply (Ok f) = Fragment (wire_fragment_of f)
fragment_reply (Err why) = Refused why

-- the reply to a request, and the host after it; one of version 2 has no meaning here
abbrev pub answer_step : HostValue → Request → ReplyValue × HostValue
answer_step h (asked.Items items) = change_step h (joined_if h.content (gather_result (config_of h.content) items.items))
answer_step h asked.Front = (Front h.content.horizon (readable h.content), h)
answer_step h (asked.Delta base) = (fragment_reply (since h.content base), h)
answer_step h asked.Full = (fragment_reply (Ok (cut h.content 0)), h)
answer_step h (asked.Ask t query) = (query_reply (reply h.content t query), h)
answer_step h (asked.JoinThis fragment) = change_step h (join_result h.content fragment)
answer_step h (asked.MergeThis fragment) = change_step h (join_result h.content fragment)
answer_step h (asked.Prune horizon) = change_step h (prune_result h.content horizon)
answer_step h (asked.Feed items) = (Refused (refusals.Form BadKind), h)
answer_step h (asked.Later request) = (Refused (refusals.Form BadKind), h)

-- whether a change takes memory: where the host has room, and the change itself takes some
abbrev pub change_may_lack : HostValue → Bool → Bool
change_may_lack h takes = nat_lt h.ops (2 ^ 62) && takes

-- the same of one that takes memory wherever it is made
abbrev pub has_room_for : {X : Type 0} → HostValue → Result X Refusal → Bool
has_room_for h made = change_may_lack h (is_ok made)

-- whether a prune takes memory: where it is made, and raises the horizon
abbrev pub prune_takes : Content → ℕ → Bool
prune_takes c horizon = nat_lt c.horizon horizon && is_ok (prune_result c horizon)

-- whether memory may run out at a request: at items where they make a fragment and the host has room; else where the
-- request is not refused, and takes memory
abbrev pub may_lack : HostValue → Request → Bool
may_lack h (asked.Items items) = has_room_for h (gather_result (config_of h.content) items.items)
may_lack h asked.Front = false
may_lack h (asked.Delta base) = is_ok (since h.content base)
may_lack h asked.Full = true
may_lack h (asked.Ask t query) = asking_may_lack (reply h.content t query)
may_lack h (asked.JoinThis fragment) = has_room_for h (join_result h.content fragment)
may_lack h (asked.MergeThis fragment) = has_room_for h (join_result h.content fragment)
may_lack h (asked.Prune horizon) = change_may_lack h (prune_takes h.content horizon)
may_lack h (asked.Feed items) = false
may_lack h (asked.Later request) = false

-- a host replied and was left so: as it is told; or it refused because memory ran out, where it may, and nothing changed
abbrev pub IsGiven : Bool → HostValue → ReplyValue × HostValue → Reply → HostValue → Type 0
IsGiven may old given answer new = ((reply_seen answer, new) ≡ given) ⊎ ((reply_seen answer ≡ Refused refusals.Memory) × (new ≡ old) × (may ≡ true))

-- what a host over a state may do
abbrev pub Step : HostValue → Request → Reply → HostValue → Type 0
Step old request answer new = IsGiven (may_lack old request) old (answer_step old request) answer new

-- a call on a state left what is told, or it changed nothing: it was refused so, or memory ran out, where it may
abbrev pub Changes : Bool → Content → Content → Result Content Refusal → Result (Unit {0}) Refusal → Type 0
Changes may old new given (Ok done) = given ≡ Ok new
Changes may old new given (Err why) = (new ≡ old) × ((given ≡ Err why) ⊎ ((why ≡ refusals.Memory) × (may ≡ true)))

-- the host pruned to this time, or it says why not
abbrev pub PrunesTo : HostValue → ℕ → Reply → HostValue → Type 0
PrunesTo old horizon answer new =
    IsGiven (change_may_lack old (prune_takes old.content horizon)) old (change_step old (prune_result old.content horizon)) answer new

-- what items make in this log: a fragment
abbrev pub gathered : HostValue → List Item → Result FragmentValue Refusal
gathered h items = gather_result (config_of h.content) items

-- the content with what items make
abbrev pub with_items : HostValue → List Item → Result Content Refusal
with_items h items = joined_if h.content (gathered h items)

-- the host's content took what items make, or it says why not; its operations are not counted yet
abbrev pub JoinsItems : HostValue → HostValue → List Item → Result (Unit {0}) Refusal → Type 0
JoinsItems old new items result = Changes (is_ok (gathered old items)) old.content new.content (with_items old items) result

-- the host made this change, or it says why not; where `made` is no refusal memory may run out
abbrev pub MakesChange : {X : Type 0} → HostValue → Result X Refusal → Result Content Refusal → Reply → HostValue → Type 0
MakesChange old made changed answer new = IsGiven (has_room_for old made) old (change_step old changed) answer new

-- the same of a change that tells this itself
abbrev pub Takes : HostValue → Result Content Refusal → Reply → HostValue → Type 0
Takes old changed answer new = MakesChange old changed changed answer new

-- the host handed this fragment out, or it says why not
abbrev pub HandsOut : HostValue → Result FragmentValue Refusal → Reply → Type 0
HandsOut h given answer = IsGiven (is_ok given) h (fragment_reply given, h) answer h

-- the host gave this answer, or it says why not
abbrev pub GivesAnswer : HostValue → Result AnswerValue Refusal → Reply → Type 0
GivesAnswer h given answer = IsGiven (asking_may_lack given) h (query_reply given, h) answer h

-- whatever change of its content came out so, the host counted it and replied to it
abbrev pub Counts : HostValue → HostValue → Result (Unit {0}) Refusal → Reply → Type 0
Counts old new outcome answer =
    (may : Bool) (before : Content) (given : Result Content Refusal) → Changes may before old.content given outcome
    → IsGiven may (record old { content = before }) (change_reply (record old { content = before }) given) answer new
