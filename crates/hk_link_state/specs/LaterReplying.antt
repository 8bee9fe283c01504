-- What a host that speaks both versions may reply, over a host for version 1.
use Rattle.std.specs.Prelude.{◌≡◌, ◌⊎◌, ℕ, ◌+◌, ◌-◌, ◌++◌, ◌∷◌, [], true, false, nat_lt, if◌then◌else◌, List, length, set, take, filter, Option, Some, None, is_some, Result, Ok, Err, IsOk, IfSome, MatchOption}
use mathlib.Core.List.{IsPrefix}
use Rattle.hk_types.specs.declared.faults.FormFault.{FormFault}
use Rattle.hk_types.specs.declared.faults.FormFault.TheVariants.{BadKind, BadOrder}
use Rattle.hk_types.specs.declared.faults.Refusal.{Refusal}
use Rattle.hk_types.specs.declared.faults.Refusal.TheVariants as refusals
use Rattle.hk_model.specs.declared.page.PageQuery.{PageQuery}
use Rattle.hk_model.specs.declared.front.Front.{Front}
use Rattle.hk_model.specs.declared.query.Query.{Query}
use Rattle.hk_model.specs.Replica.Answers.{AnswerValue}
use Rattle.hk_model.specs.Replica.Fragments.{FragmentValue}
use Rattle.hk_model.specs.Replica.Pages.{PageValue}
use Rattle.hk_fragment.specs.Parts.{Known}
use Rattle.hk_fragment.specs.Heads.{HeadValue, of_facts}
use Rattle.hk_fragment.specs.Assemblies.{rises}
use Rattle.hk_messages.specs.declared.request.Request.{Request}
use Rattle.hk_messages.specs.declared.request.Request.TheVariants as first_asked
use Rattle.hk_messages.specs.declared.reply.Reply.{Reply}
use Rattle.hk_messages.specs.declared.reply.Reply.TheVariants as first_told
use Rattle.hk_messages.specs.Replies as first
use Rattle.hk_messages.specs.declared.later_request.LaterRequest.{LaterRequest}
use Rattle.hk_messages.specs.declared.later_request.LaterRequest.TheVariants as asked
use Rattle.hk_messages.specs.declared.later_reply.LaterReply.{LaterReply}
use Rattle.hk_messages.specs.LaterReplies.{ReplyValue, Done, Streams, Latest, Page, Added, Held, Ready, Stats, Tables, Refused, reply_seen}
use Rattle.hk_oplog.specs.declared.op.Hold.{Hold}
use Rattle.hk_oplog.specs.declared.sizes.NodeSizes.{NodeSizes}
use Rattle.hk_oplog.specs.NodeContent.{NodeContent}
use Rattle.hk_oplog.specs.Replay.{is_legal, replay}
use Rattle.hk_oplog.specs.Replies.{node_front, node_latest, page_asked, node_streams}
use Rattle.hk_link_state.specs.LinkStates.{LinkStateValue, LinkValue, OutgoingValue, more_step, whole_step, held_by, is_other_hold, with_place}
use Rattle.hk_budgets.specs.Budgets.{most_pins}
use Rattle.hk_link_state.specs.NodeNumbers.{AreSizesOf, AreTablesOf, sizes_metrics}
use Rattle.hk_link_state.specs.NodeSides.{Sided, cut_of}
use Rattle.hk_answers.specs.declared.metrics.Metric.{Metric}

-- what the node of a host for version 1 holds, by the list that its seat knows
abbrev pub content_of : {S : Type 0} → Sided S → LinkValue S → NodeContent
content_of side l = replay (side.list l.inner)

-- ---- readings

-- a reply is just this, or it says that memory ran out
abbrev pub IsOrMemory : ReplyValue → ReplyValue → Type 0
IsOrMemory wanted reply = (reply ≡ wanted) ⊎ (reply ≡ Refused refusals.Memory)

-- where something is told, it is so
abbrev pub IfTold : Option LaterReply → (ReplyValue → Type 0) → Type 0
IfTold told holds = IfSome told (λ reply. holds (reply_seen reply))

-- there is no room for what a link would keep: memory ran out, or all links of the node keep what they may
abbrev pub LacksRoom : ℕ → ReplyValue → Type 0
LacksRoom most reply = (reply ≡ Refused refusals.Memory) ⊎ (reply ≡ Refused (refusals.LinkFull most))

-- the list of the host's seat is legal, and begins with the one before
abbrev pub Grows : {S : Type 0} → Sided S → S → S → Type 0
Grows side old new = (is_legal (side.list new) ≡ true) × IsPrefix (side.list old) (side.list new)

-- nothing changed but the host for version 1
abbrev pub KeepsOther : {S : Type 0} → LinkValue S → LinkValue S → Type 0
KeepsOther old new = new ≡ record old { inner = new.inner }

abbrev pub latest_told : Result (ℕ × AnswerValue) Refusal → ReplyValue
latest_told (Ok p) = Latest p.0 p.1
latest_told (Err why) = Refused why

abbrev pub page_told : Result PageValue Refusal → ReplyValue
page_told (Ok page) = Page page
page_told (Err why) = Refused why

abbrev pub ready_told : Result Front Refusal → ReplyValue
ready_told (Ok front) = Ready front.horizon front.readable
ready_told (Err why) = Refused why

abbrev pub ready_reply : NodeContent → ReplyValue
ready_reply c = ready_told (node_front c)

abbrev pub streams_reply : NodeContent → ReplyValue
streams_reply c = Streams (node_streams c)

abbrev pub latest_reply : NodeContent → Query → ReplyValue
latest_reply c query = latest_told (node_latest c query)

abbrev pub page_reply : NodeContent → PageQuery → ReplyValue
page_reply c of = page_told (page_asked c of)

-- what is told of a query at the readable mark: the answer, or that memory ran out, or that it would find no room among what all links of
-- the node keep
abbrev pub TellsLatest : ℕ → NodeContent → Query → ReplyValue → Type 0
TellsLatest budget c query reply = IsOrMemory (latest_reply c query) reply ⊎ ((c.damaged ≡ false) × (reply ≡ Refused (refusals.LinkFull budget)))

-- the host's seat looked at its node, nothing else of the link changed, and so it is told of the query
abbrev pub LooksLatest : {S : Type 0} → Sided S → LinkValue S → Query → ReplyValue → LinkValue S → Type 0
LooksLatest side old query reply new = Grows side old.inner new.inner × KeepsOther old new × TellsLatest old.most (content_of side new) query reply

-- the host's seat looked at its node, nothing else of the link changed, and this is told of what the node holds
abbrev pub Looks : {S : Type 0} → Sided S → LinkValue S → (NodeContent → ReplyValue) → ReplyValue → LinkValue S → Type 0
Looks side old wanted reply new = Grows side old.inner new.inner × KeepsOther old new × IsOrMemory (wanted (content_of side new)) reply

-- numbers are told that begin with these, or memory ran out
abbrev pub TellsSizes : NodeSizes → ReplyValue → Type 0
TellsSizes sizes reply = ((metrics : List Metric) × IsPrefix (sizes_metrics sizes) metrics × (reply ≡ Stats metrics)) ⊎ (reply ≡ Refused refusals.Memory)

-- so it is of numbers that agree with what a node holds
abbrev pub TellsNumbers : NodeContent → ReplyValue → Type 0
TellsNumbers c reply = ((sizes : NodeSizes) × AreSizesOf c sizes × TellsSizes sizes reply) ⊎ (reply ≡ Refused refusals.Memory)

-- the tables that a node holds anything of are told, just these, or memory ran out
abbrev pub TellsTables : NodeContent → ReplyValue → Type 0
TellsTables c reply = ((tables : List ℕ) × AreTablesOf c tables × (reply ≡ Tables tables)) ⊎ (reply ≡ Refused refusals.Memory)

-- the host's seat looked at its node, and nothing else of the link changed
abbrev pub LooksOnly : {S : Type 0} → Sided S → LinkValue S → LinkValue S → Type 0
LooksOnly side old new = Grows side old.inner new.inner × KeepsOther old new

-- ---- parts

-- nothing changed but what is given
abbrev pub KeepsButGiving : {S : Type 0} → LinkValue S → LinkValue S → Type 0
KeepsButGiving old new = new ≡ record old { giving = new.giving }

-- the next part of what is given is told, or where there is one memory ran out for it
abbrev pub TellsMore : Option OutgoingValue → ReplyValue → Option OutgoingValue → Type 0
TellsMore old reply new = ((reply, new) ≡ more_step old) ⊎ ((is_some old ≡ true) × (reply ≡ Refused refusals.Memory) × (new ≡ old))

abbrev pub IsMore : {S : Type 0} → LinkValue S → ReplyValue → LinkValue S → Type 0
IsMore old reply new = TellsMore old.giving reply new.giving × KeepsButGiving old new

-- what was cut is begun to be given in place of what was given, and its first part is told; or memory ran out, or what was cut finds no
-- room among what all links of the node keep
abbrev pub TellsFirst : ℕ → Option OutgoingValue → Result FragmentValue Refusal → ℕ → ReplyValue → Option OutgoingValue → Type 0
TellsFirst budget old cut most reply new =
    ((reply, new) ≡ whole_step old cut most)
    ⊎ (((reply ≡ Refused refusals.Memory) ⊎ (IsOk cut × (reply ≡ Refused (refusals.LinkFull budget)))) × (new ≡ None))

-- nothing was cut for want of memory, or since it would find no room among what all links of the node keep
abbrev pub RefusesCut : ℕ → NodeContent → ℕ → ReplyValue → Type 0
RefusesCut budget c base reply = (reply ≡ Refused refusals.Memory) ⊎ (IsOk (cut_of c base) × (reply ≡ Refused (refusals.LinkFull budget)))

-- nothing changed but the host for version 1, and what is given
abbrev pub KeepsCameAndHolds : {S : Type 0} → LinkValue S → LinkValue S → Type 0
KeepsCameAndHolds old new = new ≡ record old { inner = new.inner; giving = new.giving }

-- so it is of what the node of this host holds
abbrev pub TellsCut : {S : Type 0} → Sided S → LinkStateValue → S → ℕ → ℕ → ReplyValue → Option OutgoingValue → Type 0
TellsCut side old inner base most reply new = TellsFirst old.most old.giving (cut_of (replay (side.list inner)) base) most reply new

-- so it is of what the node holds when the reply is made
abbrev pub TellsWhole : {S : Type 0} → Sided S → LinkValue S → ℕ → ℕ → ReplyValue → LinkValue S → Type 0
TellsWhole side old base most reply new = TellsFirst old.most old.giving (cut_of (content_of side new) base) most reply new.giving

abbrev pub IsWhole : {S : Type 0} → Sided S → LinkValue S → ℕ → ℕ → ReplyValue → LinkValue S → Type 0
IsWhole side old base most reply new =
    Grows side old.inner new.inner × TellsWhole side old base most reply new × KeepsCameAndHolds old new

-- the first part of what is cut for this base with so many bytes a part, where that is asked for, else the next part of what is given
abbrev pub IsGiven : {S : Type 0} → Sided S → LinkValue S → Option (ℕ × ℕ) → ReplyValue → LinkValue S → Type 0
IsGiven side old None reply new = IsMore old reply new
IsGiven side old (Some cut) reply new = IsWhole side old cut.0 cut.1 reply new

-- facts come behind those that came, where they rise
abbrev pub come_step : List Known → List Known → ReplyValue × List Known
come_step came facts = if rises (came ++ facts) then (Added (length (came ++ facts)), came ++ facts) else (Refused (refusals.Form BadOrder), came)

-- why facts are refused for which there is no room: they don't rise, or else all links of the node keep what they may
abbrev pub no_room_for : ℕ → List Known → List Known → Refusal
no_room_for most old facts = if rises (old ++ facts) then refusals.LinkFull most else refusals.Form BadOrder

-- facts come behind those that came before, or they rise and there is no room for them
abbrev pub TellsCome : ℕ → List Known → List Known → ReplyValue → List Known → Type 0
TellsCome most old facts reply new = ((reply, new) ≡ come_step old facts) ⊎ ((rises (old ++ facts) ≡ true) × LacksRoom most reply × (new ≡ old))

-- nothing changed but what came
abbrev pub KeepsButCame : {S : Type 0} → LinkValue S → LinkValue S → Type 0
KeepsButCame old new = new ≡ record old { came = new.came }

abbrev pub IsAdded : {S : Type 0} → LinkValue S → List Known → ReplyValue → LinkValue S → Type 0
IsAdded old facts reply new = TellsCome old.most old.came facts reply new.came × KeepsButCame old new

-- the reply of version 1 to a change, told in version 2
abbrev pub change_told : first.ReplyValue → ReplyValue
change_told (first.Done ops) = Done ops
change_told (first.Refused why) = Refused why
change_told other = Refused (refusals.Form BadKind)

abbrev pub change_seen : Reply → ReplyValue
change_seen answer = change_told (first.reply_seen answer)

-- what is put together is joined as the host for version 1 joins it, or its first fault is told
abbrev pub JoinsMade : {S : Type 0} → (S → Request → Reply → S → Type 0) → S → Result FragmentValue FormFault → ReplyValue → S → Type 0
JoinsMade may old (Err fault) reply new = (reply ≡ Refused (refusals.Form fault)) × (new ≡ old)
JoinsMade may old (Ok f) reply new = (answer : Reply) × may old (first_asked.JoinThis f) answer new × (reply ≡ change_seen answer)

-- nothing is put together, and its first fault is told
abbrev pub IsFault : Result FragmentValue FormFault → ReplyValue → Type 0
IsFault made reply = (fault : FormFault) × (made ≡ Err fault) × (reply ≡ Refused (refusals.Form fault))

-- nothing came any more, and nothing else changed but the host for version 1
abbrev pub LetsGo : {S : Type 0} → LinkValue S → LinkValue S → Type 0
LetsGo old new = new ≡ record old { inner = new.inner; came = [] }

-- the facts that came are put together with the head, and none is kept
abbrev pub IsJoined : {S : Type 0} → (S → Request → Reply → S → Type 0) → LinkValue S → HeadValue → ReplyValue → LinkValue S → Type 0
IsJoined may old head reply new = JoinsMade may old.inner (of_facts head old.came) reply new.inner × LetsGo old new

-- ---- holds

-- how many holds a link has at most
abbrev pub most_holds : ℕ
most_holds = 1024

-- there is no place for one more hold: this link has so many as it may, or else all links together
abbrev pub LacksPlace : List Hold → ℕ → Type 0
LacksPlace holds most =
    ((nat_lt (length holds) most_holds ≡ false) × (most ≡ most_holds)) ⊎ ((nat_lt (length holds) most_holds ≡ true) × (most ≡ most_pins))

-- a place is made behind the holds that a link keeps, which may have one more; or there is none, and so many are the most
abbrev pub IsPlaced : LinkStateValue → ℕ → Option ℕ → LinkStateValue → Type 0
IsPlaced old time None new = (nat_lt (length old.holds) most_holds ≡ true) × (new ≡ with_place old time)
IsPlaced old time (Some most) new = LacksPlace old.holds most × (new ≡ old)

-- the reply to a hold that came out so, and the holds of the link then: one that waits to be published is kept too
abbrev pub hold_told : List Hold → Result Hold (Option Hold × Refusal) → ReplyValue × List Hold
hold_told holds (Ok hold) = (Held hold.reader hold.at, holds ++ hold ∷ [])
hold_told holds (Err (Some hold, why)) = (Refused why, holds ++ hold ∷ [])
hold_told holds (Err (None, why)) = (Refused why, holds)

-- a hold is asked for of the node, which gives none where memory has run out for it in the link's list
abbrev pub AsksHold : {S : Type 0} → (S → ℕ → Result Hold (Option Hold × Refusal) → S → Type 0) → LinkValue S → ℕ → ReplyValue → LinkValue S → Type 0
AsksHold may_hold old time reply new =
    (result : Result Hold (Option Hold × Refusal)) × may_hold old.inner time result new.inner × ((reply, new.holds) ≡ hold_told old.holds result)
    × (new ≡ record old { inner = new.inner; holds = new.holds })

-- the same, where the last place of the link's list is free for it
abbrev pub AsksHoldInPlace : {S : Type 0} → (S → ℕ → Result Hold (Option Hold × Refusal) → S → Type 0) → LinkValue S → ℕ → ReplyValue → LinkValue S → Type 0
AsksHoldInPlace may_hold old time reply new = AsksHold may_hold (record old { holds = take (length old.holds - 1) old.holds }) time reply new

-- memory is not what a link lacks where there are as many holds as there may be
abbrev pub full_or : ℕ → Refusal → Refusal
full_or most refusals.Memory = refusals.LinkFull most
full_or most why = why

-- a hold is refused so where so many are there and may be: as the node refuses it, or else since there are so many
abbrev pub IsFull : {S : Type 0} → ℕ → (S → ℕ → Result Hold (Option Hold × Refusal) → S → Type 0) → LinkValue S → ℕ → ReplyValue → LinkValue S → Type 0
IsFull most may_hold old time reply new =
    (why : Refusal) × may_hold old.inner time (Err (None, why)) new.inner × (reply ≡ Refused (full_or most why)) × (new ≡ record old { inner = new.inner })

-- a link has so many holds at most, and all links together: one more is not made
abbrev pub IsHeld : {S : Type 0} → (S → ℕ → Result Hold (Option Hold × Refusal) → S → Type 0) → LinkValue S → ℕ → ReplyValue → LinkValue S → Type 0
IsHeld may_hold old time reply new =
    ((nat_lt (length old.holds) most_holds ≡ false) × IsFull most_holds may_hold old time reply new)
    ⊎ ((nat_lt (length old.holds) most_holds ≡ true) × (AsksHold may_hold old time reply new ⊎ IsFull most_pins may_hold old time reply new))

-- the reply to a release that came out so, and the holds of the link then: one whose release waits is gone too
abbrev pub release_told : List Hold → ℕ → Result ℕ (Option Hold × Refusal) → ReplyValue × List Hold
release_told holds number (Ok ops) = (Done ops, filter (is_other_hold number) holds)
release_told holds number (Err (Some hold, why)) = (Refused why, holds)
release_told holds number (Err (None, why)) = (Refused why, filter (is_other_hold number) holds)

-- the node is asked to release a hold of this link
abbrev pub AsksRelease : {S : Type 0} → (S → Hold → Result ℕ (Option Hold × Refusal) → S → Type 0) → LinkValue S → ℕ → Hold → ReplyValue → LinkValue S → Type 0
AsksRelease may_release old number hold reply new =
    (result : Result ℕ (Option Hold × Refusal)) × may_release old.inner hold result new.inner × ((reply, new.holds) ≡ release_told old.holds number result)
    × (new ≡ record old { inner = new.inner; holds = new.holds })

-- a hold that this link doesn't have is not asked for
abbrev pub IsReleased : {S : Type 0} → (S → Hold → Result ℕ (Option Hold × Refusal) → S → Type 0) → LinkValue S → ℕ → ReplyValue → LinkValue S → Type 0
IsReleased may_release old number reply new =
    MatchOption (held_by number old.holds) ((reply ≡ Refused refusals.NoHold) × (new ≡ old)) (λ hold. AsksRelease may_release old number hold reply new)

-- the hold that a release handed back, if it did
abbrev pub handed_back : Result ℕ (Option Hold × Refusal) → Option Hold
handed_back (Ok ops) = None
handed_back (Err e) = e.0

-- the node is asked to release this hold, and hands it back or doesn't
abbrev pub IsLetGo : {S : Type 0} → (S → Hold → Result ℕ (Option Hold × Refusal) → S → Type 0) → S → Hold → S → Option Hold → Type 0
IsLetGo may_release old hold new back = (result : Result ℕ (Option Hold × Refusal)) × may_release old hold result new × (back ≡ handed_back result)

-- these holds, after the one that was handed back, if one was
abbrev pub with_back : Option Hold → List Hold → List Hold
with_back None holds = holds
with_back (Some hold) holds = hold ∷ holds

-- the node is asked to release each of these holds, one after the other, and no other; those that it handed back are left
abbrev pub AreLetGo : {S : Type 0} → (S → Hold → Result ℕ (Option Hold × Refusal) → S → Type 0) → S → List Hold → S → List Hold → Type 0
AreLetGo may_release old [] new left = (new ≡ old) × (left ≡ [])
AreLetGo {S} may_release old (hold ∷ holds) new left =
    (mid : S) × (back : Option Hold) × (others : List Hold) × IsLetGo may_release old hold mid back × AreLetGo may_release mid holds new others × (left ≡ with_back back others)

-- a list with the hold that was handed back, if one was, at this place; and where the next one goes
abbrev pub placed : Option Hold → List Hold → ℕ → List Hold
placed None holds place = holds
placed (Some hold) holds place = set holds place hold

abbrev pub next_place : Option Hold → ℕ → ℕ
next_place None place = place
next_place (Some hold) place = place + 1

-- ---- each request

-- what is replied to a request of version 2, over a host that is as this says, and may reply so to requests of version 1
abbrev pub IsLaterReply : {S : Type 0} → Sided S → (S → Request → Reply → S → Type 0) → LinkValue S → LaterRequest → ReplyValue → LinkValue S → Type 0
IsLaterReply side may old asked.Streams reply new = Looks side old streams_reply reply new
IsLaterReply side may old (asked.AskLatest query) reply new = LooksLatest side old query reply new
IsLaterReply side may old (asked.Page of) reply new = Looks side old (λ c. page_reply c of) reply new
IsLaterReply side may old (asked.Await t milliseconds) reply new = Looks side old ready_reply reply new
IsLaterReply side may old asked.Stats reply new = LooksOnly side old new × TellsNumbers (content_of side new) reply
IsLaterReply side may old asked.Tables reply new = LooksOnly side old new × TellsTables (content_of side new) reply
IsLaterReply side may old (asked.Whole base most) reply new = IsWhole side old base most reply new
IsLaterReply side may old asked.More reply new = IsMore old reply new
IsLaterReply side may old (asked.AddPart facts) reply new = IsAdded old facts.items reply new
IsLaterReply side may old (asked.JoinParts head) reply new = IsJoined may old head reply new
IsLaterReply side may old (asked.MergeParts head) reply new = IsJoined may old head reply new
IsLaterReply side may old (asked.Hold t) reply new = IsHeld side.may_hold old t reply new
IsLaterReply side may old (asked.Release number) reply new = IsReleased side.may_release old number reply new

-- a request of version 1 goes to the host for version 1, and its reply comes back
abbrev pub IsFirstReply : {S : Type 0} → (S → Request → Reply → S → Type 0) → LinkValue S → Request → Reply → LinkValue S → Type 0
IsFirstReply may old request reply new = may old.inner request reply new.inner × KeepsOther old new

-- each request is replied to in its version
abbrev pub IsLinkReply : {S : Type 0} → Sided S → (S → Request → Reply → S → Type 0) → LinkValue S → Request → Reply → LinkValue S → Type 0
IsLinkReply side may old (first_asked.Later request) (first_told.Later reply) new = IsLaterReply side may old request (reply_seen reply) new
IsLinkReply side may old (first_asked.Later request) reply new = ⊥
IsLinkReply side may old request reply new = IsFirstReply may old request reply new

-- what a host over such a one may do: its seat's list begins with the one before, and the reply is so
abbrev pub MayReplyBoth : {S : Type 0} → Sided S → (S → Request → Reply → S → Type 0) → LinkValue S → Request → Reply → LinkValue S → Type 0
MayReplyBoth side may old request reply new = IsPrefix (side.list old.inner) (side.list new.inner) × IsLinkReply side may old request reply new
