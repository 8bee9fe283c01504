-- Sessions that share a host: their requests are answered by turns.
use Rattle.std.specs.Prelude.{◌≡◌, ℕ, ◌==◌, if◌then◌else◌, Bool, true, List, [], ◌∷◌, ◌++◌}
use Rattle.std.specs.List.{AllByRecursion}
use mathlib.Core.List.{IsPrefix}
use Rattle.hk_model.specs.Replica.Past.{IsLater}
use Rattle.hk_messages.specs.declared.request.Request.{Request}
use Rattle.hk_messages.specs.declared.reply.Reply.{Reply}
use Rattle.hk_session_parts.specs.Sessions.{SessionValue, Stands, StandsSo, Takes}
use Rattle.hk_session_parts.specs.Transcript.{Answers, May}
use Rattle.hk_session_parts.specs.declared.step.Step.{Step}
use Rattle.hk_oplog.specs.declared.op.Op.{Op}
use Rattle.hk_oplog.specs.Replay.{is_legal, replay}
use Rattle.hk_link_state.specs.LaterReplying.{KeepsOther}
use Rattle.hk_link_state.specs.LinkStates.{LinkValue}
use Rattle.hk_link_state.specs.NodeSides.{Sided}

-- what it means that a host goes on: from the first state it may come to the second by what others do
abbrev pub Goes : Type 0 → Type 1
Goes H = H → H → Type 0

-- ---- one session

-- what a host may do that others ask too: it may have gone on before the request
abbrev pub MayAmong : {H : Type 0} → Goes H → May H → May H
MayAmong {H} goes_on may old request reply new = (before : H) × goes_on old before × may before request reply new

-- Such a host gives these replies to these requests, one each and in order, and has gone on since the last.
abbrev pub AnswersAmong : {H : Type 0} → Goes H → May H → H → List Request → List Reply → H → Type 0
AnswersAmong {H} goes_on may old requests replies new =
    (last : H) × Answers (MayAmong goes_on may) old requests replies last × goes_on last new

-- Where a session over such a host stands: what it appended so far is what the host said to the requests that were answered so
-- far, and these and those that wait are what was taken so far (`Stands`); and the host has gone on since its last request.
abbrev pub StandsAmong : {H : Type 0} → Goes H → ℕ → May H → H → H → List ℕ → List ℕ → SessionValue → Type 0
StandsAmong {H} goes_on latest may start now bytes text s =
    (last : H) × Stands latest (MayAmong goes_on may) start last bytes text s × goes_on last now

-- the same after a call that says this, or how the session ended
abbrev pub StandsAmongSo : {H : Type 0} → Goes H → ℕ → May H → H → H → List ℕ → List ℕ → SessionValue → Step → Type 0
StandsAmongSo {H} goes_on latest may start now bytes text s step =
    (last : H) × StandsSo latest (MayAmong goes_on may) start last bytes text s step × goes_on last now

-- Wherever a session stood when the host was so, it stands there after its next call too, before which the host went on.
abbrev pub GoesOnStanding : {H : Type 0} → Goes H → May H → Type 0
GoesOnStanding {H} goes_on may =
    (latest : ℕ) (start old host new : H) (bytes text piece ready out : List ℕ) (before after : SessionValue) (has_waited : Bool) (step : Step)
    → StandsAmong goes_on latest may start old bytes text before → goes_on old host
    → Takes latest may host new before after piece has_waited ready out step
    → (said : List ℕ) × (out ≡ ready ++ said) × StandsAmongSo goes_on latest may start new (bytes ++ piece) (text ++ said) after step

-- ---- many sessions

-- a turn: whose it was, which requests were answered in it, and how
pub record SessionTurn : Type 0 where
  pub session : ℕ
  pub requests : List Request
  pub replies : List Reply

-- the requests of a session that were answered in all its turns, and the replies
abbrev pub asked_by : ℕ → List SessionTurn → List Request
asked_by n [] = []
asked_by n (t ∷ ts) = if t.session == n then t.requests ++ asked_by n ts else asked_by n ts

abbrev pub told_to : ℕ → List SessionTurn → List Reply
told_to n [] = []
told_to n (t ∷ ts) = if t.session == n then t.replies ++ told_to n ts else told_to n ts

-- what each session keeps, where this one now keeps this
abbrev pub with_own : {K : Type 0} → (ℕ → K) → ℕ → K → ℕ → K
with_own kept n own m = if n == m then own else kept m

-- Sessions take these turns over one host. In each turn the requests of its session are answered by the host as the turn before
-- left it, beside what the session itself keeps. Between two turns the host may go on, as by a look of its seat, or by a receipt.
abbrev pub TakeTurns : {S K H : Type 0} → (S → K → H) → Goes S → May H → S → (ℕ → K) → List SessionTurn → S → (ℕ → K) → Type 0
TakeTurns beside goes may host kept [] host_after kept_after = goes host host_after × ((n : ℕ) → kept_after n ≡ kept n)
TakeTurns {S} {K} beside goes may host kept (t ∷ ts) host_after kept_after =
    (now : S) × goes host now × (next : S) × (own : K) × Answers may (beside now (kept t.session)) t.requests t.replies (beside next own)
    × TakeTurns beside goes may next (with_own kept t.session own) ts host_after kept_after

-- then each session, whatever the others ask, has its own requests answered, one each and in order, by a host that goes on
abbrev pub EachAmong : {S K H : Type 0} → (S → K → H) → Goes S → Goes H → May H → Type 0
EachAmong {S} {K} beside goes goes_on may =
    (host host_after : S) (kept kept_after : ℕ → K) (turns : List SessionTurn) → TakeTurns beside goes may host kept turns host_after kept_after
    → (n : ℕ) → AnswersAmong goes_on may (beside host (kept n)) (asked_by n turns) (told_to n turns) (beside host_after (kept_after n))

-- so it has where it moves to another host, which that of before could have gone on to be
abbrev pub MayMove : {H : Type 0} → Goes H → May H → Type 0
MayMove {H} goes_on may =
    (old mid other new : H) (qs more_qs : List Request) (rs more_rs : List Reply)
    → AnswersAmong goes_on may old qs rs mid → goes_on mid other → AnswersAmong goes_on may other more_qs more_rs new
    → AnswersAmong goes_on may old (qs ++ more_qs) (rs ++ more_rs) new

-- ---- the lists that replies are of

-- each of the replies was given by a host that had this list then
abbrev pub AreOf : {H : Type 0} → (H → List Op) → May H → List Request → List Reply → List (List Op) → Type 0
AreOf list may [] [] [] = Unit {0}
AreOf {H} list may (q ∷ qs) (r ∷ rs) (ops ∷ lists) =
    ((before : H) × (after : H) × may before q r after × (ops ≡ list after)) × AreOf list may qs rs lists
AreOf list may qs rs lists = ⊥

-- each list begins all those behind it
abbrev pub EachBegins : List (List Op) → Type 0
EachBegins [] = Unit {0}
EachBegins (ops ∷ lists) = AllByRecursion (IsPrefix ops) lists × EachBegins lists

-- the lists of a session's replies only grow: that of each reply begins with those of all replies before it
abbrev pub OnlyGrow : {H : Type 0} → (H → List Op) → Goes H → May H → Type 0
OnlyGrow {H} list goes_on may =
    (old new : H) (qs : List Request) (rs : List Reply) → AnswersAmong goes_on may old qs rs new
    → (lists : List (List Op)) × AreOf list may qs rs lists × EachBegins (list old ∷ (lists ++ list new ∷ []))

-- ---- over a node

-- what sessions have that share hosts of a node
pub record Share {S K H : Type 0} (beside : S → K → H) (goes : Goes S) (goes_on : Goes H) (may : May H) (list : H → List Op) : Type 0 where
  pub each : EachAmong beside goes goes_on may
  pub stands : GoesOnStanding goes_on may
  pub moved : MayMove goes_on may
  pub grown : OnlyGrow list goes_on may

-- the list of a host's seat begins with the one before
abbrev pub SeatGoesOn : {S : Type 0} → Sided S → Goes S
SeatGoesOn side old new = IsPrefix (side.list old) (side.list new)

-- nothing of a link changed but its host, and the list of that one's seat begins with the one before
abbrev pub LinkGoesOn : {S : Type 0} → Sided S → Goes (LinkValue S)
LinkGoesOn side old new = SeatGoesOn side old.inner new.inner × KeepsOther old new

-- a session in version 1 has its host alone
abbrev pub alone : {S : Type 0} → S → Unit {0} → S
alone host own = host

-- the list of a link's seat
abbrev pub link_list : {S : Type 0} → Sided S → LinkValue S → List Op
link_list side link = side.list link.inner

-- neither the horizon nor the readable mark of a list is before that of a legal list that it begins with
abbrev pub MarksLaw : Type 0
MarksLaw = (ops more : List Op) → is_legal ops ≡ true → IsLater (replay ops).content (replay (ops ++ more)).content
