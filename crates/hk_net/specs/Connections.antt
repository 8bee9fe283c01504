-- What is answered over a connection, by where it stands.
use Rattle.std.specs.Prelude.{◌≡◌, ℕ, List, [], ◌∷◌, ◌++◌, Option, None, Some, IfSome}
use Rattle.std.specs.Global.{Vec}
use mathlib.Core.List.{IsPrefix}
use Rattle.hk_messages.specs.declared.request.Request.{Request}
use Rattle.hk_messages.specs.declared.reply.Reply.{Reply}
use Rattle.hk_session_parts.specs.Transcript.{May}
use Rattle.hk_link_state.specs.LaterReplying.{MayReplyBoth}
use Rattle.hk_link_state.specs.LinkStates.{LinkStateValue, LinkValue, link_of}
use Rattle.hk_link_state.specs.NodeSides.{Sided}
use Rattle.hk_link.specs.Sharing.{AnswersAmong, Goes}
use Rattle.hk_oplog.specs.declared.op.NodeKind.{NodeKind}
use Rattle.hk_oplog.specs.declared.op.Op.{Op}
use Rattle.hk_doors.specs.declared.passes.Passes.{Passes}
use Rattle.hk_exchange.specs.declared.exchange.Exchange.{Exchange}
use Rattle.hk_exchange.specs.Exchanges.{ExchangeValue, Served, Stands, start, value_of}
use Rattle.hk_seats.specs.Ways.{MayAnswer}
use Rattle.hk_host.specs.Pins.{HoldsBy, ReleasesBy}
use Rattle.hk_net.specs.declared.link.Link.{Link}
use Rattle.hk_net.specs.declared.link.Stage.{Stage}
use Rattle.hk_net.specs.declared.link.Stage.TheVariants.{Lives, LetsGo, Left}
use Rattle.hk_net.specs.declared.turns.Moment.{Moment}

-- between two requests the list of a host's seat may grow, and room be reserved for what stands before the connection's socket; nothing else changes
abbrev pub GoesOnBeside : {S : Type 0} → Sided S → Goes (LinkValue S)
GoesOnBeside side old new = IsPrefix (side.list old.inner) (side.list new.inner) × (new ≡ record old { inner = new.inner; buffers = new.buffers })

-- these requests get these replies, one each and in order, from a host of both versions that goes on so between two of them
abbrev pub LinkAnswers : {S : Type 0} → Sided S → May S → LinkValue S → List Request → List Reply → LinkValue S → Type 0
LinkAnswers side may old requests replies new = AnswersAmong (GoesOnBeside side) (MayReplyBoth side may) old requests replies new

-- ---- steps

-- Wherever a connection stood, it stands there after this too, in which some requests more were answered so.
abbrev pub Steps : {S : Type 0} → Sided S → May S → LinkValue S → LinkValue S → Passes → ExchangeValue → List ℕ → ExchangeValue → List ℕ → Type 0
Steps side may old new passes before ready after out =
    (asked : List Request) (told : List Reply) → Stands passes before ready asked told
    → (qs : List Request) × (rs : List Reply) × LinkAnswers side may old qs rs new × Stands passes after out (asked ++ qs) (told ++ rs)

-- the same of an `Exchange`, and of what is ready in a buffer, at what its door lets through
abbrev pub StepsBy : {S : Type 0} → Sided S → May S → LinkValue S → LinkValue S → Moment → Exchange → Vec ℕ → Exchange → Vec ℕ → Type 0
StepsBy side may old new moment before ready after out = Steps side may old new moment.passes (value_of before) ready.items (value_of after) out.items

-- whatever its door lets through
abbrev pub StepsAnyhow : {S : Type 0} → Sided S → May S → LinkValue S → LinkValue S → Exchange → Vec ℕ → Exchange → Vec ℕ → Type 0
StepsAnyhow side may old new before ready after out = (passes : Passes) → Steps side may old new passes (value_of before) ready.items (value_of after) out.items

-- and whatever is ready, which stays
abbrev pub StepsApart : {S : Type 0} → Sided S → May S → LinkValue S → LinkValue S → Exchange → Exchange → Type 0
StepsApart side may old new before after = (passes : Passes) (ready : List ℕ) → Steps side may old new passes (value_of before) ready (value_of after) ready

-- ---- a connection's life

-- what a connection keeps beside its worker's seat, while its session goes on
abbrev pub own_at : Stage → Option LinkStateValue → Option LinkStateValue
own_at Lives kept = kept
own_at LetsGo kept = None
own_at Left kept = None

abbrev pub own_of : Link → Option LinkStateValue
own_of link = own_at link.stage link.kept

-- the same is kept, but for the room that is reserved for what stands before the socket
abbrev pub KeptBeside : Option LinkStateValue → Option LinkStateValue → Type 0
KeptBeside None new = new ≡ None
KeptBeside (Some had) new = (kept : LinkStateValue) × (new ≡ Some kept) × (kept ≡ record had { buffers = kept.buffers })

-- what a connection keeps is what the last of its hosts left, but for that room
abbrev pub KeepsOf : {S : Type 0} → Link → LinkValue S → Type 0
KeepsOf link last = IfSome (own_of link) (λ kept. record last { buffers = kept.buffers } ≡ link_of last.inner kept)

-- A connection, whose host was this at first, stands so: these requests were answered so, one each and in order, and its hosts have seen no more than this list.
pub record StandsOn {S : Type 0} (side : Sided S) (may : May S) (passes : Passes) (first : LinkValue S) (asked : List Request) (told : List Reply) (link : Link) (seen : List Op) : Type 0 where
  pub last : LinkValue S
  pub answers : LinkAnswers side may first asked told last
  pub stands : Stands passes (value_of link.pipe.exchange) [] asked told
  pub known : IsPrefix (side.list last.inner) seen
  pub keeps : KeepsOf link last

-- each of these replies was given over a list that begins with this one
abbrev pub AreOver : {S : Type 0} → Sided S → May S → List Op → List Request → List Reply → Type 0
AreOver side may seen [] [] = Unit {0}
AreOver {S} side may seen (q ∷ qs) (r ∷ rs) = ((before : LinkValue S) × (after : LinkValue S) × MayReplyBoth side may before q r after × IsPrefix seen (side.list after.inner)) × AreOver side may seen qs rs
AreOver side may seen qs rs = ⊥

-- Wherever a connection stood, it stands there after this too, with some requests more, each of which was answered over all that the connection had seen; and what a
-- worker's seat had seen it has seen still.
abbrev pub Lived : {S : Type 0} → Sided S → May S → Passes → List Op → Link → List Op → Link → List Op → Type 0
Lived {S} side may passes seat before seen after seen_after =
    (first : LinkValue S) (asked : List Request) (told : List Reply) → StandsOn side may passes first asked told before seen
    → (qs : List Request) × (rs : List Reply) × AreOver side may seen qs rs × IsPrefix seat seen_after × StandsOn side may passes first (asked ++ qs) (told ++ rs) after seen_after

-- a turn over a host whose seat has seen all that the connection had: it has seen then what that host has
abbrev pub Turned : {S : Type 0} → Sided S → May S → Moment → S → Link → S → Link → Type 0
Turned side may moment host before host_after after =
    (seen : List Op) → IsPrefix seen (side.list host) → Lived side may moment.passes (side.list host) before seen after (side.list host_after)

-- ---- over a node

-- a host over a seat of a node of this kind: what its door lets through, and the list of its seat
abbrev pub SeatHost : Type 0
SeatHost = Passes × List Op

abbrev pub side_of : NodeKind → Sided SeatHost
side_of kind = record {
  list = λ h. h.1;
  may_hold = λ old time result new. (new.0 ≡ old.0) × HoldsBy old.0 kind old.1 time result new.1;
  may_release = λ old hold result new. (new.0 ≡ old.0) × ReleasesBy old.0 kind old.1 hold result new.1;
}

abbrev pub may_of : NodeKind → May SeatHost
may_of kind old request reply new = (new.0 ≡ old.0) × MayAnswer old.0 kind old.1 request reply new.1

-- a connection that was just accepted
abbrev pub IsNew : Link → Type 0
IsNew link = value_of link.pipe.exchange ≡ start

-- it stands at the beginning, beside what it keeps now, and its client has seen nothing
abbrev pub Opens : NodeKind → LinkStateValue → Link → List Op → Type 0
Opens kind kept link seen = (passes way : Passes) → StandsOn (side_of kind) (may_of kind) passes (link_of (way, []) kept) [] [] link seen

-- a turn of a client's connection over a seat of its node
abbrev pub Serves : NodeKind → Moment → List Op → Link → List Op → Link → List Op → Type 0
Serves kind moment seat before seen after seen_after = Lived (side_of kind) (may_of kind) moment.passes seat before seen after seen_after

-- It has stood so since it began: requests were answered so by hosts over seats of a node of this kind, that had shown it nothing at first, and each over a list
-- that begins with those of the requests before.
pub record HasStood (kind : NodeKind) (link : Link) (seen : List Op) : Type 0 where
  pub way : Passes
  pub kept : LinkStateValue
  pub asked : List Request
  pub told : List Reply
  pub stands : StandsOn (side_of kind) (may_of kind) link.passes (link_of {S = SeatHost} (way, []) kept) asked told link seen

-- what its socket took says just what was answered so, at a door that lets so much through
abbrev pub IsServed : Passes → Exchange → Type 0
IsServed passes exchange = ∥ ((asked : List Request) × (told : List Reply) × Served passes (value_of exchange) [] asked told) ∥₁
