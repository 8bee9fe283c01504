-- What a connection's socket took, by what it gave.
use Rattle.std.specs.Prelude.{◌≡◌, ◌≢◌, ◌⊎◌, ◌<◌, ℕ, ◌+◌, ◌-◌, ◌||◌, min, nat_lt, Bool, true, false, MatchBool, List, [], ◌∷◌, ◌++◌, length, drop, Option, None, Some, is_some, option_to_list, Result, Ok}
use Rattle.std.specs.Global.{Vec}
use Rattle.hk_types.specs.declared.faults.FormFault.{FormFault}
use Rattle.hk_messages.specs.declared.request.Request.{Request}
use Rattle.hk_messages.specs.declared.reply.Reply.{Reply}
use Rattle.hk_messages.specs.Requests.{ReadsRequests}
use Rattle.hk_session_parts.specs.Transcript.{May, Answers, IsPrefixOf, closing_bytes, replies_bytes}
use Rattle.hk_session_parts.specs.Sessions.{IsStanding, SessionValue, begun_bytes, first_of}
use Rattle.hk_session_parts.specs.declared.step.Step.{Step}
use Rattle.hk_session_parts.specs.declared.step.Step.TheVariants.{Ended as EndedSo}
use Rattle.hk_session_parts.specs.declared.ended.Ended.{Ended}
use Rattle.hk_session_parts.specs.declared.ended.Ended.TheVariants.{Clean, ReadFault}
use Rattle.hk_doors.specs.declared.passes.Passes.{Passes}
use Rattle.hk_doors.specs.declared.frame_watch.Taken.{Taken}
use Rattle.hk_doors.specs.declared.frame_watch.Then.{Then}
use Rattle.hk_doors.specs.declared.frame_watch.Then.TheVariants.{Reads, Pauses, Moves}
use Rattle.hk_doors.specs.Handing.{HandsOn, Place, inside}
use Rattle.hk_exchange.specs.Pipes.{Outgoing, SendsFront, text_of}
use Rattle.hk_exchange.specs.declared.exchange.Exchange.{Exchange}
use Rattle.hk_exchange.specs.declared.exchange.How.{How}

-- the value of an `Exchange`: all bytes that its socket gave; where the connection stands in its frames, what of a frame is kept back, and what waits behind
-- that; its session; what the socket took and what it has yet to take; whether the peer sends no more; and how the session ended, where it did
pub record ExchangeValue : Type 0 where
  pub came : List ℕ
  pub place : Place
  pub begun : List ℕ
  pub rest : List ℕ
  pub session : SessionValue
  pub out : Outgoing
  pub is_at_end : Bool
  pub ended : Option Ended

abbrev pub value_of : Exchange → ExchangeValue
value_of e = record {
  came = e.came;
  place = e.watch.place;
  begun = e.watch.begun;
  rest = e.rest;
  session = e.session;
  out = e.unwritten;
  is_at_end = e.is_at_end;
  ended = e.ended;
}

-- nothing came, and nothing was said
abbrev pub start : ExchangeValue
start = record {
  came = [];
  place = inside 0 0;
  begun = [];
  rest = [];
  session = record { requests = []; left = Ok []; kept = None; begun = 0 };
  out = record { sent = []; standing = [] };
  is_at_end = false;
  ended = None;
}

-- ---- what a session says

-- Of the requests that these bytes encode the first were answered so, one each and in order, and the others wait. The text has the replies, and what is appended
-- of one that is kept.
pub record Says (asked : List Request) (told : List Reply) (bytes text : List ℕ) (s : SessionValue) : Type 0 where
  pub reads : ReadsRequests 2 bytes (asked ++ s.requests) s.left
  pub said : List Reply
  pub order : told ≡ said ++ option_to_list s.kept
  pub appends : text ≡ replies_bytes said ++ begun_bytes s

-- The same of a session that is over: the text is a front of the replies, and of what says which fault follows them.
pub record Said (asked : List Request) (told : List Reply) (bytes text : List ℕ) : Type 0 where
  pub waiting : List Request
  pub left : Result (List ℕ) FormFault
  pub reads : ReadsRequests 2 bytes (asked ++ waiting) left
  pub front : IsPrefixOf text (replies_bytes told ++ closing_bytes left)

-- All requests that these bytes encode were answered so, one each and in order, no other byte is there, and the text is just the replies.
abbrev pub SaidAll : List Request → List Reply → List ℕ → List ℕ → Type 0
SaidAll asked told bytes text = ReadsRequests 2 bytes asked (Ok []) × (text ≡ replies_bytes told)

-- the one or the other, by the last step, none of which is a clean end
abbrev pub SaysSo : Step → List Request → List Reply → List ℕ → List ℕ → SessionValue → Type 0
SaysSo (EndedSo ended) asked told bytes text s = Said asked told bytes text × (ended ≢ Clean)
SaysSo step asked told bytes text s = Says asked told bytes text s

-- which bytes a session got after a piece: that one too, or, where memory ran out, not that one
abbrev pub GotSo : Step → List ℕ → List ℕ → List ℕ → Type 0
GotSo (EndedSo ended) got bytes piece = (got ≡ bytes ++ piece) ⊎ (got ≡ bytes)
GotSo step got bytes piece = got ≡ bytes ++ piece

-- what a call said, after which the session got these bytes
abbrev pub TookSo : {H : Type 0} → May H → H → H → List Request → List Reply → List ℕ → List ℕ → List ℕ → List ℕ → Step → SessionValue → Type 0
TookSo may old new asked told bytes text piece out step after =
    (qs : List Request) × (rs : List Reply) × (got : List ℕ) × Answers may old qs rs new × SaysSo step (asked ++ qs) (told ++ rs) got (text ++ out) after × GotSo step got bytes piece

-- whatever was said before, behind what was ready
abbrev pub TakesOn : {H : Type 0} → May H → H → H → SessionValue → SessionValue → List ℕ → List ℕ → List ℕ → Step → Type 0
TakesOn may old new before after piece ready out step =
    (asked : List Request) (told : List Reply) (bytes text : List ℕ) → Says asked told bytes (text ++ ready) before → TookSo may old new asked told bytes text piece out step after

abbrev pub end_of : Step → Option Ended
end_of (EndedSo ended) = Some ended
end_of step = None

-- ---- a connection

-- At a door that lets so much through: the session got what came, judged by the door, and at the end of the connection what began a frame, as it is; the others
-- are kept back, or wait. Of the requests in that the first were answered so, and what the socket took, what it has yet to take and what is ready say just that.
pub record Goes (passes : Passes) (v : ExchangeValue) (ready : List ℕ) (asked : List Request) (told : List Reply) : Type 0 where
  pub passed : List ℕ
  pub given : List ℕ
  pub tail : List ℕ
  pub there : Place
  pub hands : HandsOn passes (inside 0 0) passed given there
  pub split : v.came ≡ passed ++ (tail ++ (v.begun ++ v.rest))
  pub goes_on : v.is_at_end ≡ false → (tail ≡ []) × (there ≡ v.place)
  pub one : (v.begun ≡ []) ⊎ (v.rest ≡ [])
  pub says : Says asked told (given ++ tail) (text_of v.out ++ ready) v.session

-- The same of one that is over: some of what came isn't handed on, unless its peer ended it between two requests.
pub record Went (passes : Passes) (v : ExchangeValue) (ready : List ℕ) (asked : List Request) (told : List Reply) : Type 0 where
  pub passed : List ℕ
  pub given : List ℕ
  pub tail : List ℕ
  pub dropped : List ℕ
  pub there : Place
  pub hands : HandsOn passes (inside 0 0) passed given there
  pub split : v.came ≡ passed ++ (tail ++ dropped)
  pub said : Said asked told (given ++ tail) (text_of v.out ++ ready)
  pub whole : v.ended ≡ Some Clean → (dropped ≡ []) × SaidAll asked told (given ++ tail) (text_of v.out ++ ready)

abbrev pub Stands : Passes → ExchangeValue → List ℕ → List Request → List Reply → Type 0
Stands passes v ready asked told = MatchBool (is_some v.ended) (Went passes v ready asked told) (Goes passes v ready asked told)

-- Wherever a connection stood, it stands there after this too, in which its host answered some requests more, one each and in order.
abbrev pub Turns : {H : Type 0} → May H → H → H → Passes → ExchangeValue → List ℕ → ExchangeValue → List ℕ → Type 0
Turns {H} may old new passes before ready after out =
    (asked : List Request) (told : List Reply) → Stands passes before ready asked told
    → (qs : List Request) × (rs : List Reply) × Answers may old qs rs new × Stands passes after out (asked ++ qs) (told ++ rs)

-- ---- how many bytes it holds

-- how a connection is told to have ended that is cut off for this: cleanly by its session alone
abbrev pub cut_by : Ended → Ended
cut_by Clean = ReadFault
cut_by ended = ended

-- a cut ends what goes on, and nothing else
abbrev pub after_cut : Option Ended → Ended → Option Ended
after_cut None why = Some (cut_by why)
after_cut (Some ended) why = Some ended

-- one whose replies are dropped didn't end cleanly
abbrev pub after_drop : Option Ended → Ended → Option Ended
after_drop (Some Clean) why = Some (cut_by why)
after_drop ended why = after_cut ended why

-- whether the connection is inside of a frame
abbrev pub is_within : ExchangeValue → Bool
is_within v = nat_lt 0 v.place.left || nat_lt 0 (length v.begun)

-- so many came of the frame that the connection is inside of
abbrev pub HoldsOfFrame : ExchangeValue → ℕ → Type 0
HoldsOfFrame v count = (0 < v.place.left → count ≡ v.place.whole - v.place.left) × (v.place.left ≡ 0 → count ≡ length v.begun)

-- and with those that wait so many, up to the greatest number of 64 bits
abbrev pub HoldsAll : ExchangeValue → ℕ → Type 0
HoldsAll v count = (came : ℕ) × HoldsOfFrame v came × (count ≡ min (came + length v.rest) 18446744073709551615)

-- so many of replies are to be taken by its socket yet, with those of one that was begun
abbrev pub HasStanding : ExchangeValue → ℕ → Type 0
HasStanding v count = (more : ℕ) × IsStanding v.session more × (count ≡ min (length v.out.standing + more) 18446744073709551615)

-- ---- what a host answers

-- the first of the requests that it keeps is this one, and is the next to be answered
abbrev pub IsNext : ExchangeValue → Request → Type 0
IsNext v request = (v.ended ≡ None) × (first_of v.session.requests ≡ Some request) × (v.session.kept ≡ None)

-- wherever a connection stood, it stands there with its next request answered so
abbrev pub Told : ExchangeValue → ExchangeValue → Reply → Type 0
Told before after reply =
    (request : Request) → IsNext before request → (passes : Passes) (ready : List ℕ) (asked : List Request) (told : List Reply)
    → Stands passes before ready asked told → Stands passes after ready (asked ++ request ∷ []) (told ++ reply ∷ [])

-- the same where no request was answered
abbrev pub Stays : Passes → ExchangeValue → List ℕ → ExchangeValue → List ℕ → Type 0
Stays passes before ready after out = (asked : List Request) (told : List Reply) → Stands passes before ready asked told → Stands passes after out asked told

-- with these bytes waiting, and none kept back
abbrev pub waiting : ExchangeValue → List ℕ → ExchangeValue
waiting v bytes = record v { begun = []; rest = bytes }

-- with what waits behind a look that ended so: what begins a frame is kept back
abbrev pub behind_look : ExchangeValue → Then → List ℕ → ExchangeValue
behind_look v Reads bytes = record v { rest = [] }
behind_look v Pauses bytes = record v { rest = bytes }
behind_look v Moves bytes = record v { rest = bytes }

-- ---- the same of an `Exchange`, and of what is ready in a buffer

abbrev pub TakesBy : {H : Type 0} → May H → H → H → SessionValue → SessionValue → List ℕ → Vec ℕ → Vec ℕ → Step → Type 0
TakesBy may old new before after piece ready out step = TakesOn may old new before after piece ready.items out.items step

abbrev pub TurnsBy : {H : Type 0} → May H → H → H → Passes → Exchange → Vec ℕ → Exchange → Vec ℕ → Type 0
TurnsBy may old new passes before ready after out = Turns may old new passes (value_of before) ready.items (value_of after) out.items

-- whatever its door lets through
abbrev pub TurnsAnyhow : {H : Type 0} → May H → H → H → Exchange → Vec ℕ → Exchange → Vec ℕ → Type 0
TurnsAnyhow may old new before ready after out = (passes : Passes) → TurnsBy may old new passes before ready after out

-- with these bytes waiting before
abbrev pub ReceivesBy : {H : Type 0} → May H → H → H → Passes → Exchange → List ℕ → Vec ℕ → Exchange → Vec ℕ → Type 0
ReceivesBy may old new passes before came ready after out = Turns may old new passes (waiting (value_of before) came) ready.items (value_of after) out.items

-- with these bytes waiting before, and after a look those of the others that weren't handed on
abbrev pub LooksBy : {H : Type 0} → May H → H → H → How → Exchange → List ℕ → Vec ℕ → Exchange → Taken → List ℕ → Vec ℕ → Type 0
LooksBy may old new how before came ready after taken left out =
    Turns may old new how.passes (waiting (value_of before) came) ready.items (behind_look (value_of after) taken.then (drop taken.count left)) out.items

-- the same where the look began at a place of the buffer
abbrev pub LooksFrom : {H : Type 0} → May H → H → H → How → ℕ → Exchange → List ℕ → Vec ℕ → Exchange → Taken → List ℕ → Vec ℕ → Type 0
LooksFrom may old new how from before came ready after taken left out =
    Turns may old new how.passes (waiting (value_of before) (drop from came)) ready.items (behind_look (value_of after) taken.then (drop (from + taken.count) left)) out.items

abbrev pub KeepsBy : Exchange → Then → List ℕ → Exchange → Type 0
KeepsBy before then left after = (passes : Passes) (ready : List ℕ) → Stays passes (behind_look (value_of before) then left) ready (value_of after) ready

abbrev pub StaysBy : Exchange → List ℕ → Exchange → List ℕ → Type 0
StaysBy before ready after out = (passes : Passes) → Stays passes (value_of before) ready (value_of after) out

-- nothing but the session changed
abbrev pub ChangesSession : Exchange → Exchange → Type 0
ChangesSession before after = value_of after ≡ record (value_of before) { session = (value_of after).session }

-- it is cut off for this, and else the same
abbrev pub CutsOff : Exchange → Ended → Exchange → Type 0
CutsOff before why after = value_of after ≡ record (value_of before) { ended = after_cut (value_of before).ended why }

-- and so where what was said won't be written
abbrev pub CutsShort : Exchange → Ended → Exchange → Type 0
CutsShort before why after = value_of after ≡ record (value_of before) { ended = after_drop (value_of before).ended why }

abbrev pub ToldBy : Exchange → Exchange → Reply → Type 0
ToldBy before after reply = Told (value_of before) (value_of after) reply

-- whatever is ready
abbrev pub StaysReady : Exchange → Exchange → Type 0
StaysReady before after = (passes : Passes) (ready : List ℕ) → Stays passes (value_of before) ready (value_of after) ready

-- a socket took a front of what stands and of what is put in behind it
abbrev pub SendsBy : {S : Type 0} → (S → Option (List ℕ)) → S → S → Exchange → Exchange → List ℕ → Type 0
SendsBy contents socket socket_after before after more = SendsFront contents socket socket_after (value_of before).out (value_of after).out more

-- behind a look that ended so, of which the bytes from one place on weren't handed on, those wait that stand from another on
abbrev pub LeavesFrom : Then → ℕ → ℕ → ℕ → Type 0
LeavesFrom then place len from =
    (v : ExchangeValue) (bytes : List ℕ) → length bytes ≡ len → behind_look v then (drop place bytes) ≡ record v { rest = drop from bytes }

-- ---- laws

-- What the socket took is a front of the replies to the first of the requests that the session got, one each and in order, and of what says which fault follows
-- them. What it got is what came, as the door judges it, and at the end as it is; some of what came it may not have got yet. Where the peer ended the connection
-- between two requests, and the socket took all that was said, it got all that came, and the socket took just the replies to all of its requests.
pub record Served (passes : Passes) (v : ExchangeValue) (ready : List ℕ) (asked : List Request) (told : List Reply) : Type 0 where
  pub passed : List ℕ
  pub given : List ℕ
  pub tail : List ℕ
  pub others : List ℕ
  pub there : Place
  pub hands : HandsOn passes (inside 0 0) passed given there
  pub split : v.came ≡ passed ++ (tail ++ others)
  pub said : Said asked told (given ++ tail) v.out.sent
  pub whole : v.ended ≡ Some Clean → v.out.standing ≡ [] → ready ≡ [] → (others ≡ []) × SaidAll asked told (given ++ tail) v.out.sent

abbrev pub ServedLaw : Type 0
ServedLaw = (passes : Passes) (v : ExchangeValue) (ready : List ℕ) (asked : List Request) (told : List Reply) → Stands passes v ready asked told → Served passes v ready asked told
