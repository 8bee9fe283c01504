-- A session between two reads, and what is done for it there.
use Rattle.std.specs.Prelude.{◌≡◌, ◌≢◌, ◌⊎◌, ◌<◌, ◌≤◌, ◌+◌, ℕ, Bool, true, false, List, [], ◌∷◌, ◌++◌, length, take, Option, Some, None, option_to_list, Result, Ok, Err, IfOk, refl}
use Rattle.std.specs.Coded.{Coded, code_by, coded×, coded_list, coded_option, coded_result, coded_ℕ}
use Rattle.std.specs.List.{AllByRecursion}
use Rattle.hk_types.specs.declared.faults.FormFault.{FormFault}
use Rattle.hk_types.specs.declared.faults.Refusal.{Refusal}
use Rattle.hk_frames.specs.Framing.{last_answer}
use Rattle.hk_messages.specs.declared.request.Request.{Request}
use Rattle.hk_messages.specs.declared.request.Request.TheVariants as asked
use Rattle.hk_messages.specs.declared.later_request.LaterRequest.TheVariants as later
use Rattle.hk_messages.specs.declared.reply.Reply.{Reply}
use Rattle.hk_messages.specs.Requests.{ReadsRequests, AddsRequests}
use Rattle.hk_session_parts.specs.Said.{refused_text}
use Rattle.hk_session_parts.specs.Transcript.{May, Answers, Ends, replies_bytes, fault_of, fault_met}
use Rattle.hk_session_parts.specs.declared.ended.Ended.{Ended}
use Rattle.hk_session_parts.specs.declared.ended.Ended.TheVariants.{Clean, Fault, Memory, ReadFault, WriteFault}
use Rattle.hk_session_parts.specs.declared.step.Step.{Step}
use Rattle.hk_session_parts.specs.declared.step.Step.TheVariants as steps

-- the value of a `Session`: the requests that wait for an answer, what a feeder holds behind them, a reply that isn't appended
-- whole yet, and how many of its bytes are
pub record SessionValue : Type 0 where
  pub requests : List Request
  pub left : Result (List ℕ) FormFault
  pub kept : Option Reply
  pub begun : ℕ

abbrev pub session_code : Coded Request → Coded FormFault → Coded Reply → Coded SessionValue
session_code request fault reply =
    code_by (List Request × (Result (List ℕ) FormFault × (Option Reply × ℕ))) (coded× (coded_list request) (coded× (coded_result (coded_list coded_ℕ) fault) (coded× (coded_option reply) coded_ℕ)))
    (λ s. (s.requests, (s.left, (s.kept, s.begun)))) (λ p. record { requests = p.0; left = p.1.0; kept = p.1.1.0; begun = p.1.1.1 }) (λ _. refl)

-- what is written for the reply that is kept, and what of that is appended
abbrev pub kept_bytes : SessionValue → List ℕ
kept_bytes s = replies_bytes (option_to_list s.kept)

abbrev pub begun_bytes : SessionValue → List ℕ
begun_bytes s = take s.begun (kept_bytes s)

-- of a reply that was begun so many bytes aren't appended yet
abbrev pub IsStanding : SessionValue → ℕ → Type 0
IsStanding s n = ((s.begun ≡ 0) × (n ≡ 0)) ⊎ (s.begun + n ≡ length (kept_bytes s))

-- what a request waits for, where it is an `Await`: a time, and for how many milliseconds
abbrev pub awaited : Request → Option (ℕ × ℕ)
awaited (asked.Later (later.Await t milliseconds)) = Some (t, milliseconds)
awaited other = None

-- what the first of the requests waits for
abbrev pub first_awaited : List Request → Option (ℕ × ℕ)
first_awaited [] = None
first_awaited (request ∷ rest) = awaited request

-- the first of the requests
abbrev pub first_of : List Request → Option Request
first_of [] = None
first_of (request ∷ rest) = Some request

-- the first of the requests was answered so, and its reply is kept; or a reply was kept, or there is no request, and nothing changed
abbrev pub AnswersFirst : SessionValue → SessionValue → Reply → Type 0
AnswersFirst before after reply =
    ((request : Request) × (rest : List Request) × (before.requests ≡ request ∷ rest) × (before.kept ≡ None) × (after ≡ record before { requests = rest; kept = Some reply; begun = 0 }))
    ⊎ (((before.requests ≡ []) ⊎ (before.kept ≢ None)) × (after ≡ before))

-- there is no request, or the first is an `Await` that wasn't waited for
abbrev pub HasNoNext : Bool → List Request → Type 0
HasNoNext waited requests = (requests ≡ []) ⊎ ((waited ≡ false) × (first_awaited requests ≢ None))

-- no request is an `Await`, but the first where it was waited for
abbrev pub HaveWaited : Bool → List Request → Type 0
HaveWaited false requests = AllByRecursion (λ q. awaited q ≡ None) requests
HaveWaited true [] = Unit {0}
HaveWaited true (first ∷ rest) = AllByRecursion (λ q. awaited q ≡ None) rest

-- behind what is ready the replies have at most 65,536 bytes with it, but for the last
abbrev pub AreFew : List ℕ → List Reply → Type 0
AreFew ready replies =
    (replies ≡ []) ⊎ ((front : List Reply) × (last : Reply) × (replies ≡ front ++ last ∷ []) × (length ready ≤ 65536 → length (ready ++ replies_bytes front) ≤ 65536))

-- Where a session stands, which began with the host so, took these bytes and appended this text: it answered the first of the
-- requests that the bytes encode, and the others wait; the text has the replies, and what is appended of one that is kept.
pub record Stands {H : Type 0} (latest : ℕ) (may : May H) (start now : H) (bytes text : List ℕ) (s : SessionValue) : Type 0 where
  pub answered : List Request
  pub reads : ReadsRequests latest bytes (answered ++ s.requests) s.left
  pub replies : List Reply
  pub answers : Answers may start answered replies now
  pub said : List Reply
  pub order : replies ≡ said ++ option_to_list s.kept
  pub told : text ≡ replies_bytes said ++ begun_bytes s

-- all requests are answered, and no fault follows them
abbrev pub IsResting : SessionValue → Type 0
IsResting s = (s.requests ≡ []) × (s.kept ≡ None) × ((rest : List ℕ) × (s.left ≡ Ok rest))

-- all requests are answered, and this fault follows them
abbrev pub IsAtFault : SessionValue → FormFault → Type 0
IsAtFault s fault = (s.requests ≡ []) × (s.kept ≡ None) × (s.left ≡ Err fault)

-- A piece was read: its requests wait behind the others. What was read before, and the piece, is read as what was there
-- before, and these.
pub record ReadIn (latest : ℕ) (before after : SessionValue) (piece : List ℕ) : Type 0 where
  pub new : List Request
  pub behind : after.requests ≡ before.requests ++ new
  pub reads : (bytes : List ℕ) (requests : List Request) → ReadsRequests latest bytes requests before.left → ReadsRequests latest (bytes ++ piece) (requests ++ new) after.left
  pub same : after.kept ≡ before.kept
  pub begun : after.begun ≡ before.begun

-- The next piece of the reply that is kept was appended to what was ready: all that is left of it, or more than 65,536 bytes. Of one
-- that was begun there was something left.
pub record AppendsKept (before after : SessionValue) (ready out : List ℕ) : Type 0 where
  pub said : List Reply
  pub kept : option_to_list before.kept ≡ said ++ option_to_list after.kept
  pub more : List ℕ
  pub added : out ≡ ready ++ more
  pub told : begun_bytes before ++ more ≡ replies_bytes said ++ begun_bytes after
  pub same : after ≡ record before { kept = after.kept; begun = after.begun }
  pub piece : (after.kept ≡ None) ⊎ (65536 < length more)
  pub left : 0 < before.begun → 0 < length more

-- Some of the requests were answered, the first ones, and their replies appended to what was ready, behind what was left of one
-- that was kept; the last may be kept now, and appended in part. An `Await` was answered only as the first, where it was waited for.
pub record Turn {H : Type 0} (may : May H) (old new : H) (before after : SessionValue) (has_waited : Bool) (ready out : List ℕ) : Type 0 where
  pub answered : List Request
  pub order : before.requests ≡ answered ++ after.requests
  pub waited : HaveWaited has_waited answered
  pub replies : List Reply
  pub answers : Answers may old answered replies new
  pub said : List Reply
  pub kept : option_to_list before.kept ++ replies ≡ said ++ option_to_list after.kept
  pub more : List ℕ
  pub added : out ≡ ready ++ more
  pub told : begun_bytes before ++ more ≡ replies_bytes said ++ begun_bytes after
  pub few : AreFew ready (option_to_list before.kept ++ replies)
  pub same : after.left ≡ before.left

-- what a call that answers did, where it says so
abbrev pub Turns : {H : Type 0} → May H → H → H → SessionValue → SessionValue → Bool → List ℕ → List ℕ → Step → Type 0
-- all requests were answered
Turns may old new before after has_waited ready out steps.GoesOn = Turn may old new before after has_waited ready out × IsResting after
-- there is something to write
Turns may old new before after has_waited ready out steps.Full = Turn may old new before after has_waited ready out × (out ≢ [])
-- the first of the others is an `Await`, and isn't one that was waited for
Turns may old new before after has_waited ready out (steps.Waits t milliseconds) =
    (turn : Turn may old new before after has_waited ready out) × (after.kept ≡ None) × (first_awaited after.requests ≡ Some (t, milliseconds)) × (has_waited ≡ true → turn.answered ≢ [])
-- all requests were answered, and it was said which fault follows them, by a call before which no reply was appended in part
Turns may old new before after has_waited ready out (steps.Ended (Fault f)) =
    (front : List ℕ) × Turn may old new before after has_waited ready front × IsAtFault after f × (out ≡ front ++ refused_text f) × (length front ≤ 65536) × (before.begun ≡ 0)
-- memory ran out, and there is nothing to write
Turns may old new before after has_waited ready out (steps.Ended Memory) = Turn may old new before after has_waited ready out × (out ≡ [])
Turns may old new before after has_waited ready out (steps.Ended Clean) = ⊥
Turns may old new before after has_waited ready out (steps.Ended ReadFault) = ⊥
Turns may old new before after has_waited ready out (steps.Ended WriteFault) = ⊥

-- a piece was read and requests were answered; or memory ran out for the piece, and nothing happened
abbrev pub Takes : {H : Type 0} → ℕ → May H → H → H → SessionValue → SessionValue → List ℕ → Bool → List ℕ → List ℕ → Step → Type 0
Takes latest may old new before after piece has_waited ready out step =
    ((read : SessionValue) × ReadIn latest before read piece × Turns may old new read after has_waited ready out step)
    ⊎ ((step ≡ steps.Ended Memory) × (new ≡ old) × (after ≡ before) × (out ≡ ready))

-- what a session that ended so answered and appended, of these bytes
abbrev pub EndedSo : {H : Type 0} → ℕ → May H → H → H → List ℕ → List ℕ → Ended → Type 0
EndedSo latest may start now bytes text ended =
    (requests : List Request) × (replies : List Reply) × Answers may start requests replies now × Ends latest ended bytes requests replies text

-- where a session stands that says so, or how it ended
abbrev pub StandsSo : {H : Type 0} → ℕ → May H → H → H → List ℕ → List ℕ → SessionValue → Step → Type 0
StandsSo latest may start now bytes text s steps.GoesOn = Stands latest may start now bytes text s
StandsSo latest may start now bytes text s steps.Full = Stands latest may start now bytes text s
StandsSo latest may start now bytes text s (steps.Waits t milliseconds) = Stands latest may start now bytes text s
StandsSo latest may start now bytes text s (steps.Ended ended) = EndedSo latest may start now bytes text ended

-- Wherever the session stood before, it stands there after it took the piece too, and appended a text.
abbrev pub Continues : {H : Type 0} → ℕ → May H → H → H → SessionValue → SessionValue → List ℕ → List ℕ → List ℕ → Step → Type 0
Continues {H} latest may old new before after piece ready out step =
    (said : List ℕ) × (out ≡ ready ++ said)
    × ((start : H) (bytes text : List ℕ) → Stands latest may start old bytes text before → StandsSo latest may start new (bytes ++ piece) (text ++ said) after step)

-- a feeder that holds bytes took a piece behind them: which requests were added, and which fault follows these
abbrev pub TakesIn : {E : Type 0} → ℕ → Result (List ℕ) FormFault → Result (List ℕ) FormFault → List ℕ → List Request → List Request → Result (Option FormFault) E → Type 0
TakesIn latest feeder after piece before requests result =
    (left : List ℕ) → feeder ≡ Ok left → IfOk result (λ f. AddsRequests latest before requests (left ++ piece) after × (f ≡ fault_met after))

-- what a call says that found no memory, with this to be written
abbrev pub IsWithoutMemory : List ℕ → Step → Type 0
IsWithoutMemory ready step = ((step ≡ steps.Full) × (ready ≢ [])) ⊎ ((step ≡ steps.Ended Memory) × (ready ≡ []))

-- what a call that finds no request to answer did, where it says so
abbrev pub Pauses : SessionValue → List ℕ → List ℕ → Step → Type 0
Pauses s ready out steps.GoesOn = (out ≡ ready) × (first_awaited s.requests ≡ None) × ((rest : List ℕ) × (s.left ≡ Ok rest))
Pauses s ready out steps.Full = (out ≡ ready) × (out ≢ [])
Pauses s ready out (steps.Waits t milliseconds) = (out ≡ ready) × (first_awaited s.requests ≡ Some (t, milliseconds))
Pauses s ready out (steps.Ended (Fault f)) = (out ≡ ready ++ refused_text f) × (first_awaited s.requests ≡ None) × (s.left ≡ Err f)
Pauses s ready out (steps.Ended Memory) = (out ≡ ready) × (out ≡ [])
Pauses s ready out (steps.Ended Clean) = ⊥
Pauses s ready out (steps.Ended ReadFault) = ⊥
Pauses s ready out (steps.Ended WriteFault) = ⊥

-- what a call that ends a session did, by the fault of what is left
abbrev pub Closes : Option FormFault → List ℕ → List ℕ → Ended → Type 0
Closes None ready out ended = (ended ≡ Clean) × (out ≡ ready)
Closes (Some f) ready out ended = ((ended ≡ Fault f) × (out ≡ ready ++ refused_text f)) ⊎ ((ended ≡ Memory) × (out ≡ ready))

-- the same by what the feeder answers at the end
abbrev pub ClosesBy : Result (Unit {0}) Refusal → List ℕ → List ℕ → Ended → Type 0
ClosesBy answer ready out ended = (left : Result (List ℕ) FormFault) → answer ≡ last_answer left → Closes (fault_of left) ready out ended
