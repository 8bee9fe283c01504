-- What the calls of a session do, over counted devices: `remaining` shows what is left to read of a device, and `contents`
-- what was written to one.
use Rattle.std.specs.Prelude.{◌≡◌, ◌⊎◌, ◌<◌, ◌+◌, ◌^◌, ◌-◌, ◌++◌, ℕ, List, min, Option, Some, None}
use Rattle.std.specs.Io.KnownBytes.{Appends, Consumes}
use Rattle.hk_types.specs.declared.faults.FormFault.{FormFault}
use Rattle.hk_session_parts.specs.declared.ended.Ended.{Ended}
use Rattle.hk_messages.specs.declared.request.Request.{Request}
use Rattle.hk_messages.specs.declared.reply.Reply.{Reply}
use Rattle.hk_session_parts.specs.Values.{CountedValue}
use Rattle.hk_session_parts.specs.Sessions.{EndedSo, IsResting, SessionValue, Stands}
use Rattle.hk_session_parts.specs.Transcript.{Concludes, Ends, IsDone, IsMidway, IsProperPrefixOf, IsStopped, May, PartialTranscript, SessionStep, Transcript, Writes}

-- the text was written
abbrev pub Wrote : {W : Type 0} → (W → Option (List ℕ)) → CountedValue W → CountedValue W → List ℕ → Type 0
Wrote contents old new text = Appends (contents old.device) (contents new.device) text

-- a front of the text was written, and not all of it
abbrev pub CutsOff : {W : Type 0} → (W → Option (List ℕ)) → CountedValue W → CountedValue W → List ℕ → Type 0
CutsOff contents old new text = (part : List ℕ) × IsProperPrefixOf part text × Wrote contents old new part

-- what was held was written, as `Writes` says
abbrev pub WritesBy : {W : Type 0} → (W → Option (List ℕ)) → CountedValue W → CountedValue W → List ℕ → List ℕ → Option Ended → Type 0
WritesBy contents old new held left result = Writes held (contents old.device) (contents new.device) left result

-- the session was ended at the end of its stream, as `Concludes` says
abbrev pub ConcludesBy : {W : Type 0} → (W → Option (List ℕ)) → CountedValue W → CountedValue W → Option FormFault → Ended → Type 0
ConcludesBy contents old new fault ended = Concludes fault (contents old.device) (contents new.device) ended

-- where a session stands that goes on with all requests answered, or how it ended before its reader did
abbrev pub SpokeSo : {H : Type 0} → ℕ → May H → H → H → List ℕ → List ℕ → SessionValue → Option Ended → Type 0
SpokeSo latest may start now bytes text s None = Stands latest may start now bytes text s × IsResting s
SpokeSo latest may start now bytes text s (Some ended) = EndedSo latest may start now bytes text ended × IsMidway ended

-- behind this text there was written what a session says that took these bytes so far
abbrev pub Speaks : {H W : Type 0} → ℕ → May H → H → H → (W → Option (List ℕ)) → CountedValue W → CountedValue W → List ℕ → List ℕ → SessionValue → Option Ended → Type 0
Speaks latest may start now contents old new bytes text s result =
    (said : List ℕ) × Wrote contents old new said × SpokeSo latest may start now bytes (text ++ said) s result

-- wherever the session stood before, it answered the requests that waited, and wrote what it says
abbrev pub AnswersOn : {H W : Type 0} → ℕ → May H → H → H → (W → Option (List ℕ)) → CountedValue W → CountedValue W → SessionValue → SessionValue → Option Ended → Type 0
AnswersOn {H} latest may host host_after contents old new before after result =
    (start : H) (bytes text : List ℕ) → Stands latest may start host bytes text before → Speaks latest may start host_after contents old new bytes text after result

-- the same where it took a piece first
abbrev pub HandlesPiece : {H W : Type 0} → ℕ → May H → H → H → (W → Option (List ℕ)) → CountedValue W → CountedValue W → SessionValue → SessionValue → List ℕ → Option Ended → Type 0
HandlesPiece {H} latest may host host_after contents old new before after piece result =
    (start : H) (bytes text : List ℕ) → Stands latest may start host bytes text before → Speaks latest may start host_after contents old new (bytes ++ piece) text after result

-- the bytes were answered so, as `SessionStep` says
abbrev pub StepsBy : {H W : Type 0} → May H → H → H → (W → Option (List ℕ)) → CountedValue W → CountedValue W → List ℕ → (List ℕ → List Request → List Reply → List ℕ → Type 0) → Type 0
StepsBy may host host_after contents old new bytes How = SessionStep may host host_after (contents old.device) (contents new.device) bytes How

-- where the session ended by what it read, what was written is the transcript of these bytes
abbrev pub WritesAll : {H W : Type 0} → ℕ → May H → H → H → (W → Option (List ℕ)) → CountedValue W → CountedValue W → List ℕ → Ended → Type 0
WritesAll latest may host host_after contents old new bytes ended =
    IsDone ended → (text : List ℕ) × Wrote contents old new text × Transcript latest may host host_after bytes text

-- where memory ran out or a write failed, what was written is the transcript of a front of these bytes, all of it or cut off
abbrev pub WritesPart : {H W : Type 0} → ℕ → May H → H → H → (W → Option (List ℕ)) → CountedValue W → CountedValue W → List ℕ → Ended → Type 0
WritesPart latest may host host_after contents old new bytes ended =
    IsStopped ended → (part : List ℕ) × Wrote contents old new part × PartialTranscript latest may host host_after bytes part

-- the bytes were read
abbrev pub Took : {R : Type 0} → (R → Option (List ℕ)) → CountedValue R → CountedValue R → List ℕ → Type 0
Took remaining old new bytes = Consumes (remaining old.device) (remaining new.device) bytes

-- where the session ended by what it read, what was written is the transcript of what was read
abbrev pub ServesAll : {H R W : Type 0} → ℕ → May H → H → H → (R → Option (List ℕ)) → CountedValue R → CountedValue R → (W → Option (List ℕ)) → CountedValue W → CountedValue W → Ended → Type 0
ServesAll latest may host host_after remaining reader reader_after contents old new ended =
    IsDone ended → (bytes text : List ℕ) × Took remaining reader reader_after bytes × Wrote contents old new text × Transcript latest may host host_after bytes text

-- where memory ran out or a write failed, what was written is the transcript of a front of what was read, all of it or cut off
abbrev pub ServesPart : {H R W : Type 0} → ℕ → May H → H → H → (R → Option (List ℕ)) → CountedValue R → CountedValue R → (W → Option (List ℕ)) → CountedValue W → CountedValue W → Ended → Type 0
ServesPart latest may host host_after remaining reader reader_after contents old new ended =
    IsStopped ended → (bytes part : List ℕ) × Took remaining reader reader_after bytes × Wrote contents old new part × PartialTranscript latest may host host_after bytes part

-- the session ended so: which bytes were read, and what was done and written for them
abbrev pub Serves : {H R W : Type 0} → ℕ → May H → H → H → (R → Option (List ℕ)) → CountedValue R → CountedValue R → (W → Option (List ℕ)) → CountedValue W → CountedValue W → Ended → Type 0
Serves latest may host host_after remaining reader reader_after contents old new ended =
    (bytes : List ℕ) × Took remaining reader reader_after bytes × StepsBy may host host_after contents old new bytes (Ends latest ended)

-- a read failed, or a session made as many as it may
abbrev pub FailsToRead : {R : Type 0} → CountedValue R → CountedValue R → Type 0
FailsToRead old new = (0 < new.faults) ⊎ (new.calls ≡ min (old.calls + 2 ^ 32) (2 ^ 64 - 1))
