-- What a session writes, by what it read: requests up to the latest version that it reads.
use Rattle.std.specs.Prelude.{◌≡◌, ◌≢◌, ◌⊎◌, ◌<◌, ◌≤◌, ℕ, List, [], ◌∷◌, ◌++◌, length, map, Option, Some, None, Result, Ok, Err}
use Rattle.std.specs.List.{flat_map, AllByRecursion}
use Rattle.std.specs.Io.KnownBytes.{Appends}
use Rattle.hk_types.specs.declared.faults.FormFault.{FormFault}
use Rattle.hk_types.specs.declared.faults.FormFault.TheVariants.{Truncated}
use Rattle.hk_frames.specs.Framing.{encoded}
use Rattle.hk_messages.specs.declared.request.Request.{Request}
use Rattle.hk_messages.specs.declared.reply.Reply.{Reply}
use Rattle.hk_messages.specs.Requests.{WrittenRequest, request_seen, request_meant, request_rest, IsRequestUpTo, ReadsRequests}
use Rattle.hk_session_parts.specs.Said.{reply_bytes, fault_reply, refused_text}
use Rattle.hk_session_parts.specs.declared.ended.Ended.{Ended}
use Rattle.hk_session_parts.specs.declared.ended.Ended.TheVariants.{Clean, Fault, Memory, ReadFault, WriteFault}

-- what a host may do: which reply it gives to a request, and how it is left
abbrev pub May : Type 0 → Type 1
May H = H → Request → Reply → H → Type 0

-- The host gives these replies to these requests, one each and in order, each as it may in the state that the one
-- before left.
abbrev pub Answers : {H : Type 0} → May H → H → List Request → List Reply → H → Type 0
Answers may old [] [] new = new ≡ old
Answers {H} may old (q ∷ qs) (r ∷ rs) new = (mid : H) × may old q r mid × Answers may mid qs rs new
Answers may old [] (r ∷ rs) new = ⊥
Answers may old (q ∷ qs) [] new = ⊥

-- the replies one after the other
abbrev pub replies_bytes : List Reply → List ℕ
replies_bytes rs = flat_map reply_bytes rs

-- what is written at the end, by what is left of the bytes
abbrev pub closing_bytes : Result (List ℕ) FormFault → List ℕ
closing_bytes (Ok []) = []
closing_bytes (Ok (b ∷ left)) = refused_text Truncated
closing_bytes (Err f) = refused_text f

-- The text is what a host answers to all of the bytes: the replies to the requests that they encode, one each and in
-- order, up to the first fault, which is then told. Bytes that end inside a frame have the fault `Truncated`.
pub record Transcript {H : Type 0} (latest : ℕ) (may : May H) (old new : H) (bytes text : List ℕ) : Type 0 where
  pub requests : List Request
  pub left : Result (List ℕ) FormFault
  pub reads : ReadsRequests latest bytes requests left
  pub replies : List Reply
  pub answers : Answers may old requests replies new
  pub told : text ≡ replies_bytes replies ++ closing_bytes left

-- the first of the two texts begins the second
abbrev pub IsPrefixOf : List ℕ → List ℕ → Type 0
IsPrefixOf front text = (rest : List ℕ) × (front ++ rest ≡ text)

-- and is not all of it
abbrev pub IsProperPrefixOf : List ℕ → List ℕ → Type 0
IsProperPrefixOf front text = IsPrefixOf front text × (length front < length text)

-- The text of the replies is cut off. Those before the cut were written whole, and of the text of the others a front that
-- is not all of it. The others are a last reply, and those that were held back before it: at most 65,536 bytes.
pub record IsCut (written : List ℕ) (replies : List Reply) : Type 0 where
  pub said : List Reply
  pub held : List Reply
  pub last : Reply
  pub order : replies ≡ said ++ (held ++ last ∷ [])
  pub few : length (replies_bytes held) ≤ 65536
  pub part : List ℕ
  pub front : IsProperPrefixOf part (replies_bytes (held ++ last ∷ []))
  pub wrote : written ≡ replies_bytes said ++ part

-- the text of the replies, all of it or cut off
abbrev pub IsAllOrCut : List ℕ → List Reply → Type 0
IsAllOrCut written replies = (written ≡ replies_bytes replies) ⊎ IsCut written replies

-- bytes that are whole requests
abbrev pub AreWhole : ℕ → List ℕ → Type 0
AreWhole latest bytes = (requests : List Request) × ReadsRequests latest bytes requests (Ok [])

-- the fault that bytes have after whole requests, by what is left of them
abbrev pub fault_of : Result (List ℕ) FormFault → Option FormFault
fault_of (Ok []) = None
fault_of (Ok (b ∷ left)) = Some Truncated
fault_of (Err f) = Some f

-- the replies that close a session, by the fault that ends it
abbrev pub closing : Option FormFault → List Reply
closing None = []
closing (Some f) = fault_reply f ∷ []

-- What a host answers to a front of the bytes, which is whole requests or all of them: all of it, or cut off.
pub record PartialTranscript {H : Type 0} (latest : ℕ) (may : May H) (old new : H) (bytes part : List ℕ) : Type 0 where
  pub front : List ℕ
  pub back : List ℕ
  pub parted : bytes ≡ front ++ back
  pub whole : AreWhole latest front ⊎ (back ≡ [])
  pub text : List ℕ
  pub told : Transcript latest may old new front text
  pub cut : IsAllOrCut part (told.replies ++ closing (fault_of told.left))

-- the fault that a feeder met
abbrev pub fault_met : Result (List ℕ) FormFault → Option FormFault
fault_met (Ok left) = None
fault_met (Err f) = Some f

-- the bytes begin with encodings of these requests
abbrev pub BeginsWith : ℕ → List ℕ → List Request → Type 0
BeginsWith latest bytes requests =
    (written : List WrittenRequest) × (map request_seen requests ≡ map request_meant written) × (rest : List ℕ) × (bytes ≡ flat_map (encoded request_rest) written ++ rest)
    × AllByRecursion (IsRequestUpTo latest) written

-- What was read and written where a session ended so. The requests are those that were answered: no other was executed.
abbrev pub Ends : ℕ → Ended → List ℕ → List Request → List Reply → List ℕ → Type 0
-- the bytes are whole requests, and the replies to them were written
Ends latest Clean bytes requests replies written = ReadsRequests latest bytes requests (Ok []) × (written ≡ replies_bytes replies)
-- after the replies to the whole requests it was said which fault follows them
Ends latest (Fault f) bytes requests replies written =
    (left : Result (List ℕ) FormFault) × ReadsRequests latest bytes requests left × (fault_of left ≡ Some f) × (written ≡ replies_bytes replies ++ refused_text f)
-- the replies to the whole requests were written and no more
Ends latest ReadFault bytes requests replies written = (left : List ℕ) × ReadsRequests latest bytes requests (Ok left) × (written ≡ replies_bytes replies)
-- the replies to some of the requests, all of them or cut off
Ends latest Memory bytes requests replies written = BeginsWith latest bytes requests × IsAllOrCut written replies
-- the replies to some of the requests, cut off; or all replies and the fault that follows them, cut off
Ends latest WriteFault bytes requests replies written =
    (BeginsWith latest bytes requests × IsCut written replies)
    ⊎ ((left : Result (List ℕ) FormFault) × (f : FormFault) × ReadsRequests latest bytes requests left × (fault_of left ≡ Some f) × IsCut written (replies ++ fault_reply f ∷ []))

-- What was said to the bytes: which requests of theirs were answered how, and what was written.
pub record SessionStep {H : Type 0} (may : May H) (old new : H) (before after : Option (List ℕ)) (bytes : List ℕ)
    (How : List ℕ → List Request → List Reply → List ℕ → Type 0) : Type 0 where
  pub requests : List Request
  pub replies : List Reply
  pub answers : Answers may old requests replies new
  pub written : List ℕ
  pub appended : Appends before after written
  pub how : How bytes requests replies written

-- what a call that writes a text and then holds none did, where it answers so
abbrev pub Writes : List ℕ → Option (List ℕ) → Option (List ℕ) → List ℕ → Option Ended → Type 0
Writes text before after left None = Appends before after text × (left ≡ [])
Writes text before after left (Some WriteFault) = (part : List ℕ) × IsProperPrefixOf part text × Appends before after part
Writes text before after left (Some Memory) = ⊥
Writes text before after left (Some Clean) = ⊥
Writes text before after left (Some (Fault f)) = ⊥
Writes text before after left (Some ReadFault) = ⊥

-- how a session can end before its reader does
abbrev pub IsMidway : Ended → Type 0
IsMidway Clean = ⊥
IsMidway (Fault f) = f ≢ Truncated
IsMidway Memory = Unit {0}
IsMidway ReadFault = ⊥
IsMidway WriteFault = Unit {0}

-- what a call that says which fault ends the session did, where it answers so
abbrev pub Refuses : FormFault → Option (List ℕ) → Option (List ℕ) → Ended → Type 0
Refuses f before after (Fault g) = (g ≡ f) × Appends before after (refused_text f)
Refuses f before after Memory = Appends before after []
Refuses f before after WriteFault = (part : List ℕ) × IsProperPrefixOf part (refused_text f) × Appends before after part
Refuses f before after Clean = ⊥
Refuses f before after ReadFault = ⊥

-- what a call that ends a session at the end of its stream did, by the fault of what is left, where it answers so
abbrev pub Concludes : Option FormFault → Option (List ℕ) → Option (List ℕ) → Ended → Type 0
Concludes None before after ended = (ended ≡ Clean) × Appends before after []
Concludes (Some f) before after ended = Refuses f before after ended

-- a session that ended by what it read
abbrev pub IsDone : Ended → Type 0
IsDone Clean = Unit {0}
IsDone (Fault f) = Unit {0}
IsDone Memory = ⊥
IsDone ReadFault = ⊥
IsDone WriteFault = ⊥

-- a session that could not go on writing
abbrev pub IsStopped : Ended → Type 0
IsStopped Clean = ⊥
IsStopped (Fault f) = ⊥
IsStopped Memory = Unit {0}
IsStopped ReadFault = ⊥
IsStopped WriteFault = Unit {0}
