-- What a session read, and the transcript of it.
use Rattle.std.proofs.Common.{◌≡◌, ◌≢◌, ℕ, ◌⊎◌, List, [], ◌∷◌, ◌++◌, map, take, Option, Some, None, Result, Ok, Err, refl, sym, ap, subst, ◌∙◌, append_assoc, append-nil, arith, inl, inr}
use Rattle.std.specs.List.{flat_map, AllByRecursion}
use Rattle.std.specs.Io.KnownBytes.{Appends, Consumes}
use Rattle.std.proofs.KnownBytes.{Appends-trans, Consumes-trans}
use Rattle.std.proofs.lemmas.Grind.{flat_map-append}
use Rattle.hk_types.specs.declared.faults.FormFault.{FormFault}
use Rattle.hk_types.specs.declared.faults.FormFault.TheVariants.{Truncated}
use Rattle.hk_types.specs.declared.faults.Refusal.{Refusal}
use Rattle.hk_types.specs.declared.faults.Refusal.TheVariants as refusals
use Rattle.hk_frames.specs.Framing.{answer, encoded, Feeds, KeepsFault, KeepsOnMemory}
use Rattle.hk_frames.proofs.FrameStream.{pieces_join_as}
use Rattle.hk_session_parts.specs.declared.ended.Ended.{Ended}
use Rattle.hk_session_parts.specs.declared.ended.Ended.TheVariants.{Clean, Fault, Memory, ReadFault, WriteFault}
use Rattle.hk_messages.specs.declared.request.Request.{Request}
use Rattle.hk_messages.specs.declared.reply.Reply.{Reply}
use Rattle.hk_messages.specs.Requests.{WrittenRequest, request_seen, request_meant, request_at, request_rest, IsRequestUpTo, ReadsRequests, AddsRequests}
use Rattle.hk_session_parts.specs.Said.{reply_bytes, fault_reply, refused_text}
use Rattle.hk_session_parts.proofs.SaidReplies.{faults_told}
use Rattle.hk_session_parts.specs.Transcript.{May, Answers, replies_bytes, fault_of, fault_met, closing, BeginsWith, IsProperPrefixOf, IsCut, IsAllOrCut, Ends, SessionStep, Refuses, IsMidway, IsDone, IsStopped, Transcript, PartialTranscript, closing_bytes}

pub Answers-then : {H : Type 0} (may : May H) (a b c : H) (xs ys : List Request) (rs ss : List Reply) → Answers may a xs rs b → Answers may b ys ss c → Answers may a (xs ++ ys) (rs ++ ss) c
Answers-then {H} may a b c [] ys [] ss x y = subst (λ (s : H). Answers may s ys ss c) x y
Answers-then may a b c (q ∷ xs) ys (r ∷ rs) ss x y = (x.0, x.1, Answers-then may x.0 b c xs ys rs ss x.2 y)
Answers-then may a b c [] ys (r ∷ rs) ss x y = absurd x
Answers-then may a b c (q ∷ xs) ys [] ss x y = absurd x

each_front : {T : Type 0} (P : T → Type 0) (xs ys : List T) → AllByRecursion P (xs ++ ys) → AllByRecursion P xs
each_front P [] ys h = tt
each_front P (x ∷ xs) ys h = (h.0, each_front P xs ys h.1)

-- the encodings of requests
abbrev texts : List WrittenRequest → List ℕ
texts ws = flat_map (encoded request_rest) ws

pub ReadsBy-then : (latest : ℕ) (text left more : List ℕ) (xs ys : List Request) (r : Result (List ℕ) FormFault) → ReadsRequests latest text xs (Ok left) → ReadsRequests latest (left ++ more) ys r
    → ReadsRequests latest (text ++ more) (xs ++ ys) r
ReadsBy-then latest text left more xs ys r h k =
    pieces_join_as request_seen request_meant 2 268435456 (request_at latest) request_rest (IsRequestUpTo latest) text more left xs ys r h k

pub replies_bytes-both : (rs ss : List Reply) → replies_bytes (rs ++ ss) ≡ replies_bytes rs ++ replies_bytes ss
replies_bytes-both rs ss = flat_map-append reply_bytes rs ss

-- ---- a piece

abbrev list_of : {Y : Type 0} → Y → List Y → List Y
list_of x xs = x ∷ xs

cons_is : {Y : Type 0} (x y : Y) (xs ys : List Y) → list_of x xs ≡ list_of y ys → (x ≡ y) × (xs ≡ ys)
cons_is x y xs ys e = (cc, cc)

record Parted (front back : List Request) (written : List WrittenRequest) : Type 0 where
  first : List WrittenRequest
  second : List WrittenRequest
  whole : written ≡ first ++ second
  same : map request_seen front ≡ map request_meant first

parted : (front back : List Request) (written : List WrittenRequest) → map request_seen (front ++ back) ≡ map request_meant written → Parted front back written
parted [] back written e = record { first = []; second = written; whole = refl; same = refl }
parted (q ∷ front) back [] e = absurd cc
parted (q ∷ front) back (w ∷ written) e =
    let c = cons_is (request_seen q) (request_meant w) (map request_seen (front ++ back)) (map request_meant written) e in
    let p = parted front back written c.1 in
    record { first = w ∷ p.first; second = p.second; whole = ap (λ (l : List WrittenRequest). w ∷ l) p.whole; same = cc (c.0, p.same) }

pub begins_front : (latest : ℕ) (text : List ℕ) (qs front back : List Request) → BeginsWith latest text qs → qs ≡ front ++ back → BeginsWith latest text front
begins_front latest text qs front back h e =
    let p = parted front back h.0 (ap (map request_seen) (sym e) ∙ h.1) in
    let split : texts h.0 ≡ texts p.first ++ texts p.second = ap texts p.whole ∙ flat_map-append (encoded request_rest) p.first p.second in
    (p.first, p.same, texts p.second ++ h.2, h.3 ∙ ap (λ (t : List ℕ). t ++ h.2) split ∙ append_assoc (texts p.first) (texts p.second) h.2, each_front (IsRequestUpTo latest) p.first p.second (subst (AllByRecursion (IsRequestUpTo latest)) p.whole h.4))

pub begins_reads : (latest : ℕ) (text : List ℕ) (qs : List Request) (r : Result (List ℕ) FormFault) → ReadsRequests latest text qs r → BeginsWith latest text qs
begins_reads latest text qs (Ok left) h = (h.0, h.1, left, h.2.0, h.2.1)
begins_reads latest text qs (Err f) h = (h.0, h.1, h.2.0, h.2.1, h.2.2)

-- ---- replies

pub one_said : (r : Reply) → replies_bytes (r ∷ []) ≡ reply_bytes r
one_said r = append-nil (reply_bytes r)

-- all replies but the last were written, and of that one a front
cut_at : (rs : List Reply) (r : Reply) (part : List ℕ) → IsProperPrefixOf part (reply_bytes r) → IsCut (replies_bytes rs ++ part) (rs ++ r ∷ [])
cut_at rs r part h =
    record { said = rs; held = []; last = r; order = refl; few = omega arith; part = part; front = subst (IsProperPrefixOf part) (sym (one_said r)) h; wrote = refl }

-- the fault that follows was said, or not
pub fault_said : {H : Type 0} (latest : ℕ) (may : May H) (a b : H) (o p q : Option (List ℕ)) (text : List ℕ) (qs : List Request) (rs : List Reply) (r : Result (List ℕ) FormFault) (f : FormFault) (e : Ended)
    → ReadsRequests latest text qs r → fault_of r ≡ Some f → Answers may a qs rs b → Appends o p (replies_bytes rs) → Refuses f p q e → SessionStep may a b o q text (Ends latest e)
fault_said latest may a b o p q text qs rs r f (Fault g) h of answers appended sent =
    let both = Appends-trans o p q (replies_bytes rs) (refused_text f) appended sent.1 in
    subst (λ (x : FormFault). SessionStep may a b o q text (Ends latest (Fault x))) (sym sent.0)
    (record { requests = qs; replies = rs; answers = answers; written = replies_bytes rs ++ refused_text f; appended = both; how = (r, h, of, refl) })
fault_said latest may a b o p q text qs rs r f Memory h of answers appended sent =
    let both = subst (Appends o q) (append-nil (replies_bytes rs)) (Appends-trans o p q (replies_bytes rs) [] appended sent) in
    record { requests = qs; replies = rs; answers = answers; written = replies_bytes rs; appended = both; how = (begins_reads latest text qs r h, inl refl) }
fault_said latest may a b o p q text qs rs r f WriteFault h of answers appended sent =
    let both = Appends-trans o p q (replies_bytes rs) sent.0 appended sent.2 in
    record { requests = qs; replies = rs; answers = answers; written = replies_bytes rs ++ sent.0; appended = both; how = inr (r, f, h, of, cut_at rs (fault_reply f) sent.0 (subst (IsProperPrefixOf sent.0) (sym (faults_told f)) sent.1)) }
fault_said latest may a b o p q text qs rs r f Clean h of answers appended sent = absurd sent
fault_said latest may a b o p q text qs rs r f ReadFault h of answers appended sent = absurd sent

-- so a session that ends before its reader does, ends with no read fault
pub no_read_fault : (e : Ended) → IsMidway e → e ≢ ReadFault
no_read_fault e midway is = subst IsMidway is midway

-- nor clean, nor cut off
pub not_clean : (e : Ended) → IsMidway e → e ≢ Clean
not_clean e midway is = subst IsMidway is midway

pub not_cut : (e : Ended) → IsMidway e → e ≢ Fault Truncated
not_cut e midway is = subst IsMidway is midway refl

pub split_more : (qs front rest later : List Request) (x : Request) → qs ≡ front ++ rest → rest ≡ x ∷ later → qs ≡ (front ++ x ∷ []) ++ later
split_more qs front rest later x e f = e ∙ ap (λ (t : List Request). front ++ t) f ∙ sym (append_assoc front (x ∷ []) later)

pub answered_more : {H : Type 0} (may : May H) (a b c : H) (front : List Request) (rs : List Reply) (x : Request) (r : Reply) → Answers may a front rs b → may b x r c → Answers may a (front ++ x ∷ []) (rs ++ r ∷ []) c
answered_more may a b c front rs x r h k = Answers-then may a b c front (x ∷ []) rs (r ∷ []) h (c, k, refl)

-- a session that goes on has not ended
abbrev no_ended : Option Ended
no_ended = None

pub no_end : (e : Ended) → no_ended ≡ Some e → ⊥
no_end e h = cc

-- what a feeder answers tells what it holds
abbrev answers_ok : Result (Unit {0}) Refusal
answers_ok = Ok tt

abbrev answers_fault : FormFault → Result (Unit {0}) Refusal
answers_fault f = Err (refusals.Form f)

no_fault : (f : FormFault) → answers_ok ≡ answers_fault f → ⊥
no_fault f e = cc

refused_as : (why other : Refusal) (r : Result (Unit {0}) Refusal) → r ≡ Err why → r ≡ Err other → why ≡ other
refused_as why other r e f = cc

no_answer : (new : Result (List ℕ) FormFault) (why : Refusal) (r : Result (Unit {0}) Refusal) → r ≡ Err why → ((f : FormFault) → why ≡ refusals.Form f → ⊥) → r ≡ answer new → ⊥
no_answer (Ok left) why r is other e = not_ok why r is e
  where
    not_ok : (why : Refusal) (r : Result (Unit {0}) Refusal) → r ≡ Err why → r ≡ answers_ok → ⊥
    not_ok why r e f = cc
no_answer (Err f) why r is other e = other f (refused_as why (refusals.Form f) r is e)

pub took : (latest : ℕ) (before qs : List Request) (text : List ℕ) (new : Result (List ℕ) FormFault)
    → (answers_ok ≡ Err refusals.Memory) ⊎ ((answers_ok ≡ answer new) × AddsRequests latest before qs text new) → AddsRequests latest before qs text new × (None ≡ fault_met new)
took latest before qs text (Ok left) h =
    elim h [
      | inl m ↦ absurd cc
      | inr r ↦ (r.1, refl)
    ]
took latest before qs text (Err f) h =
    elim h [
      | inl m ↦ absurd cc
      | inr r ↦ absurd (no_fault f r.0)
    ]

abbrev some_fault : FormFault → Option FormFault
some_fault f = Some f

fault_is : (f g : FormFault) → answers_fault f ≡ answers_fault g → f ≡ g
fault_is f g e = cc

took_fault_of : (latest : ℕ) (before qs : List Request) (text : List ℕ) (new : Result (List ℕ) FormFault) (f : FormFault)
    → (answers_fault f ≡ Err refusals.Memory) ⊎ ((answers_fault f ≡ answer new) × AddsRequests latest before qs text new) → AddsRequests latest before qs text new × (Some f ≡ fault_met new)
took_fault_of latest before qs text (Ok left) f h =
    elim h [
      | inl m ↦ absurd cc
      | inr r ↦ absurd (no_fault f (sym r.0))
    ]
took_fault_of latest before qs text (Err met) f h =
    elim h [
      | inl m ↦ absurd cc
      | inr r ↦ (r.1, ap some_fault (fault_is f met r.0))
    ]

abbrev answers_refusal : Refusal → Result (Unit {0}) Refusal
answers_refusal why = Err why

pub took_fault : (latest : ℕ) (before qs : List Request) (text : List ℕ) (new : Result (List ℕ) FormFault) (why : Refusal) (f : FormFault)
    → why ≡ refusals.Form f → (answers_refusal why ≡ Err refusals.Memory) ⊎ ((answers_refusal why ≡ answer new) × AddsRequests latest before qs text new) → AddsRequests latest before qs text new × (Some f ≡ fault_met new)
took_fault latest before qs text new why f is h =
    took_fault_of latest before qs text new f (subst (λ (w : Refusal). (answers_refusal w ≡ Err refusals.Memory) ⊎ ((answers_refusal w ≡ answer new) × AddsRequests latest before qs text new)) is h)

-- what a feeder that was not told of a fault keeps, where it refuses
pub feeder_kept : (adds : List Request → List Request → List ℕ → Result (List ℕ) FormFault → Type 0) (old new : Result (List ℕ) FormFault) (before after : List Request) (piece : List ℕ) (why : Refusal) (r : Result (Unit {0}) Refusal) → r ≡ Err why
    → ((f : FormFault) → why ≡ refusals.Form f → ⊥) → Feeds adds old new before after piece r → KeepsFault old new before after r → KeepsOnMemory old new before after r → (new ≡ old) × (after ≡ before)
feeder_kept adds (Err f) new before after piece why r is other feeds keeps kept = absurd (other f (refused_as why (refusals.Form f) r is (keeps f refl).0))
feeder_kept adds (Ok left) new before after piece why r is other feeds keeps kept =
    elim (feeds left refl) [
      | inl memory ↦ kept memory
      | inr read ↦ absurd (no_answer new why r is other read.0)
    ]

pub met : (new : Result (List ℕ) FormFault) (f : FormFault) → Some f ≡ fault_met new → new ≡ Err f
met (Ok left) f e = absurd cc
met (Err g) f e = cc

-- ---- a reading

pub none_read : (o p q : Option (List ℕ)) (bytes buf : List ℕ) (n : ℕ) → Consumes o p bytes → Consumes p q (take n buf) → n ≡ 0 → Consumes o q bytes
none_read o p q bytes buf n h k zero_is = subst (Consumes o q) (ap (λ (i : ℕ). bytes ++ take i buf) zero_is ∙ append-nil bytes) (Consumes-trans o p q bytes (take n buf) h k)

-- ---- the whole

abbrev told_as : Option FormFault → List ℕ
told_as None = []
told_as (Some f) = refused_text f

closing_bytes_is : (r : Result (List ℕ) FormFault) (f : FormFault) → fault_of r ≡ Some f → closing_bytes r ≡ refused_text f
closing_bytes_is (Ok []) f e = absurd cc
closing_bytes_is (Ok (b ∷ left)) f e = ap told_as e
closing_bytes_is (Err g) f e = ap told_as e

pub transcripts : {H : Type 0} (latest : ℕ) (may : May H) (a b : H) (o p : Option (List ℕ)) (bytes : List ℕ) (e : Ended) → IsDone e → SessionStep may a b o p bytes (Ends latest e) → (text : List ℕ) × Appends o p text × Transcript latest may a b bytes text
transcripts latest may a b o p bytes Clean done s = (s.written, s.appended, record { requests = s.requests; left = Ok []; reads = s.how.0; replies = s.replies; answers = s.answers; told = s.how.1 ∙ sym (append-nil (replies_bytes s.replies)) })
transcripts latest may a b o p bytes (Fault f) done s =
    (s.written, s.appended, record { requests = s.requests; left = s.how.0; reads = s.how.1; replies = s.replies; answers = s.answers; told = s.how.3 ∙ ap (λ (t : List ℕ). replies_bytes s.replies ++ t) (sym (closing_bytes_is s.how.0 f s.how.2)) })
transcripts latest may a b o p bytes Memory done s = absurd done
transcripts latest may a b o p bytes ReadFault done s = absurd done
transcripts latest may a b o p bytes WriteFault done s = absurd done

-- the requests that the bytes begin with are whole
prefix_transcript : {H : Type 0} (latest : ℕ) (may : May H) (a b : H) (bytes part : List ℕ) (qs : List Request) (rs : List Reply) → BeginsWith latest bytes qs → Answers may a qs rs b → IsAllOrCut part rs → PartialTranscript latest may a b bytes part
prefix_transcript latest may a b bytes part qs rs h answers cut =
    let front = texts h.0 in
    let reads : ReadsRequests latest front qs (Ok []) = (h.0, h.1, (sym (append-nil front), h.4, inl (omega arith))) in
    record {
      front = front;
      back = h.2;
      parted = h.3;
      whole = inl (qs, reads);
      text = replies_bytes rs;
      told = record { requests = qs; left = Ok []; reads = reads; replies = rs; answers = answers; told = sym (append-nil (replies_bytes rs)) };
      cut = subst (IsAllOrCut part) (sym (append-nil rs)) cut;
    }

pub partial_transcript : {H : Type 0} (latest : ℕ) (may : May H) (a b : H) (o p : Option (List ℕ)) (bytes : List ℕ) (e : Ended) → IsStopped e → SessionStep may a b o p bytes (Ends latest e) → (part : List ℕ) × Appends o p part × PartialTranscript latest may a b bytes part
partial_transcript latest may a b o p bytes Clean done s = absurd done
partial_transcript latest may a b o p bytes (Fault f) done s = absurd done
partial_transcript latest may a b o p bytes ReadFault done s = absurd done
partial_transcript latest may a b o p bytes Memory done s = (s.written, s.appended, prefix_transcript latest may a b bytes s.written s.requests s.replies s.how.0 s.answers s.how.1)
partial_transcript latest may a b o p bytes WriteFault done s =
    elim s.how [
      | inl h ↦ (s.written, s.appended, prefix_transcript latest may a b bytes s.written s.requests s.replies h.0 s.answers (inr h.1))
      | inr h ↦ (
        s.written,
        s.appended,
        record {
          front = bytes;
          back = [];
          parted = sym (append-nil bytes);
          whole = inr refl;
          text = replies_bytes s.replies ++ refused_text h.1;
          told = record { requests = s.requests; left = h.0; reads = h.2; replies = s.replies; answers = s.answers; told = ap (λ (t : List ℕ). replies_bytes s.replies ++ t) (sym (closing_bytes_is h.0 h.1 h.3)) };
          cut = inr (subst (IsCut s.written) (ap (λ (o : Option FormFault). s.replies ++ closing o) (sym h.3)) h.4);
        },
      )
    ]
