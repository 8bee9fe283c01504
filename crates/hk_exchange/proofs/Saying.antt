-- What a session says after a step.
use Rattle.std.proofs.Common.{◌≡◌, ◌≢◌, ◌⊎◌, inl, inr, ℕ, Bool, List, [], ◌∷◌, ◌++◌, None, Some, Ok, Err, Result, take, drop, sym, ap, subst, ◌∙◌, refl, append_assoc, append-nil, true≢false}
use Rattle.std.specs.Prelude.{Option, option_to_list, true, false}
use Rattle.std.proofs.lemmas.List.{take-append-drop}
use Rattle.std.proofs.Math.Seq.{take-nil}
use Rattle.hk_types.specs.declared.faults.FormFault.{FormFault}
use Rattle.hk_types.specs.declared.faults.FormFault.TheVariants.{Truncated}
use Rattle.hk_messages.specs.declared.request.Request.{Request}
use Rattle.hk_messages.specs.declared.reply.Reply.{Reply}
use Rattle.hk_messages.specs.Requests.{ReadsRequests}
use Rattle.hk_session_parts.specs.Said.{refused_text}
use Rattle.hk_session_parts.specs.Transcript.{May, Answers, IsPrefixOf, closing_bytes, fault_of, replies_bytes}
use Rattle.hk_session_parts.specs.Sessions.{SessionValue, Closes, ReadIn, Takes, Turn, Turns, begun_bytes, kept_bytes}
use Rattle.hk_session_parts.specs.declared.step.Step.{Step}
use Rattle.hk_session_parts.specs.declared.step.Step.TheVariants as steps
use Rattle.hk_session_parts.specs.declared.ended.Ended.{Ended}
use Rattle.hk_session_parts.specs.declared.ended.Ended.TheVariants.{Clean, Fault, Memory, ReadFault, WriteFault}
use Rattle.hk_session_parts.proofs.KeptReplies.{told_behind}
use Rattle.hk_session_parts.proofs.Transcripts.{replies_bytes-both}
use Rattle.hk_exchange.specs.Exchanges.{Says, Said, SaidAll, SaysSo, TookSo, TakesOn}

abbrev is_clean : Ended → Bool
is_clean Clean = true
is_clean (Fault f) = false
is_clean Memory = false
is_clean ReadFault = false
is_clean WriteFault = false

pub unclean : (ended : Ended) → is_clean ended ≡ false → ended ≢ Clean
unclean ended never is = true≢false (sym (ap is_clean is) ∙ never)

-- a session that read a piece says what it said
pub read_more : (asked : List Request) (told : List Reply) (bytes text piece : List ℕ) (s r : SessionValue) → Says asked told bytes text s → ReadIn 2 s r piece → Says asked told (bytes ++ piece) text r
read_more asked told bytes text piece s r h k =
    let requests : (asked ++ s.requests) ++ k.new ≡ asked ++ r.requests = append_assoc asked s.requests k.new ∙ ap (λ (l : List Request). asked ++ l) (sym k.behind) in
    let kept : option_to_list s.kept ≡ option_to_list r.kept = ap option_to_list (sym k.same) in
    let begun : begun_bytes s ≡ begun_bytes r =
    ap (λ (o : Option Reply). take s.begun (replies_bytes (option_to_list o))) (sym k.same) ∙ ap (λ (n : ℕ). take n (kept_bytes r)) (sym k.begun) in
    record {
      reads = subst (λ (l : List Request). ReadsRequests 2 (bytes ++ piece) l r.left) requests (k.reads bytes (asked ++ s.requests) h.reads);
      said = h.said;
      order = h.order ∙ ap (λ (l : List Reply). h.said ++ l) kept;
      appends = h.appends ∙ ap (λ (l : List ℕ). replies_bytes h.said ++ l) begun;
    }

-- and after a turn
pub turned : {H : Type 0} (may : May H) (old new : H) (asked : List Request) (told : List Reply) (bytes text ready out : List ℕ) (w : Bool) (s r : SessionValue)
    → Says asked told bytes (text ++ ready) s → (t : Turn may old new s r w ready out) → Says (asked ++ t.answered) (told ++ t.replies) bytes (text ++ out) r
turned may old new asked told bytes text ready out w s r h t =
    let requests : asked ++ s.requests ≡ (asked ++ t.answered) ++ r.requests = ap (λ (l : List Request). asked ++ l) t.order ∙ sym (append_assoc asked t.answered r.requests) in
    let reads = subst (λ (l : List Request). ReadsRequests 2 bytes l s.left) requests h.reads in
    let kept = option_to_list s.kept in
    let order : told ++ t.replies ≡ (h.said ++ t.said) ++ option_to_list r.kept =
    ap (λ (l : List Reply). l ++ t.replies) h.order ∙ append_assoc h.said kept t.replies ∙ ap (λ (l : List Reply). h.said ++ l) t.kept ∙ sym (append_assoc h.said t.said (option_to_list r.kept)) in
    let out_is : text ++ out ≡ (text ++ ready) ++ t.more = ap (λ (l : List ℕ). text ++ l) t.added ∙ sym (append_assoc text ready t.more) in
    record {
      reads = subst (λ (l : Result (List ℕ) FormFault). ReadsRequests 2 bytes ((asked ++ t.answered) ++ r.requests) l) (sym t.same) reads;
      said = h.said ++ t.said;
      order = order;
      appends = out_is ∙ told_behind (text ++ ready) (begun_bytes s) t.more (begun_bytes r) h.said t.said h.appends t.told;
    }

-- what it says is a front of all replies
pub says_front : (asked : List Request) (told : List Reply) (bytes text : List ℕ) (s : SessionValue) → Says asked told bytes text s → Said asked told bytes text
says_front asked told bytes text s h =
    let kept = kept_bytes s in
    let end = closing_bytes s.left in
    let said = replies_bytes h.said in
    let part = drop s.begun kept in
    let all : text ++ (part ++ end) ≡ replies_bytes told ++ end =
    ap (λ (l : List ℕ). l ++ (part ++ end)) h.appends ∙ append_assoc said (begun_bytes s) (part ++ end)
    ∙ ap (λ (l : List ℕ). said ++ l) (sym (append_assoc (begun_bytes s) part end)) ∙ ap (λ (l : List ℕ). said ++ (l ++ end)) (take-append-drop s.begun kept)
    ∙ sym (append_assoc said kept end) ∙ ap (λ (l : List ℕ). l ++ end) (sym (replies_bytes-both h.said (option_to_list s.kept)))
    ∙ ap (λ (l : List Reply). replies_bytes l ++ end) (sym h.order) in
    record { waiting = s.requests; left = s.left; reads = h.reads; front = (part ++ end, all) }

-- where no reply is kept it is all of them
all_said : (asked : List Request) (told : List Reply) (bytes text ready : List ℕ) (s : SessionValue) → Says asked told bytes (text ++ ready) s → s.kept ≡ None → text ++ ready ≡ replies_bytes told
all_said asked told bytes text ready s h kept =
    let nothing : option_to_list s.kept ≡ [] = ap option_to_list kept in
    let told_is : told ≡ h.said = h.order ∙ ap (λ (l : List Reply). h.said ++ l) nothing ∙ append-nil h.said in
    let part : begun_bytes s ≡ [] = ap (λ (l : List Reply). take s.begun (replies_bytes l)) nothing ∙ take-nil s.begun in
    h.appends ∙ ap (λ (l : List ℕ). replies_bytes h.said ++ l) part ∙ append-nil (replies_bytes h.said) ∙ ap replies_bytes (sym told_is)

-- at a fault that follows the requests, and is said
at_fault : (asked : List Request) (told : List Reply) (bytes text front : List ℕ) (s : SessionValue) (f : FormFault) → Says asked told bytes (text ++ front) s → s.requests ≡ [] → s.kept ≡ None → s.left ≡ Err f
    → Said asked told bytes (text ++ (front ++ refused_text f))
at_fault asked told bytes text front s f h none kept left =
    let requests : asked ++ s.requests ≡ asked ++ [] = ap (λ (l : List Request). asked ++ l) none in
    let reads = subst (λ (l : List Request). ReadsRequests 2 bytes l s.left) requests h.reads in
    let said = all_said asked told bytes text front s h kept in
    let all : (text ++ (front ++ refused_text f)) ++ [] ≡ replies_bytes told ++ closing_bytes (Err f) =
    append-nil (text ++ (front ++ refused_text f)) ∙ sym (append_assoc text front (refused_text f)) ∙ ap (λ (l : List ℕ). l ++ refused_text f) said in
    record { waiting = []; left = Err f; reads = subst (λ (l : Result (List ℕ) FormFault). ReadsRequests 2 bytes (asked ++ []) l) left reads; front = ([], all) }

-- the fault was said behind the replies, or there was no memory for that
fault_front : (told : List Reply) (text ready out : List ℕ) (f : FormFault) (ended : Ended) → text ++ ready ≡ replies_bytes told → Closes (Some f) ready out ended
    → IsPrefixOf (text ++ out) (replies_bytes told ++ refused_text f)
fault_front told text ready out f ended said (inl (is, added)) =
    ([], append-nil (text ++ out) ∙ ap (λ (l : List ℕ). text ++ l) added ∙ sym (append_assoc text ready (refused_text f)) ∙ ap (λ (l : List ℕ). l ++ refused_text f) said)
fault_front told text ready out f ended said (inr (is, none)) =
    (refused_text f, ap (λ (l : List ℕ). (text ++ l) ++ refused_text f) none ∙ ap (λ (l : List ℕ). l ++ refused_text f) said)

fault_unclean : (f : FormFault) (ready out : List ℕ) (ended : Ended) → Closes (Some f) ready out ended → ended ≢ Clean
fault_unclean f ready out ended (inl (is, added)) clean = unclean (Fault f) refl (sym is ∙ clean)
fault_unclean f ready out ended (inr (is, none)) clean = unclean Memory refl (sym is ∙ clean)

-- what was said, where a session of which this is left was finished
closed_front : (told : List Reply) (text ready out : List ℕ) (left : Result (List ℕ) FormFault) (ended : Ended) → text ++ ready ≡ replies_bytes told → Closes (fault_of left) ready out ended
    → IsPrefixOf (text ++ out) (replies_bytes told ++ closing_bytes left)
closed_front told text ready out (Ok []) ended said closes =
    ([], append-nil (text ++ out) ∙ ap (λ (l : List ℕ). text ++ l) closes.1 ∙ said ∙ sym (append-nil (replies_bytes told)))
closed_front told text ready out (Ok (b ∷ left)) ended said closes = fault_front told text ready out Truncated ended said closes
closed_front told text ready out (Err f) ended said closes = fault_front told text ready out f ended said closes

-- all requests are answered, and the session is finished
pub closed : (asked : List Request) (told : List Reply) (bytes text ready out : List ℕ) (s : SessionValue) (ended : Ended) → Says asked told bytes (text ++ ready) s → s.requests ≡ [] → s.kept ≡ None
    → Closes (fault_of s.left) ready out ended → Said asked told bytes (text ++ out)
closed asked told bytes text ready out s ended h none kept closes =
    let requests : asked ++ s.requests ≡ asked ++ [] = ap (λ (l : List Request). asked ++ l) none in
    let reads = subst (λ (l : List Request). ReadsRequests 2 bytes l s.left) requests h.reads in
    let said = all_said asked told bytes text ready s h kept in
    record { waiting = []; left = s.left; reads = reads; front = closed_front told text ready out s.left ended said closes }

-- and where it ended cleanly that is all
closed_clean : (asked : List Request) (told : List Reply) (bytes text ready out : List ℕ) (left : Result (List ℕ) FormFault) (ended : Ended) → ReadsRequests 2 bytes asked left → text ++ ready ≡ replies_bytes told
    → Closes (fault_of left) ready out ended → ended ≡ Clean → SaidAll asked told bytes (text ++ out)
closed_clean asked told bytes text ready out (Ok []) ended reads said closes clean = (reads, ap (λ (l : List ℕ). text ++ l) closes.1 ∙ said)
closed_clean asked told bytes text ready out (Ok (b ∷ left)) ended reads said closes clean = absurd (fault_unclean Truncated ready out ended closes clean)
closed_clean asked told bytes text ready out (Err f) ended reads said closes clean = absurd (fault_unclean f ready out ended closes clean)

pub closed_all : (asked : List Request) (told : List Reply) (bytes text ready out : List ℕ) (s : SessionValue) (ended : Ended) → Says asked told bytes (text ++ ready) s → s.requests ≡ [] → s.kept ≡ None
    → Closes (fault_of s.left) ready out ended → ended ≡ Clean → SaidAll asked told bytes (text ++ out)
closed_all asked told bytes text ready out s ended h none kept closes clean =
    let requests : asked ++ s.requests ≡ asked = ap (λ (l : List Request). asked ++ l) none ∙ append-nil asked in
    let reads = subst (λ (l : List Request). ReadsRequests 2 bytes l s.left) requests h.reads in
    closed_clean asked told bytes text ready out s.left ended reads (all_said asked told bytes text ready s h kept) closes clean

turns_so : {H : Type 0} (may : May H) (old new : H) (asked : List Request) (told : List Reply) (bytes text piece ready out : List ℕ) (w : Bool) (step : Step) (s r : SessionValue)
    → Says asked told (bytes ++ piece) (text ++ ready) s → Turns may old new s r w ready out step → TookSo may old new asked told bytes text piece out step r
turns_so may old new asked told bytes text piece ready out w steps.GoesOn s r h k =
    (k.0.answered, k.0.replies, bytes ++ piece, k.0.answers, turned may old new asked told (bytes ++ piece) text ready out w s r h k.0, refl)
turns_so may old new asked told bytes text piece ready out w steps.Full s r h k =
    (k.0.answered, k.0.replies, bytes ++ piece, k.0.answers, turned may old new asked told (bytes ++ piece) text ready out w s r h k.0, refl)
turns_so may old new asked told bytes text piece ready out w (steps.Waits t milliseconds) s r h k =
    (k.0.answered, k.0.replies, bytes ++ piece, k.0.answers, turned may old new asked told (bytes ++ piece) text ready out w s r h k.0, refl)
turns_so may old new asked told bytes text piece ready out w (steps.Ended (Fault f)) s r h k =
    let t = k.1 in
    let says = turned may old new asked told (bytes ++ piece) text ready k.0 w s r h t in
    let said = at_fault (asked ++ t.answered) (told ++ t.replies) (bytes ++ piece) text k.0 r f says k.2.0 k.2.1 k.2.2 in
    (t.answered, t.replies, bytes ++ piece, t.answers, (subst (λ (l : List ℕ). Said (asked ++ t.answered) (told ++ t.replies) (bytes ++ piece) (text ++ l)) (sym k.3) said, unclean (Fault f) refl), inl refl)
turns_so may old new asked told bytes text piece ready out w (steps.Ended Memory) s r h k =
    let says = turned may old new asked told (bytes ++ piece) text ready out w s r h k.0 in
    (k.0.answered, k.0.replies, bytes ++ piece, k.0.answers, (says_front (asked ++ k.0.answered) (told ++ k.0.replies) (bytes ++ piece) (text ++ out) r says, unclean Memory refl), inl refl)
turns_so may old new asked told bytes text piece ready out w (steps.Ended Clean) s r h k = absurd k
turns_so may old new asked told bytes text piece ready out w (steps.Ended ReadFault) s r h k = absurd k
turns_so may old new asked told bytes text piece ready out w (steps.Ended WriteFault) s r h k = absurd k

pub took : {H : Type 0} (may : May H) (old new : H) (asked : List Request) (told : List Reply) (bytes text piece ready out : List ℕ) (w : Bool) (step : Step) (s r : SessionValue)
    → Says asked told bytes (text ++ ready) s → Takes 2 may old new s r piece w ready out step → TookSo may old new asked told bytes text piece out step r
took may old new asked told bytes text piece ready out w step s r h (inl (read, k, t)) =
    turns_so may old new asked told bytes text piece ready out w step read r (read_more asked told bytes (text ++ ready) piece s read h k) t
took {H} may old new asked told bytes text piece ready out w step s r h (inr (is, same, kept, none)) =
    let front : Said asked told bytes (text ++ out) = subst (λ (l : List ℕ). Said asked told bytes (text ++ l)) (sym none) (says_front asked told bytes (text ++ ready) s h) in
    let more : Said (asked ++ []) (told ++ []) bytes (text ++ out) =
    subst (λ (l : List Request). Said l (told ++ []) bytes (text ++ out)) (sym (append-nil asked)) (subst (λ (l : List Reply). Said asked l bytes (text ++ out)) (sym (append-nil told)) front) in
    subst (λ (b : Step). TookSo may old new asked told bytes text piece out b r) (sym is) ([], [], bytes, same, (more, unclean Memory refl), inr refl)

-- the same whatever was said before
pub takes_on : {H : Type 0} (may : May H) (old new : H) (piece ready out : List ℕ) (w : Bool) (step : Step) (s r : SessionValue) → Takes 2 may old new s r piece w ready out step → TakesOn may old new s r piece ready out step
takes_on may old new piece ready out w step s r h asked told bytes text says = took may old new asked told bytes text piece ready out w step s r says h

nothing_more : (asked : List Request) (told : List Reply) (bytes text : List ℕ) (s : SessionValue) → Says asked told bytes text s → Says (asked ++ []) (told ++ []) bytes text s
nothing_more asked told bytes text s h =
    subst (λ (l : List Request). Says l (told ++ []) bytes text s) (sym (append-nil asked)) (subst (λ (l : List Reply). Says asked l bytes text s) (sym (append-nil told)) h)

-- a piece was read alone
pub read_on : {H : Type 0} (may : May H) (old : H) (piece ready : List ℕ) (s r : SessionValue) → ReadIn 2 s r piece → TakesOn may old old s r piece ready ready steps.GoesOn
read_on may old piece ready s r k asked told bytes text says =
    ([], [], bytes ++ piece, refl, nothing_more asked told (bytes ++ piece) (text ++ ready) r (read_more asked told bytes (text ++ ready) piece s r says k), refl)

-- there was no memory for it
pub read_off : {H : Type 0} (may : May H) (old : H) (piece ready : List ℕ) (s r : SessionValue) → r ≡ s → TakesOn may old old s r piece ready ready (steps.Ended Memory)
read_off may old piece ready s r same asked told bytes text says =
    ([], [], bytes, refl, (says_front (asked ++ []) (told ++ []) bytes (text ++ ready) s (nothing_more asked told bytes (text ++ ready) s says), unclean Memory refl), inr refl)

-- and once the next request was answered so
pub says_next : (asked : List Request) (told : List Reply) (bytes text : List ℕ) (s : SessionValue) (request : Request) (rest : List Request) (reply : Reply)
    → Says asked told bytes text s → s.requests ≡ request ∷ rest → s.kept ≡ None
    → Says (asked ++ request ∷ []) (told ++ reply ∷ []) bytes text (record s { requests = rest; kept = Some reply; begun = 0 })
says_next asked told bytes text s request rest reply h is free = record {
  reads = subst (λ (l : List Request). ReadsRequests 2 bytes l s.left) (ap (λ (l : List Request). asked ++ l) is ∙ sym (append_assoc asked (request ∷ []) rest)) h.reads;
  said = h.said;
  order = ap (λ (l : List Reply). l ++ reply ∷ []) (h.order ∙ ap (λ (o : Option Reply). h.said ++ option_to_list o) free ∙ append-nil h.said);
  appends = h.appends ∙ ap (λ (o : Option Reply). replies_bytes h.said ++ take s.begun (replies_bytes (option_to_list o))) free ∙ ap (λ (l : List ℕ). replies_bytes h.said ++ l) (take-nil s.begun);
}
