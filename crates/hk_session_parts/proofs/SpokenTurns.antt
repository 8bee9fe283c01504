-- What a session wrote that writes what is appended.
use Rattle.std.proofs.Common.{◌≡◌, ◌⊎◌, ℕ, ◌<◌, ◌≤◌, true, List, [], ◌∷◌, ◌++◌, length, take, drop, Option, Some, None, option_to_list, Result, Ok, Err, refl, sym, ap, subst, ◌∙◌, append_assoc, append-nil, arith, inl, inr}
use Rattle.std.specs.Io.KnownBytes.{Appends}
use Rattle.std.proofs.KnownBytes.{Appends-nil, Appends-trans}
use Rattle.std.proofs.Math.Seq.{take-nil}
use Rattle.std.proofs.lemmas.List.{length-append, take-append-drop}
use Rattle.hk_types.specs.declared.faults.FormFault.{FormFault}
use Rattle.hk_types.specs.declared.faults.FormFault.TheVariants.{Truncated}
use Rattle.hk_messages.specs.declared.reply.Reply.{Reply}
use Rattle.hk_messages.specs.Requests.{ReadsRequests}
use Rattle.hk_session_parts.specs.Said.{fault_reply, refused_text}
use Rattle.hk_session_parts.specs.Transcript.{May, replies_bytes, fault_of, IsProperPrefixOf, IsCut, Ends, SessionStep, Writes, Refuses, Concludes, IsMidway}
use Rattle.hk_session_parts.specs.Sessions.{SessionValue, begun_bytes, AreFew, Stands, IsResting, IsAtFault, Turn, Turns, EndedSo, Closes}
use Rattle.hk_session_parts.specs.Serving.{SpokeSo}
use Rattle.hk_session_parts.specs.declared.ended.Ended.{Ended}
use Rattle.hk_session_parts.specs.declared.ended.Ended.TheVariants.{Clean, Fault, Memory, ReadFault, WriteFault}
use Rattle.hk_session_parts.specs.declared.step.Step.{Step}
use Rattle.hk_session_parts.specs.declared.step.Step.TheVariants as steps
use Rattle.hk_session_parts.proofs.SaidReplies.{faults_told}
use Rattle.hk_session_parts.proofs.Transcripts.{replies_bytes-both, one_said, fault_said}
use Rattle.hk_session_parts.proofs.KeptReplies.{nothing_begun, nothing_kept}
use Rattle.hk_session_parts.proofs.SessionTurns.{left_to_do, less_said, less_answered}
use Rattle.hk_session_parts.proofs.SessionStands.{stands_turned, stands_begins, ended_memory, ended_fault, fault_not_cut, all_told, all_read}

-- ---- cut off

-- a front of a text is a front of a longer one
longer_front : (part text more : List ℕ) → IsProperPrefixOf part text → IsProperPrefixOf part (text ++ more)
longer_front part text more h =
    let parts : part ++ (h.0.0 ++ more) ≡ text ++ more = sym (append_assoc part h.0.0 more) ∙ ap (λ (t : List ℕ). t ++ more) h.0.1 in
    ((h.0.0 ++ more, parts), omega (arith, h.1, length-append text more))

none_before : (part : List ℕ) → IsProperPrefixOf part [] → ⊥
none_before part h = absurd (omega (arith, h.1))

no_first : {X : Type 0} (xs ys : List X) → xs ++ ys ≡ [] → xs ≡ []
no_first [] ys e = refl
no_first (x ∷ xs) ys e = absurd cc

-- a front of what was appended behind a part of a reply, is a front of the replies behind what was there before
proper_behind : (begun part out : List ℕ) → IsProperPrefixOf part out → IsProperPrefixOf (begun ++ part) (begun ++ out)
proper_behind begun part out h =
    ((h.0.0, append_assoc begun part h.0.0 ∙ ap (λ (t : List ℕ). begun ++ t) h.0.1), omega (arith, h.1, length-append begun part, length-append begun out))

-- the replies are cut off in those that were appended
cut_replies : (text part out begun more : List ℕ) (before all said first replies kept : List Reply) (n : ℕ) → all ≡ before ++ first → text ≡ replies_bytes before ++ begun → first ++ replies ≡ said ++ kept
    → out ≡ [] ++ more → begun ++ more ≡ replies_bytes said ++ take n (replies_bytes kept) → AreFew [] (first ++ replies) → IsProperPrefixOf part out → IsCut (text ++ part) (all ++ replies)
cut_replies text part out begun more before all said first replies kept n order told both is behind (inl none) front =
    let no_said : said ≡ [] = no_first said kept (sym both ∙ none) in
    let no_kept : kept ≡ [] = ap (λ (l : List Reply). l ++ kept) (sym no_said) ∙ sym both ∙ none in
    let nothing : begun ++ more ≡ [] = behind ∙ ap (λ (l : List Reply). replies_bytes l ++ take n (replies_bytes kept)) no_said ∙ ap (λ (l : List Reply). take n (replies_bytes l)) no_kept ∙ take-nil n in
    absurd (omega (arith, front.1, ap length is, ap length nothing, length-append begun more))
cut_replies text part out begun more before all said first replies kept n order told both is behind (inr few) front =
    let proper = proper_behind begun part more (subst (IsProperPrefixOf part) is front) in
    let longer = longer_front (begun ++ part) (begun ++ more) (drop n (replies_bytes kept)) proper in
    let same : (begun ++ more) ++ drop n (replies_bytes kept) ≡ replies_bytes (few.0 ++ few.1 ∷ []) =
    ap (λ (l : List ℕ). l ++ drop n (replies_bytes kept)) behind ∙ append_assoc (replies_bytes said) (take n (replies_bytes kept)) (drop n (replies_bytes kept))
    ∙ ap (λ (l : List ℕ). replies_bytes said ++ l) (take-append-drop n (replies_bytes kept)) ∙ sym (replies_bytes-both said kept) ∙ ap replies_bytes (sym both ∙ few.2) in
    record {
      said = before;
      held = few.0;
      last = few.1;
      order = ap (λ (l : List Reply). l ++ replies) order ∙ append_assoc before first replies ∙ ap (λ (l : List Reply). before ++ l) few.2;
      few = few.3 (omega arith);
      part = begun ++ part;
      front = subst (IsProperPrefixOf (begun ++ part)) same longer;
      wrote = ap (λ (t : List ℕ). t ++ part) told ∙ append_assoc (replies_bytes before) begun part;
    }

cut_turn : {H : Type 0} (latest : ℕ) (may : May H) (a b c : H) (bytes text part out : List ℕ) (s t : SessionValue) → Stands latest may a b bytes text s → Turn may b c s t true [] out → IsProperPrefixOf part out → EndedSo latest may a c bytes (text ++ part) WriteFault
unfolding stands_turned
cut_turn latest may a b c bytes text part out s t h turn front =
    let stands = stands_turned latest may a b c bytes text s t true [] out h turn in (
      stands.answered,
      stands.replies,
      stands.answers,
      inl (
        stands_begins latest may a c bytes (text ++ turn.more) t stands,
        cut_replies text part out (begun_bytes s) turn.more h.said h.replies turn.said (option_to_list s.kept) turn.replies (option_to_list t.kept) t.begun h.order h.told turn.kept turn.added turn.told turn.few front,
      ),
    )

-- the fault that follows was said, and is cut off with what was appended before it
cut_fault : {H : Type 0} (latest : ℕ) (may : May H) (a b c : H) (bytes text part front out : List ℕ) (s t : SessionValue) (f : FormFault) → Stands latest may a b bytes text s → Turn may b c s t true [] front → IsAtFault t f
    → out ≡ front ++ refused_text f → length front ≤ 65536 → s.begun ≡ 0 → IsProperPrefixOf part out → EndedSo latest may a c bytes (text ++ part) WriteFault
unfolding stands_turned
cut_fault latest may a b c bytes text part front out s t f h turn at told most fresh proper =
    let stands = stands_turned latest may a b c bytes text s t true [] front h turn in
    let last = fault_reply f in
    let all : stands.replies ≡ h.said ++ turn.said = stands.order ∙ ap (λ (k : Option Reply). (h.said ++ turn.said) ++ option_to_list k) at.1 ∙ append-nil (h.said ++ turn.said) in
    let none : begun_bytes s ≡ [] = nothing_begun s fresh in
    let said : front ≡ replies_bytes turn.said = turn.added ∙ ap (λ (l : List ℕ). l ++ turn.more) (sym none) ∙ turn.told ∙ ap (λ (l : List ℕ). replies_bytes turn.said ++ l) (nothing_kept t at.1) ∙ append-nil (replies_bytes turn.said) in
    let bytes_of : replies_bytes (turn.said ++ last ∷ []) ≡ out =
    replies_bytes-both turn.said (last ∷ []) ∙ ap (λ (l : List ℕ). replies_bytes turn.said ++ l) (one_said last ∙ faults_told f) ∙ ap (λ (l : List ℕ). l ++ refused_text f) (sym said) ∙ sym told in
    let cut : IsCut (text ++ part) (stands.replies ++ last ∷ []) =
    record {
      said = h.said;
      held = turn.said;
      last = last;
      order = ap (λ (l : List Reply). l ++ last ∷ []) all ∙ append_assoc h.said turn.said (last ∷ []);
      few = subst (λ (l : List ℕ). length l ≤ 65536) said most;
      part = part;
      front = subst (IsProperPrefixOf part) (sym bytes_of) proper;
      wrote = ap (λ (l : List ℕ). l ++ part) (h.told ∙ ap (λ (l : List ℕ). replies_bytes h.said ++ l) none ∙ append-nil (replies_bytes h.said));
    } in
    (stands.answered, stands.replies, stands.answers, inr (Err f, f, all_read latest may a c bytes (text ++ turn.more) t (Err f) stands at.0 at.2, refl, cut))

pub spoke_cut : {H : Type 0} (latest : ℕ) (may : May H) (a b c : H) (bytes text part out : List ℕ) (s t : SessionValue) (step : Step) → Stands latest may a b bytes text s → Turns may b c s t true [] out step → IsProperPrefixOf part out → EndedSo latest may a c bytes (text ++ part) WriteFault
spoke_cut latest may a b c bytes text part out s t steps.GoesOn h turns front = cut_turn latest may a b c bytes text part out s t h turns.0 front
spoke_cut latest may a b c bytes text part out s t steps.Full h turns front = cut_turn latest may a b c bytes text part out s t h turns.0 front
spoke_cut latest may a b c bytes text part out s t (steps.Waits time milliseconds) h turns front = cut_turn latest may a b c bytes text part out s t h turns.0 front
spoke_cut latest may a b c bytes text part out s t (steps.Ended (Fault f)) h turns front = cut_fault latest may a b c bytes text part turns.0 out s t f h turns.1 turns.2 turns.3 turns.4 turns.5 front
spoke_cut latest may a b c bytes text part out s t (steps.Ended Memory) h turns front = cut_turn latest may a b c bytes text part out s t h turns.0 front
spoke_cut latest may a b c bytes text part out s t (steps.Ended Clean) h turns front = absurd turns
spoke_cut latest may a b c bytes text part out s t (steps.Ended ReadFault) h turns front = absurd turns
spoke_cut latest may a b c bytes text part out s t (steps.Ended WriteFault) h turns front = absurd turns

-- ---- written whole

-- what was appended, where nothing was there before
pub spoke_turn : {H : Type 0} (latest : ℕ) (may : May H) (a b c : H) (bytes text out : List ℕ) (s t : SessionValue) → Stands latest may a b bytes text s → Turn may b c s t true [] out → Stands latest may a c bytes (text ++ out) t
spoke_turn latest may a b c bytes text out s t h turn =
    subst (λ (l : List ℕ). Stands latest may a c bytes (text ++ l) t) (sym turn.added) (stands_turned latest may a b c bytes text s t true [] out h turn)

pub spoke_ended : {H : Type 0} (latest : ℕ) (may : May H) (a b c : H) (bytes text out : List ℕ) (s t : SessionValue) (e : Ended) → Stands latest may a b bytes text s → Turns may b c s t true [] out (steps.Ended e) → EndedSo latest may a c bytes (text ++ out) e × IsMidway e
spoke_ended latest may a b c bytes text out s t (Fault f) h turns =
    let stands = spoke_turn latest may a b c bytes text turns.0 s t h turns.1 in
    let same : (text ++ turns.0) ++ refused_text f ≡ text ++ out = append_assoc text turns.0 (refused_text f) ∙ ap (λ (l : List ℕ). text ++ l) (sym turns.3) in
    (subst (λ (l : List ℕ). EndedSo latest may a c bytes l (Fault f)) same (ended_fault latest may a c bytes (text ++ turns.0) t f stands turns.2), fault_not_cut latest may a c bytes (text ++ turns.0) t f stands turns.2)
spoke_ended latest may a b c bytes text out s t Memory h turns =
    (subst (λ (l : List ℕ). EndedSo latest may a c l (text ++ out) Memory) (append-nil bytes) (ended_memory latest may a c bytes [] (text ++ out) t (spoke_turn latest may a b c bytes text out s t h turns.0)), tt)
spoke_ended latest may a b c bytes text out s t Clean h turns = absurd turns
spoke_ended latest may a b c bytes text out s t ReadFault h turns = absurd turns
spoke_ended latest may a b c bytes text out s t WriteFault h turns = absurd turns

-- ---- a session that writes

-- what it wrote so far, wherever it stood
abbrev pub SpokenSoFar : {H : Type 0} → ℕ → May H → H → H → Option (List ℕ) → Option (List ℕ) → SessionValue → SessionValue → Type 0
SpokenSoFar {H} latest may old new o p before after =
    (said : List ℕ) × Appends o p said × ((start : H) (bytes text : List ℕ) → Stands latest may start old bytes text before → Stands latest may start new bytes (text ++ said) after)

pub nothing_spoken : {H : Type 0} (latest : ℕ) (may : May H) (a : H) (o : Option (List ℕ)) (s : SessionValue) → SpokenSoFar latest may a a o o s s
nothing_spoken latest may a o s = ([], Appends-nil o, λ start bytes text h. subst (λ (t : List ℕ). Stands latest may start a bytes t s) (sym (append-nil text)) h)

-- the steps after which a session goes on at once
abbrev pub IsBetween : Step → Type 0
IsBetween steps.GoesOn = ⊥
IsBetween steps.Full = Unit {0}
IsBetween (steps.Waits t milliseconds) = Unit {0}
IsBetween (steps.Ended e) = ⊥

pub is_between : (step : Step) → (step ≡ steps.Full) ⊎ ((t : ℕ) × (milliseconds : ℕ) × (step ≡ steps.Waits t milliseconds)) → IsBetween step
is_between step (inl is) = subst IsBetween (sym is) tt
is_between step (inr is) = subst IsBetween (sym is.2) tt

turn_between : {H : Type 0} (may : May H) (a b : H) (s t : SessionValue) (out : List ℕ) (step : Step) → IsBetween step → Turns may a b s t true [] out step → Turn may a b s t true [] out
turn_between may a b s t out steps.GoesOn between h = h.0
turn_between may a b s t out steps.Full between h = h.0
turn_between may a b s t out (steps.Waits time milliseconds) between h = h.0
turn_between may a b s t out (steps.Ended e) between h = absurd between

less_between : {H : Type 0} (may : May H) (a b : H) (s t : SessionValue) (out : List ℕ) (step : Step) → IsBetween step → Turns may a b s t true [] out step → left_to_do t < left_to_do s
less_between may a b s t out steps.GoesOn between h = absurd between
less_between may a b s t out steps.Full between h = less_said may a b s t true [] out h.0 refl h.1
less_between may a b s t out (steps.Waits time milliseconds) between h = less_answered may a b s t true [] out h.0 (h.3 refl)
less_between may a b s t out (steps.Ended e) between h = absurd between

nothing_ready : {H : Type 0} (may : May H) (a b : H) (s t : SessionValue) (ready out : List ℕ) (step : Step) → ready ≡ [] → Turns may a b s t true ready out step → Turns may a b s t true [] out step
nothing_ready may a b s t ready out step none h = subst (λ (l : List ℕ). Turns may a b s t true l out step) none h

pub less_left : {H : Type 0} (may : May H) (a b : H) (s t : SessionValue) (ready out : List ℕ) (step : Step) → ready ≡ [] → IsBetween step → Turns may a b s t true ready out step → left_to_do t < left_to_do s
less_left may a b s t ready out step none between h = less_between may a b s t out step between (nothing_ready may a b s t ready out step none h)

more_spoken : {H : Type 0} (latest : ℕ) (may : May H) (a b c : H) (o p q : Option (List ℕ)) (r s t : SessionValue) (out : List ℕ) → SpokenSoFar latest may a b o p r s → Turn may b c s t true [] out → Appends p q out → SpokenSoFar latest may a c o q r t
more_spoken latest may a b c o p q r s t out h turn wrote = (
  h.0 ++ out,
  Appends-trans o p q h.0 out h.1 wrote,
  λ start bytes text k.
      subst (λ (l : List ℕ). Stands latest may start c bytes l t) (append_assoc text h.0 out) (spoke_turn latest may start b c bytes (text ++ h.0) out s t (h.2 start bytes text k) turn),
)

pub spoken_more : {H : Type 0} (latest : ℕ) (may : May H) (a b c : H) (o p q : Option (List ℕ)) (r s t : SessionValue) (ready out : List ℕ) (step : Step) → ready ≡ [] → IsBetween step → SpokenSoFar latest may a b o p r s → Turns may b c s t true ready out step
    → Appends p q out → SpokenSoFar latest may a c o q r t
spoken_more latest may a b c o p q r s t ready out step none between h turns wrote =
    more_spoken latest may a b c o p q r s t out h (turn_between may b c s t out step between (nothing_ready may b c s t ready out step none turns)) wrote

-- what is written by a session that stood anywhere
abbrev Spoken : {H : Type 0} → ℕ → May H → H → H → Option (List ℕ) → Option (List ℕ) → SessionValue → SessionValue → Option Ended → Type 0
Spoken {H} latest may old new o p before after result =
    (start : H) (bytes text : List ℕ) → Stands latest may start old bytes text before → (said : List ℕ) × Appends o p said × SpokeSo latest may start new bytes (text ++ said) after result

pub spoken_all : {H : Type 0} (latest : ℕ) (may : May H) (a b c : H) (o p q : Option (List ℕ)) (r s t : SessionValue) (ready out : List ℕ) → ready ≡ [] → SpokenSoFar latest may a b o p r s → Turns may b c s t true ready out steps.GoesOn → Appends p q out → Spoken latest may a c o q r t None
spoken_all latest may a b c o p q r s t ready out none h turns wrote start bytes text k =
    let turned = nothing_ready may b c s t ready out steps.GoesOn none turns in
    let now = more_spoken latest may a b c o p q r s t out h turned.0 wrote in
    (now.0, now.1, (now.2 start bytes text k, turned.1))

ended_spoken : {H : Type 0} (latest : ℕ) (may : May H) (a b c : H) (o p q : Option (List ℕ)) (r s t : SessionValue) (out : List ℕ) (e : Ended) → SpokenSoFar latest may a b o p r s → Turns may b c s t true [] out (steps.Ended e) → Appends p q out → Spoken latest may a c o q r t (Some e)
ended_spoken latest may a b c o p q r s t out e h turns wrote start bytes text k = (
  h.0 ++ out,
  Appends-trans o p q h.0 out h.1 wrote,
  subst (λ (l : List ℕ). SpokeSo latest may start c bytes l t (Some e)) (append_assoc text h.0 out) (spoke_ended latest may start b c bytes (text ++ h.0) out s t e (h.2 start bytes text k) turns),
)

pub spoken_ended : {H : Type 0} (latest : ℕ) (may : May H) (a b c : H) (o p q : Option (List ℕ)) (r s t : SessionValue) (ready out : List ℕ) (e : Ended) → ready ≡ [] → SpokenSoFar latest may a b o p r s → Turns may b c s t true ready out (steps.Ended e) → Appends p q out
    → Spoken latest may a c o q r t (Some e)
spoken_ended latest may a b c o p q r s t ready out e none h turns wrote =
    ended_spoken latest may a b c o p q r s t out e h (nothing_ready may b c s t ready out (steps.Ended e) none turns) wrote

cut_spoken : {H : Type 0} (latest : ℕ) (may : May H) (a b c : H) (o p q : Option (List ℕ)) (r s t : SessionValue) (out left : List ℕ) (step : Step) (e : Ended) → SpokenSoFar latest may a b o p r s → Turns may b c s t true [] out step → Writes out p q left (Some e)
    → Spoken latest may a c o q r t (Some e)
cut_spoken latest may a b c o p q r s t out left step WriteFault h turns wrote start bytes text k = (
  h.0 ++ wrote.0,
  Appends-trans o p q h.0 wrote.0 h.1 wrote.2,
  (subst (λ (l : List ℕ). EndedSo latest may start c bytes l WriteFault) (append_assoc text h.0 wrote.0) (spoke_cut latest may start b c bytes (text ++ h.0) wrote.0 out s t step (h.2 start bytes text k) turns wrote.1), tt),
)
cut_spoken latest may a b c o p q r s t out left step Memory h turns wrote start bytes text k = absurd wrote
cut_spoken latest may a b c o p q r s t out left step Clean h turns wrote start bytes text k = absurd wrote
cut_spoken latest may a b c o p q r s t out left step (Fault f) h turns wrote start bytes text k = absurd wrote
cut_spoken latest may a b c o p q r s t out left step ReadFault h turns wrote start bytes text k = absurd wrote

pub spoken_cut : {H : Type 0} (latest : ℕ) (may : May H) (a b c : H) (o p q : Option (List ℕ)) (r s t : SessionValue) (ready out left : List ℕ) (step : Step) (e : Ended) → ready ≡ [] → SpokenSoFar latest may a b o p r s → Turns may b c s t true ready out step → Writes out p q left (Some e)
    → Spoken latest may a c o q r t (Some e)
spoken_cut latest may a b c o p q r s t ready out left step e none h turns wrote =
    cut_spoken latest may a b c o p q r s t out left step e h (nothing_ready may b c s t ready out step none turns) wrote

-- ---- the end

-- how a session ends whose stream does, by what is written
closes_written : (f : FormFault) (ready out : List ℕ) (o p : Option (List ℕ)) (e : Ended) → ready ≡ [] → Closes (Some f) ready out e → Appends o p out → Refuses f o p e
closes_written f ready out o p e none (inl (is, told)) wrote =
    let same : out ≡ refused_text f = told ∙ ap (λ (l : List ℕ). l ++ refused_text f) none in
    subst (Refuses f o p) (sym is) (refl, subst (Appends o p) same wrote)
closes_written f ready out o p e none (inr (is, kept)) wrote = subst (Refuses f o p) (sym is) (subst (Appends o p) (kept ∙ none) wrote)

pub concluded : (f : Option FormFault) (ready out : List ℕ) (o p : Option (List ℕ)) (e : Ended) → ready ≡ [] → Closes f ready out e → Appends o p out → Concludes f o p e
concluded None ready out o p e none h wrote = (h.0, subst (Appends o p) (h.1 ∙ none) wrote)
concluded (Some f) ready out o p e none h wrote = closes_written f ready out o p e none h wrote

closes_cut : (f : FormFault) (ready out left : List ℕ) (o p : Option (List ℕ)) (e now : Ended) → ready ≡ [] → Closes (Some f) ready out e → Writes out o p left (Some now) → Refuses f o p now
closes_cut f ready out left o p e WriteFault none (inl (is, told)) wrote = (wrote.0, subst (IsProperPrefixOf wrote.0) (told ∙ ap (λ (l : List ℕ). l ++ refused_text f) none) wrote.1, wrote.2)
closes_cut f ready out left o p e WriteFault none (inr (is, kept)) wrote = absurd (none_before wrote.0 (subst (IsProperPrefixOf wrote.0) (kept ∙ none) wrote.1))
closes_cut f ready out left o p e Memory none h wrote = absurd wrote
closes_cut f ready out left o p e Clean none h wrote = absurd wrote
closes_cut f ready out left o p e (Fault g) none h wrote = absurd wrote
closes_cut f ready out left o p e ReadFault none h wrote = absurd wrote

nothing_cut : (out left : List ℕ) (o p : Option (List ℕ)) (now : Ended) → out ≡ [] → Writes out o p left (Some now) → ⊥
nothing_cut out left o p WriteFault none wrote = none_before wrote.0 (subst (IsProperPrefixOf wrote.0) none wrote.1)
nothing_cut out left o p Memory none wrote = wrote
nothing_cut out left o p Clean none wrote = wrote
nothing_cut out left o p (Fault g) none wrote = wrote
nothing_cut out left o p ReadFault none wrote = wrote

pub concluded_cut : (f : Option FormFault) (ready out left : List ℕ) (o p : Option (List ℕ)) (e now : Ended) → ready ≡ [] → Closes f ready out e → Writes out o p left (Some now) → Concludes f o p now
concluded_cut None ready out left o p e now none h wrote = absurd (nothing_cut out left o p now (h.1 ∙ none) wrote)
concluded_cut (Some f) ready out left o p e now none h wrote = closes_cut f ready out left o p e now none h wrote

stands_whole : {H : Type 0} (latest : ℕ) (may : May H) (a b : H) (bytes text rest : List ℕ) (s : SessionValue) (h : Stands latest may a b bytes text s) → s.requests ≡ [] → s.kept ≡ None → s.left ≡ Ok rest
    → ReadsRequests latest bytes h.answered (Ok rest) × (text ≡ replies_bytes h.replies)
stands_whole latest may a b bytes text rest s h none kept is = (all_read latest may a b bytes text s (Ok rest) h none is, all_told latest may a b bytes text s h kept)

-- where no read comes any more
pub stopped : {H : Type 0} (latest : ℕ) (may : May H) (a b : H) (o p : Option (List ℕ)) (bytes text : List ℕ) (s : SessionValue) → Stands latest may a b bytes text s → IsResting s → Appends o p text → SessionStep may a b o p bytes (Ends latest ReadFault)
stopped latest may a b o p bytes text s h at wrote =
    let whole = stands_whole latest may a b bytes text at.2.0 s h at.0 at.1 at.2.1 in
    record { requests = h.answered; replies = h.replies; answers = h.answers; written = text; appended = wrote; how = (at.2.0, whole.0, whole.1) }

finished_at : {H : Type 0} (latest : ℕ) (may : May H) (a b : H) (o p q : Option (List ℕ)) (bytes text rest : List ℕ) (s : SessionValue) (e : Ended) → Stands latest may a b bytes text s → s.requests ≡ [] → s.kept ≡ None → s.left ≡ Ok rest → Appends o p text
    → Concludes (fault_of (Ok rest)) p q e → SessionStep may a b o q bytes (Ends latest e)
finished_at latest may a b o p q bytes text [] s e h none kept is wrote said =
    let whole = stands_whole latest may a b bytes text [] s h none kept is in
    let both = subst (Appends o q) (append-nil text) (Appends-trans o p q text [] wrote said.1) in
    subst (λ (x : Ended). SessionStep may a b o q bytes (Ends latest x)) (sym said.0) (record { requests = h.answered; replies = h.replies; answers = h.answers; written = text; appended = both; how = whole })
finished_at latest may a b o p q bytes text (x ∷ rest) s e h none kept is wrote said =
    let whole = stands_whole latest may a b bytes text (x ∷ rest) s h none kept is in
    fault_said latest may a b o p q bytes h.answered h.replies (Ok (x ∷ rest)) Truncated e whole.0 refl h.answers (subst (Appends o p) whole.1 wrote) said

pub finished : {H : Type 0} (latest : ℕ) (may : May H) (a b : H) (o p q : Option (List ℕ)) (bytes text : List ℕ) (s : SessionValue) (e : Ended) → Stands latest may a b bytes text s → IsResting s → Appends o p text
    → Concludes (fault_of s.left) p q e → SessionStep may a b o q bytes (Ends latest e)
finished latest may a b o p q bytes text s e h at wrote said =
    finished_at latest may a b o p q bytes text at.2.0 s e h at.0 at.1 at.2.1 wrote (subst (λ (r : Result (List ℕ) FormFault). Concludes (fault_of r) p q e) at.2.1 said)

-- what a session did that ended before its reader
pub ended_midway : {H : Type 0} (latest : ℕ) (may : May H) (a b : H) (o p q : Option (List ℕ)) (bytes text said : List ℕ) (e : Ended) → Appends o p text → Appends p q said → EndedSo latest may a b bytes (text ++ said) e → SessionStep may a b o q bytes (Ends latest e)
ended_midway latest may a b o p q bytes text said e wrote more h =
    record { requests = h.0; replies = h.1; answers = h.2; written = text ++ said; appended = Appends-trans o p q text said wrote more; how = h.3 }
