-- Where a session stands after what it did.
use Rattle.std.proofs.Common.{◌≡◌, ◌≢◌, ℕ, Bool, true, false, is_some, List, [], ◌∷◌, ◌++◌, length, take, Option, Some, None, option_to_list, Result, Ok, Err, refl, sym, ap, subst, ◌∙◌, append_assoc, append-nil, arith, inl, inr}
use Rattle.std.proofs.Math.Seq.{take-nil}
use Rattle.std.proofs.lemmas.Bool.{cases_lt}
use Rattle.std.proofs.lemmas.List.{take_all}
use Rattle.hk_types.specs.declared.faults.FormFault.{FormFault}
use Rattle.hk_types.specs.declared.faults.FormFault.TheVariants.{Truncated}
use Rattle.hk_frames.proofs.FrameStream.{fault_behind}
use Rattle.hk_messages.specs.declared.request.Request.{Request}
use Rattle.hk_messages.specs.declared.reply.Reply.{Reply}
use Rattle.hk_messages.specs.Requests.{request_at, request_rest, IsRequestUpTo, ReadsRequests, AddsRequests}
use Rattle.hk_session_parts.specs.Said.{refused_text}
use Rattle.hk_session_parts.specs.Transcript.{May, replies_bytes, fault_met, BeginsWith, IsAllOrCut}
use Rattle.hk_session_parts.specs.Sessions.{SessionValue, begun_bytes, Stands, IsResting, IsAtFault, ReadIn, Turn, Takes, EndedSo, StandsSo, Continues}
use Rattle.hk_session_parts.specs.declared.ended.Ended.TheVariants.{Clean, Fault, Memory, ReadFault, WriteFault}
use Rattle.hk_session_parts.specs.declared.step.Step.{Step}
use Rattle.hk_session_parts.specs.declared.step.Step.TheVariants as steps
use Rattle.hk_session_parts.proofs.KeptReplies.{begun_same, nothing_kept, told_behind}
use Rattle.hk_session_parts.proofs.WrittenPieces.{is_front}
use Rattle.hk_session_parts.proofs.NoTruncatedRequest.{requests_never_cut}
use Rattle.hk_session_parts.proofs.Transcripts.{Answers-then, ReadsBy-then, replies_bytes-both, begins_front, begins_reads}

abbrev new_session : SessionValue
new_session = record { requests = []; left = Ok []; kept = None; begun = 0 }

pub stands_new : {H : Type 0} (latest : ℕ) (may : May H) (a : H) → Stands latest may a a [] [] new_session
stands_new latest may a =
    record {
      answered = [];
      reads = ([], refl, (refl, tt, inl (omega arith)));
      replies = [];
      answers = refl;
      said = [];
      order = refl;
      told = refl;
    }

pub stands_start : {H : Type 0} (latest : ℕ) (may : May H) (a : H) (s : SessionValue) → s ≡ new_session → Stands latest may a a [] [] s × IsResting s
stands_start latest may a s is =
    (subst (Stands latest may a a [] []) (sym is) (stands_new latest may a), (ap (λ (v : SessionValue). v.requests) is, ap (λ (v : SessionValue). v.kept) is, ([], ap (λ (v : SessionValue). v.left) is)))

-- ---- a piece

fault_more : (latest : ℕ) (bytes more : List ℕ) (qs : List Request) (f : FormFault) → ReadsRequests latest bytes qs (Err f) → ReadsRequests latest (bytes ++ more) qs (Err f)
fault_more latest bytes more qs f h = (h.0, h.1, fault_behind 2 268435456 (request_at latest) request_rest (IsRequestUpTo latest) bytes more h.0 f h.2)

-- after a fault nothing is read
pub read_faulty : (latest : ℕ) (s : SessionValue) (f : FormFault) (piece : List ℕ) → s.left ≡ Err f → ReadIn latest s s piece
read_faulty latest s f piece is =
    record {
      new = [];
      behind = sym (append-nil s.requests);
      reads = λ bytes requests h. subst (λ (l : List Request). ReadsRequests latest (bytes ++ piece) l s.left) (sym (append-nil requests))
          (subst (ReadsRequests latest (bytes ++ piece) requests) (sym is) (fault_more latest bytes piece requests f (subst (ReadsRequests latest bytes requests) is h)));
      same = refl;
      begun = refl;
    }

-- what a feeder holds that met no fault, and that met one
pub open_left : (left : Result (List ℕ) FormFault) (fault : Option FormFault) → fault ≡ fault_met left → is_some fault ≡ false → (rest : List ℕ) × (left ≡ Ok rest)
open_left (Ok rest) fault e none = (rest, refl)
open_left (Err f) fault e none = absurd (some_not (sym none ∙ ap is_some e))
  where
    some_not : false ≡ true → ⊥
    some_not e = cc

pub met_fault : (left : Result (List ℕ) FormFault) (fault : Option FormFault) → fault ≡ fault_met left → is_some fault ≡ true → (f : FormFault) × (left ≡ Err f)
met_fault (Ok rest) fault e some = absurd (none_not (sym some ∙ ap is_some e))
  where
    none_not : true ≡ false → ⊥
    none_not e = cc
met_fault (Err f) fault e some = (f, refl)

-- what was added behind the requests that were there
pub read_more : (latest : ℕ) (before after : List Request) (rest piece : List ℕ) (left new : Result (List ℕ) FormFault) (kept : Option Reply) (begun : ℕ) → left ≡ Ok rest → AddsRequests latest before after (rest ++ piece) new
    → ReadIn latest (record { requests = before; left = left; kept = kept; begun = begun }) (record { requests = after; left = new; kept = kept; begun = begun }) piece
read_more latest before after rest piece left new kept begun is h =
    record {
      new = h.0;
      behind = h.1;
      reads = λ bytes requests k. ReadsBy-then latest bytes rest piece requests h.0 new (subst (ReadsRequests latest bytes requests) is k) h.2;
      same = refl;
      begun = refl;
    }

pub stands_read : {H : Type 0} (latest : ℕ) (may : May H) (a b : H) (bytes text piece : List ℕ) (s t : SessionValue) → Stands latest may a b bytes text s → ReadIn latest s t piece → Stands latest may a b (bytes ++ piece) text t
stands_read latest may a b bytes text piece s t h r =
    let behind : (h.answered ++ s.requests) ++ r.new ≡ h.answered ++ t.requests = append_assoc h.answered s.requests r.new ∙ ap (λ (l : List Request). h.answered ++ l) (sym r.behind) in
    record {
      answered = h.answered;
      reads = subst (λ (l : List Request). ReadsRequests latest (bytes ++ piece) l t.left) behind (r.reads bytes (h.answered ++ s.requests) h.reads);
      replies = h.replies;
      answers = h.answers;
      said = h.said;
      order = h.order ∙ ap (λ (k : Option Reply). h.said ++ option_to_list k) (sym r.same);
      told = h.told ∙ ap (λ (l : List ℕ). replies_bytes h.said ++ l) (begun_same s t r.same r.begun);
    }

-- ---- a turn

-- the replies of both, in their order
pub both_kept : (said first replies more last all : List Reply) → all ≡ said ++ first → first ++ replies ≡ more ++ last → all ++ replies ≡ (said ++ more) ++ last
both_kept said first replies more last all e f =
    ap (λ (l : List Reply). l ++ replies) e ∙ append_assoc said first replies ∙ ap (λ (l : List Reply). said ++ l) f ∙ sym (append_assoc said more last)

unfoldable pub stands_turned : {H : Type 0} (latest : ℕ) (may : May H) (a b c : H) (bytes text : List ℕ) (s t : SessionValue) (has_waited : Bool) (ready out : List ℕ) → Stands latest may a b bytes text s → (turn : Turn may b c s t has_waited ready out)
    → Stands latest may a c bytes (text ++ turn.more) t
stands_turned latest may a b c bytes text s t has_waited ready out h turn =
    let behind : h.answered ++ s.requests ≡ (h.answered ++ turn.answered) ++ t.requests = ap (λ (l : List Request). h.answered ++ l) turn.order ∙ sym (append_assoc h.answered turn.answered t.requests) in
    record {
      answered = h.answered ++ turn.answered;
      reads = subst (ReadsRequests latest bytes ((h.answered ++ turn.answered) ++ t.requests)) (sym turn.same) (subst (λ (l : List Request). ReadsRequests latest bytes l s.left) behind h.reads);
      replies = h.replies ++ turn.replies;
      answers = Answers-then may a b c h.answered turn.answered h.replies turn.replies h.answers turn.answers;
      said = h.said ++ turn.said;
      order = both_kept h.said (option_to_list s.kept) turn.replies turn.said (option_to_list t.kept) h.replies h.order turn.kept;
      told = told_behind text (begun_bytes s) turn.more (begun_bytes t) h.said turn.said h.told turn.told;
    }

-- ---- its end

begins_more : (latest : ℕ) (bytes more : List ℕ) (qs : List Request) → BeginsWith latest bytes qs → BeginsWith latest (bytes ++ more) qs
begins_more latest bytes more qs h =
    (h.0, h.1, h.2 ++ more, ap (λ (t : List ℕ). t ++ more) h.3 ∙ append_assoc _ h.2 more, h.4)

pub stands_begins : {H : Type 0} (latest : ℕ) (may : May H) (a b : H) (bytes text : List ℕ) (s : SessionValue) (h : Stands latest may a b bytes text s) → BeginsWith latest bytes h.answered
stands_begins latest may a b bytes text s h = begins_front latest bytes (h.answered ++ s.requests) h.answered s.requests (begins_reads latest bytes (h.answered ++ s.requests) s.left h.reads) refl

-- the replies but for one that is kept, and of that one what was appended
all_but_kept : (text : List ℕ) (said replies : List Reply) (kept : Option Reply) (begun : ℕ) → replies ≡ said ++ option_to_list kept → text ≡ replies_bytes said ++ take begun (replies_bytes (option_to_list kept)) → IsAllOrCut text replies
all_but_kept text said replies None begun order told =
    inl (told ∙ ap (λ (l : List ℕ). replies_bytes said ++ l) (take-nil begun) ∙ append-nil (replies_bytes said) ∙ ap replies_bytes (sym (order ∙ append-nil said)))
all_but_kept text said replies (Some r) begun order told =
    let last = replies_bytes (r ∷ []) in
    elim (cases_lt begun (length last)) [
      | inl less ↦ inr (record { said = said; held = []; last = r; order = order; few = omega arith; part = take begun last; front = is_front begun last less; wrote = told })
      | inr all ↦ inl (told ∙ ap (λ (l : List ℕ). replies_bytes said ++ l) (take_all begun last all) ∙ sym (replies_bytes-both said (r ∷ [])) ∙ ap replies_bytes (sym order))
    ]

pub ended_memory : {H : Type 0} (latest : ℕ) (may : May H) (a b : H) (bytes more text : List ℕ) (s : SessionValue) → Stands latest may a b bytes text s → EndedSo latest may a b (bytes ++ more) text Memory
ended_memory latest may a b bytes more text s h =
    (h.answered, h.replies, h.answers, (begins_more latest bytes more h.answered (stands_begins latest may a b bytes text s h), all_but_kept text h.said h.replies s.kept s.begun h.order h.told))

-- all replies were appended
pub all_told : {H : Type 0} (latest : ℕ) (may : May H) (a b : H) (bytes text : List ℕ) (s : SessionValue) (h : Stands latest may a b bytes text s) → s.kept ≡ None → text ≡ replies_bytes h.replies
all_told latest may a b bytes text s h none = h.told ∙ ap (λ (l : List ℕ). replies_bytes h.said ++ l) (nothing_kept s none) ∙ append-nil (replies_bytes h.said) ∙ ap replies_bytes (sym (h.order ∙ ap (λ (k : Option Reply). h.said ++ option_to_list k) none ∙ append-nil h.said))

pub all_read : {H : Type 0} (latest : ℕ) (may : May H) (a b : H) (bytes text : List ℕ) (s : SessionValue) (left : Result (List ℕ) FormFault) (h : Stands latest may a b bytes text s) → s.requests ≡ [] → s.left ≡ left → ReadsRequests latest bytes h.answered left
all_read latest may a b bytes text s left h none is =
    subst (ReadsRequests latest bytes h.answered) is (subst (λ (l : List Request). ReadsRequests latest bytes l s.left) (ap (λ (l : List Request). h.answered ++ l) none ∙ append-nil h.answered) h.reads)

pub ended_fault : {H : Type 0} (latest : ℕ) (may : May H) (a b : H) (bytes text : List ℕ) (s : SessionValue) (f : FormFault) → Stands latest may a b bytes text s → IsAtFault s f → EndedSo latest may a b bytes (text ++ refused_text f) (Fault f)
ended_fault latest may a b bytes text s f h at =
    (h.answered, h.replies, h.answers, (Err f, all_read latest may a b bytes text s (Err f) h at.0 at.2, refl, ap (λ (t : List ℕ). t ++ refused_text f) (all_told latest may a b bytes text s h at.1)))

pub fault_not_cut : {H : Type 0} (latest : ℕ) (may : May H) (a b : H) (bytes text : List ℕ) (s : SessionValue) (f : FormFault) → Stands latest may a b bytes text s → IsAtFault s f → f ≢ Truncated
fault_not_cut latest may a b bytes text s f h at e =
    requests_never_cut latest bytes h.answered (subst (λ (g : FormFault). ReadsRequests latest bytes h.answered (Err g)) e (all_read latest may a b bytes text s (Err f) h at.0 at.2))

-- ---- what a call promises

-- a text behind two others
behind_both : (ready front out said more : List ℕ) → front ≡ ready ++ said → out ≡ front ++ more → out ≡ ready ++ (said ++ more)
behind_both ready front out said more e f = f ∙ ap (λ (t : List ℕ). t ++ more) e ∙ append_assoc ready said more

pub continues_takes : {H : Type 0} (latest : ℕ) (may : May H) (old new : H) (before after : SessionValue) (piece : List ℕ) (has_waited : Bool) (ready out : List ℕ) (step : Step)
    → Takes latest may old new before after piece has_waited ready out step → Continues latest may old new before after piece ready out step
continues_takes latest may old new before after piece has_waited ready out step (inr (is, same, kept, none)) = (
  [],
  none ∙ sym (append-nil ready),
  λ start bytes text h.
      subst (StandsSo latest may start new (bytes ++ piece) (text ++ []) after) (sym is)
      (subst (λ (t : List ℕ). EndedSo latest may start new (bytes ++ piece) t Memory) (sym (append-nil text)) (ended_memory latest may start new bytes piece text before (subst (λ (b : _). Stands latest may start b bytes text before) (sym same) h))),
)
continues_takes latest may old new before after piece has_waited ready out steps.GoesOn (inl (read, r, (turn, rest))) =
    (turn.more, turn.added, λ start bytes text h. stands_turned latest may start old new (bytes ++ piece) text read after has_waited ready out (stands_read latest may start old bytes text piece before read h r) turn)
continues_takes latest may old new before after piece has_waited ready out steps.Full (inl (read, r, (turn, some))) =
    (turn.more, turn.added, λ start bytes text h. stands_turned latest may start old new (bytes ++ piece) text read after has_waited ready out (stands_read latest may start old bytes text piece before read h r) turn)
continues_takes latest may old new before after piece has_waited ready out (steps.Waits t milliseconds) (inl (read, r, (turn, none, first, some))) =
    (turn.more, turn.added, λ start bytes text h. stands_turned latest may start old new (bytes ++ piece) text read after has_waited ready out (stands_read latest may start old bytes text piece before read h r) turn)
continues_takes latest may old new before after piece has_waited ready out (steps.Ended (Fault f)) (inl (read, r, (front, turn, at, told, most, fresh))) = (
  turn.more ++ refused_text f,
  behind_both ready front out turn.more (refused_text f) turn.added told,
  λ start bytes text h.
      let stands = stands_turned latest may start old new (bytes ++ piece) text read after has_waited ready front (stands_read latest may start old bytes text piece before read h r) turn in
      subst (λ (t : List ℕ). EndedSo latest may start new (bytes ++ piece) t (Fault f)) (append_assoc text turn.more (refused_text f)) (ended_fault latest may start new (bytes ++ piece) (text ++ turn.more) after f stands at),
)
continues_takes latest may old new before after piece has_waited ready out (steps.Ended Memory) (inl (read, r, (turn, none))) = (
  turn.more,
  turn.added,
  λ start bytes text h.
      let stands = stands_turned latest may start old new (bytes ++ piece) text read after has_waited ready out (stands_read latest may start old bytes text piece before read h r) turn in
      subst (λ (b : List ℕ). EndedSo latest may start new b (text ++ turn.more) Memory) (append-nil (bytes ++ piece)) (ended_memory latest may start new (bytes ++ piece) [] (text ++ turn.more) after stands),
)
continues_takes latest may old new before after piece has_waited ready out (steps.Ended Clean) (inl (read, r, h)) = absurd h
continues_takes latest may old new before after piece has_waited ready out (steps.Ended ReadFault) (inl (read, r, h)) = absurd h
continues_takes latest may old new before after piece has_waited ready out (steps.Ended WriteFault) (inl (read, r, h)) = absurd h
