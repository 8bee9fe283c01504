-- What a session does between two reads, put together from its parts.
use Rattle.std.proofs.Common.{◌≡◌, ◌≢◌, ◌⊎◌, ℕ, ◌+◌, ◌*◌, ◌<◌, ◌≤◌, Bool, true, false, List, [], ◌∷◌, ◌++◌, length, drop, Option, Some, None, option_to_list, Result, Ok, Err, is_err, OnOk, OnErr, refl, sym, ap, subst, ◌∙◌, append_assoc, append-nil, arith, inl, inr}
use Rattle.std.proofs.lemmas.List.{length-append}
use Rattle.hk_frames.proofs.FrameStream.{each_more}
use Rattle.hk_messages.specs.declared.request.Request.{Request}
use Rattle.hk_messages.specs.declared.reply.Reply.{Reply}
use Rattle.hk_session_parts.specs.Transcript.{May, Answers, replies_bytes}
use Rattle.hk_session_parts.specs.Sessions.{SessionValue, kept_bytes, begun_bytes, awaited, first_awaited, AppendsKept, HasNoNext, HaveWaited, AreFew, Turn, Turns, Pauses}
use Rattle.hk_session_parts.specs.declared.ended.Ended.TheVariants.{Clean, Fault, Memory, ReadFault, WriteFault}
use Rattle.hk_session_parts.specs.declared.step.Step.{Step}
use Rattle.hk_session_parts.specs.declared.step.Step.TheVariants as steps
use Rattle.hk_session_parts.proofs.Transcripts.{replies_bytes-both, split_more, answered_more}
use Rattle.hk_session_parts.proofs.KeptReplies.{nothing_kept, nothing_begun, both_told, replies_size, parts_size}

-- what a call that answers did so far: while it answered nothing, an `Await` may be what was waited for
pub record TurnSoFar {H : Type 0} (may : May H) (old new : H) (before after : SessionValue) (has_waited waited : Bool) (ready out : List ℕ) : Type 0 where
  pub turn : Turn may old new before after has_waited ready out
  pub first : ((waited ≡ has_waited) × (turn.answered ≡ [])) ⊎ ((waited ≡ false) × (turn.answered ≢ []))

-- what a call answered by which a test went on
pub at_ok : {A E : Type 0} (r : Result A E) (P : Type 0) → is_err r ≡ false → OnOk r P → P
at_ok (Ok x) P e h = h
at_ok (Err d) P e h = absurd (other e)
  where
    other : true ≡ false → ⊥
    other e = cc

pub at_err : {A E : Type 0} (r : Result A E) (P : Type 0) → is_err r ≡ true → OnErr r P → P
at_err (Err d) P e h = h
at_err (Ok x) P e h = absurd (other e)
  where
    other : false ≡ true → ⊥
    other e = cc

pub some_over : (xs : List ℕ) (n : ℕ) → n < length xs → xs ≢ []
some_over [] n h e = absurd (omega (arith, h))
some_over (x ∷ xs) n h e = cc

-- ---- its parts

none_waited : (b : Bool) → HaveWaited b []
none_waited true = tt
none_waited false = tt

few_kept : (ready : List ℕ) (kept : Option Reply) → AreFew ready (option_to_list kept ++ [])
few_kept ready None = inl refl
few_kept ready (Some reply) = inr ([], reply, refl, λ h. subst (λ (t : List ℕ). length t ≤ 65536) (sym (append-nil ready)) h)

pub turn_start : {H : Type 0} (may : May H) (a : H) (s : SessionValue) (b : Bool) (ready : List ℕ) → TurnSoFar may a a s s b b ready ready
turn_start may a s b ready =
    record {
      turn = record {
        answered = [];
        order = refl;
        waited = none_waited b;
        replies = [];
        answers = refl;
        said = [];
        kept = append-nil (option_to_list s.kept);
        more = [];
        added = sym (append-nil ready);
        told = append-nil (begun_bytes s);
        few = few_kept ready s.kept;
        same = refl;
      };
      first = inl (refl, refl);
    }

-- a piece of what was kept was appended
pub turn_appended : {H : Type 0} (may : May H) (a b : H) (before s t : SessionValue) (has_waited waited : Bool) (ready out new : List ℕ)
    → TurnSoFar may a b before s has_waited waited ready out → AppendsKept s t out new → TurnSoFar may a b before t has_waited waited ready new
turn_appended may a b before s t has_waited waited ready out new h k =
    record {
      turn = record {
        answered = h.turn.answered;
        order = h.turn.order ∙ ap (λ (v : SessionValue). h.turn.answered ++ v.requests) (sym k.same);
        waited = h.turn.waited;
        replies = h.turn.replies;
        answers = h.turn.answers;
        said = h.turn.said ++ k.said;
        kept = h.turn.kept ∙ ap (λ (l : List Reply). h.turn.said ++ l) k.kept ∙ sym (append_assoc h.turn.said k.said (option_to_list t.kept));
        more = h.turn.more ++ k.more;
        added = k.added ∙ ap (λ (l : List ℕ). l ++ k.more) h.turn.added ∙ append_assoc ready h.turn.more k.more;
        told = both_told (begun_bytes before) h.turn.more (begun_bytes s) k.more (begun_bytes t) h.turn.said k.said h.turn.told k.told;
        few = h.turn.few;
        same = ap (λ (v : SessionValue). v.left) k.same ∙ h.turn.same;
      };
      first = h.first;
    }

-- where one had been begun, something was appended
pub some_appended : (s t : SessionValue) (ready out : List ℕ) → AppendsKept s t ready out → 0 < s.begun → out ≢ []
some_appended s t ready out k begun e =
    absurd (omega (arith, k.left begun, ap length k.added, length-append ready k.more, ap length e))

-- none is kept where less than a piece is there
pub none_kept : (s t : SessionValue) (ready out : List ℕ) → AppendsKept s t ready out → length out ≤ 65536 → t.kept ≡ None
none_kept s t ready out k few =
    elim k.piece [
      | inl none ↦ none
      | inr many ↦ absurd (omega (arith, many, few, ap length k.added, length-append ready k.more))
    ]

have_waited_more : (has_waited waited : Bool) (xs : List Request) (q : Request) → HaveWaited has_waited xs → ((waited ≡ has_waited) × (xs ≡ [])) ⊎ ((waited ≡ false) × (xs ≢ [])) → (waited ≡ false → awaited q ≡ None) → HaveWaited has_waited (xs ++ q ∷ [])
have_waited_more false waited xs q h first prompt = each_more (λ (x : Request). awaited x ≡ None) xs q h (prompt (elim first [ inl e ↦ e.0 | inr e ↦ e.0 ]))
have_waited_more true waited [] q h first prompt = tt
have_waited_more true waited (x ∷ xs) q h first prompt = each_more (λ (y : Request). awaited y ≡ None) xs q h (prompt (elim first [ inl e ↦ absurd cc | inr e ↦ e.0 ]))

abbrev no_requests : List Request
no_requests = []

one_is_some : (xs : List Request) (q : Request) → xs ++ q ∷ [] ≡ no_requests → ⊥
one_is_some [] q e = cc
one_is_some (x ∷ xs) q e = cc

-- the next request was answered, and its reply is kept
answered_next : {H : Type 0} (may : May H) (a b c : H) (before t : SessionValue) (has_waited waited : Bool) (ready out : List ℕ) (q : Request) (r : Reply)
    → TurnSoFar may a b before (record t { requests = q ∷ t.requests }) has_waited waited ready out → t.kept ≡ None → before.begun ≡ 0 → length out ≤ 65536 → (waited ≡ false → awaited q ≡ None) → may b q r c
    → TurnSoFar may a c before (record t { kept = Some r; begun = 0 }) has_waited false ready out
answered_next may a b c before t has_waited waited ready out q r h none fresh most prompt answer =
    let first = option_to_list before.kept in
    let all : first ++ h.turn.replies ≡ h.turn.said = h.turn.kept ∙ ap (λ (k : Option Reply). h.turn.said ++ option_to_list k) none ∙ append-nil h.turn.said in
    let order : first ++ (h.turn.replies ++ r ∷ []) ≡ h.turn.said ++ r ∷ [] = sym (append_assoc first h.turn.replies (r ∷ [])) ∙ ap (λ (l : List Reply). l ++ r ∷ []) all in
    let told : begun_bytes before ++ h.turn.more ≡ replies_bytes h.turn.said ++ [] = h.turn.told ∙ ap (λ (l : List ℕ). replies_bytes h.turn.said ++ l) (nothing_kept (record t { requests = q ∷ t.requests }) none) in
    let said : h.turn.more ≡ replies_bytes h.turn.said = ap (λ (l : List ℕ). l ++ h.turn.more) (sym (nothing_begun before fresh)) ∙ told ∙ append-nil (replies_bytes h.turn.said) in
    let whole : out ≡ ready ++ replies_bytes h.turn.said = h.turn.added ∙ ap (λ (l : List ℕ). ready ++ l) said in
    record {
      turn = record {
        answered = h.turn.answered ++ q ∷ [];
        order = split_more before.requests h.turn.answered (q ∷ t.requests) t.requests q h.turn.order refl;
        waited = have_waited_more has_waited waited h.turn.answered q h.turn.waited h.first prompt;
        replies = h.turn.replies ++ r ∷ [];
        answers = answered_more may a b c h.turn.answered h.turn.replies q r h.turn.answers answer;
        said = h.turn.said;
        kept = order;
        more = h.turn.more;
        added = h.turn.added;
        told = told;
        few = inr (h.turn.said, r, order, λ _. subst (λ (l : List ℕ). length l ≤ 65536) whole most);
        same = h.turn.same;
      };
      first = inr (refl, one_is_some h.turn.answered q);
    }

pub turn_answered : {H : Type 0} (may : May H) (a b c : H) (before s t : SessionValue) (has_waited waited : Bool) (ready out : List ℕ) (q : Request) (r : Reply)
    → TurnSoFar may a b before s has_waited waited ready out → s.kept ≡ None → before.begun ≡ 0 → length out ≤ 65536 → s ≡ record t { requests = q ∷ t.requests } → (waited ≡ false → awaited q ≡ None) → may b q r c
    → TurnSoFar may a c before (record t { kept = Some r; begun = 0 }) has_waited false ready out
turn_answered may a b c before s t has_waited waited ready out q r h none fresh most is prompt answer =
    answered_next may a b c before t has_waited waited ready out q r (subst (λ (v : SessionValue). TurnSoFar may a b before v has_waited waited ready out) is h) (ap (λ (v : SessionValue). v.kept) (sym is) ∙ none) fresh most prompt answer

-- ---- its end

first_is : (requests : List Request) (t milliseconds : ℕ) → requests ≡ [] → first_awaited requests ≡ Some (t, milliseconds) → ⊥
first_is requests t milliseconds none is = not_some (t, milliseconds) (ap first_awaited (sym none) ∙ is)
  where
    not_some : (p : ℕ × ℕ) → None ≡ Some p → ⊥
    not_some p e = cc

none_waits : (requests : List Request) (waited : Bool) → HasNoNext waited requests → first_awaited requests ≡ None → requests ≡ []
none_waits requests waited h none = elim h [ inl e ↦ e | inr e ↦ absurd (e.1 none) ]

some_answered : (has_waited waited : Bool) (answered : List Request) → ((waited ≡ has_waited) × (answered ≡ [])) ⊎ ((waited ≡ false) × (answered ≢ [])) → waited ≡ false → has_waited ≡ true → answered ≢ []
some_answered has_waited waited answered h now is = elim h [ inl e ↦ absurd (not_both has_waited waited e.0 now is) | inr e ↦ e.1 ]
  where
    not_both : (has_waited waited : Bool) → waited ≡ has_waited → waited ≡ false → has_waited ≡ true → ⊥
    not_both has_waited waited e f g = cc

-- no other request could be answered
pub turn_paused : {H : Type 0} (may : May H) (a b : H) (before s : SessionValue) (has_waited waited : Bool) (ready out more : List ℕ) (step : Step)
    → TurnSoFar may a b before s has_waited waited ready out → s.kept ≡ None → before.begun ≡ 0 → length out ≤ 65536 → HasNoNext waited s.requests → Pauses s out more step
    → Turns may a b before s has_waited ready more step
turn_paused may a b before s has_waited waited ready out more steps.GoesOn h none fresh most at e =
    (subst (λ (l : List ℕ). Turn may a b before s has_waited ready l) (sym e.0) h.turn, (none_waits s.requests waited at e.1, none, e.2))
turn_paused may a b before s has_waited waited ready out more steps.Full h none fresh most at e =
    (subst (λ (l : List ℕ). Turn may a b before s has_waited ready l) (sym e.0) h.turn, e.1)
turn_paused may a b before s has_waited waited ready out more (steps.Waits t milliseconds) h none fresh most at e =
    let now : waited ≡ false = elim at [ inl f ↦ absurd (first_is s.requests t milliseconds f e.1) | inr f ↦ f.0 ] in
    subst (λ (l : List ℕ). Turns may a b before s has_waited ready l (steps.Waits t milliseconds)) (sym e.0) (h.turn, none, e.1, some_answered has_waited waited h.turn.answered h.first now)
turn_paused may a b before s has_waited waited ready out more (steps.Ended (Fault f)) h none fresh most at e = (out, h.turn, (none_waits s.requests waited at e.1, none, e.2), e.0, most, fresh)
turn_paused may a b before s has_waited waited ready out more (steps.Ended Memory) h none fresh most at e =
    (subst (λ (l : List ℕ). Turn may a b before s has_waited ready l) (sym e.0) h.turn, e.1)
turn_paused may a b before s has_waited waited ready out more (steps.Ended Clean) h none fresh most at e = absurd e
turn_paused may a b before s has_waited waited ready out more (steps.Ended ReadFault) h none fresh most at e = absurd e
turn_paused may a b before s has_waited waited ready out more (steps.Ended WriteFault) h none fresh most at e = absurd e

-- ---- what is left

-- how much a session has to do: for each request that waits more than a reply can have bytes, and what isn't appended yet of a reply
-- that is kept
abbrev pub left_to_do : SessionValue → ℕ
left_to_do s = 268435461 * length s.requests + length (drop s.begun (kept_bytes s))

as_many : {H : Type 0} (may : May H) (a b : H) (qs : List Request) (rs : List Reply) → Answers may a qs rs b → length qs ≡ length rs
as_many may a b [] [] h = refl
as_many may a b (q ∷ qs) (r ∷ rs) h = let rest = as_many may h.0 b qs rs h.2 in omega (arith, rest)
as_many may a b [] (r ∷ rs) h = absurd h
as_many may a b (q ∷ qs) [] h = absurd h

some_of : {X : Type 0} (xs : List X) → xs ≢ [] → 0 < length xs
some_of [] h = absurd (h refl)
some_of (x ∷ xs) h = omega arith

less_of : {H : Type 0} (may : May H) (a b : H) (s t : SessionValue) (has_waited : Bool) (ready out : List ℕ) (turn : Turn may a b s t has_waited ready out) → 0 < length turn.answered + length turn.more → left_to_do t < left_to_do s
less_of may a b s t has_waited ready out turn some =
    let asked : length s.requests ≡ length turn.answered + length t.requests = ap length turn.order ∙ length-append turn.answered t.requests in
    let many = as_many may a b turn.answered turn.replies turn.answers in
    let whole : length (kept_bytes s) + length (replies_bytes turn.replies) ≡ length (replies_bytes turn.said) + length (kept_bytes t) =
    sym (length-append (kept_bytes s) (replies_bytes turn.replies))
    ∙ ap length (sym (replies_bytes-both (option_to_list s.kept) turn.replies) ∙ ap replies_bytes turn.kept ∙ replies_bytes-both turn.said (option_to_list t.kept))
    ∙ length-append (replies_bytes turn.said) (kept_bytes t) in
    let told : length (begun_bytes s) + length turn.more ≡ length (replies_bytes turn.said) + length (begun_bytes t) =
    sym (length-append (begun_bytes s) turn.more) ∙ ap length turn.told ∙ length-append (replies_bytes turn.said) (begun_bytes t) in
    less_by (length turn.answered) (length s.requests) (length t.requests) (length turn.replies) (length (replies_bytes turn.replies)) (length turn.more) (length (replies_bytes turn.said)) (length (kept_bytes s)) (length (kept_bytes t)) (length (begun_bytes s)) (length (begun_bytes t))
    (length (drop s.begun (kept_bytes s))) (length (drop t.begun (kept_bytes t))) asked many (replies_size turn.replies) whole told (parts_size s.begun (kept_bytes s)) (parts_size t.begun (kept_bytes t)) some
  where
    less_by : (answered requests left replies size more said kept kept_after begun begun_after rest rest_after : ℕ) → requests ≡ answered + left → answered ≡ replies → size ≤ 268435460 * replies → kept + size ≡ said + kept_after → begun + more ≡ said + begun_after
        → begun + rest ≡ kept → begun_after + rest_after ≡ kept_after → 0 < answered + more → 268435461 * left + rest_after < 268435461 * requests + rest
    less_by answered requests left replies size more said kept kept_after begun begun_after rest rest_after e f g h i j k l = omega (arith, e, f, g, h, i, j, k, l)

-- less is left where something was appended, or answered
pub less_said : {H : Type 0} (may : May H) (a b : H) (s t : SessionValue) (has_waited : Bool) (ready out : List ℕ) → Turn may a b s t has_waited ready out → ready ≡ [] → out ≢ [] → left_to_do t < left_to_do s
less_said may a b s t has_waited ready out turn none some =
    let more : turn.more ≢ [] = λ e. some (turn.added ∙ ap (λ (l : List ℕ). ready ++ l) e ∙ append-nil ready ∙ none) in
    less_of may a b s t has_waited ready out turn (omega (arith, some_of turn.more more))

pub less_answered : {H : Type 0} (may : May H) (a b : H) (s t : SessionValue) (has_waited : Bool) (ready out : List ℕ) (turn : Turn may a b s t has_waited ready out) → turn.answered ≢ [] → left_to_do t < left_to_do s
less_answered may a b s t has_waited ready out turn some = less_of may a b s t has_waited ready out turn (omega (arith, some_of turn.answered some))
