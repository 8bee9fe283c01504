-- Where a connection stands after a step.
use Rattle.std.proofs.Common.{◌≡◌, ◌≢◌, ◌⊎◌, length, inl, inr, ℕ, Bool, true, false, MatchBool, List, [], ◌∷◌, ◌++◌, Option, None, Some, take, drop, sym, ap, subst, ◌∙◌, refl, append_assoc, append-nil, true≢false, arith}
use Rattle.std.specs.Prelude.{is_some}
use Rattle.std.proofs.lemmas.Bool.{false≢true}
use Rattle.std.proofs.lemmas.List.{take-append-drop}
use Rattle.std.proofs.Math.Seq.{drop-length}
use Rattle.hk_messages.specs.declared.request.Request.{Request}
use Rattle.hk_messages.specs.declared.reply.Reply.{Reply}
use Rattle.hk_session_parts.specs.Transcript.{May, Answers, IsPrefixOf, fault_of, replies_bytes}
use Rattle.hk_session_parts.specs.Sessions.{AnswersFirst, SessionValue, Takes, Closes, IsResting, first_of, Turns as SessionTurns}
use Rattle.hk_session_parts.specs.declared.ended.Ended.{Ended}
use Rattle.hk_session_parts.specs.declared.ended.Ended.TheVariants.{Clean, Fault, Memory, ReadFault, WriteFault}
use Rattle.hk_session_parts.specs.declared.step.Step.{Step}
use Rattle.hk_session_parts.specs.declared.step.Step.TheVariants as steps
use Rattle.hk_doors.specs.declared.passes.Passes.{Passes}
use Rattle.hk_doors.specs.declared.frame_watch.Then.{Then}
use Rattle.hk_doors.specs.declared.frame_watch.Then.TheVariants.{Reads, Pauses, Moves}
use Rattle.hk_doors.specs.Handing.{HandsOn, HandsOnFirst, Place, inside}
use Rattle.hk_doors.proofs.Handing.{hands_nothing}
use Rattle.hk_doors.proofs.HandingLaws.{joins_law}
use Rattle.hk_exchange.specs.Pipes.{Outgoing, text_of}
use Rattle.hk_exchange.specs.Exchanges.{ExchangeValue, GotSo, Says, Said, SaidAll, SaysSo, TakesOn, Told, after_cut, after_drop, cut_by, end_of, Goes, Went, Served, ServedLaw, Stands, Turns, Stays, start, waiting, behind_look}
use Rattle.hk_exchange.proofs.Saying.{took, says_front, says_next, closed, closed_all, unclean}

-- ---- how it ended

-- not cleanly
abbrev pub IsUnclean : Option Ended → Type 0
IsUnclean end = end ≢ Some Clean

abbrev or_memory : Option Ended → Ended
or_memory None = Memory
or_memory (Some ended) = ended

pub by_fault : (ended : Ended) → ended ≢ Clean → IsUnclean (Some ended)
by_fault ended never is = never (ap or_memory is)

goes_unclean : (end : Option Ended) → is_some end ≡ false → IsUnclean end
goes_unclean end never is = true≢false (sym (ap is_some is) ∙ never)

cut_unclean : (why : Ended) → cut_by why ≢ Clean
cut_unclean Clean = unclean ReadFault refl
cut_unclean (Fault f) = unclean (Fault f) refl
cut_unclean Memory = unclean Memory refl
cut_unclean ReadFault = unclean ReadFault refl
cut_unclean WriteFault = unclean WriteFault refl

-- a connection that is cut off ends so, or had ended
pub cut_ends : (end : Option Ended) (why : Ended) → is_some (after_cut end why) ≡ true
cut_ends None why = refl
cut_ends (Some ended) why = refl

pub cut_same : (end : Option Ended) (why : Ended) → IsUnclean (after_cut end why) ⊎ (after_cut end why ≡ end)
cut_same None why = inl (by_fault (cut_by why) (cut_unclean why))
cut_same (Some ended) why = inr refl

pub drop_ends : (end : Option Ended) (why : Ended) → is_some (after_drop end why) ≡ true
drop_ends None why = refl
drop_ends (Some Clean) why = refl
drop_ends (Some (Fault f)) why = refl
drop_ends (Some Memory) why = refl
drop_ends (Some ReadFault) why = refl
drop_ends (Some WriteFault) why = refl

pub drop_unclean : (end : Option Ended) (why : Ended) → IsUnclean (after_drop end why)
drop_unclean None why = by_fault (cut_by why) (cut_unclean why)
drop_unclean (Some Clean) why = by_fault (cut_by why) (cut_unclean why)
drop_unclean (Some (Fault f)) why = by_fault (Fault f) (unclean (Fault f) refl)
drop_unclean (Some Memory) why = by_fault Memory (unclean Memory refl)
drop_unclean (Some ReadFault) why = by_fault ReadFault (unclean ReadFault refl)
drop_unclean (Some WriteFault) why = by_fault WriteFault (unclean WriteFault refl)

-- ---- one that goes on is one that went

-- with nothing else changed but how its session ended, what was answered, and what was said
went_with : (passes : Passes) (v w : ExchangeValue) (ready out : List ℕ) (asked more : List Request) (told all : List Reply) → w.came ≡ v.came → (g : Goes passes v ready asked told)
    → Said more all (g.given ++ g.tail) (text_of w.out ++ out)
    → (w.ended ≡ Some Clean → (v.begun ++ v.rest ≡ []) × SaidAll more all (g.given ++ g.tail) (text_of w.out ++ out)) → Went passes w out more all
went_with passes v w ready out asked more told all came g said whole = record {
  passed = g.passed;
  given = g.given;
  tail = g.tail;
  dropped = v.begun ++ v.rest;
  there = g.there;
  hands = g.hands;
  split = came ∙ g.split;
  said = said;
  whole = whole;
}

went : (passes : Passes) (v : ExchangeValue) (ready : List ℕ) (asked : List Request) (told : List Reply) → is_some v.ended ≡ false → Goes passes v ready asked told → Went passes v ready asked told
went passes v ready asked told goes g =
    went_with passes v v ready ready asked asked told told refl g (says_front asked told (g.given ++ g.tail) (text_of v.out ++ ready) v.session g.says) (λ is. absurd (goes_unclean v.ended goes is))

-- the same of one that goes on still
goes_with : (passes : Passes) (v : ExchangeValue) (session : SessionValue) (sent : Outgoing) (ended : Option Ended) (ready out : List ℕ) (asked more : List Request) (told all : List Reply) (g : Goes passes v ready asked told)
    → Says more all (g.given ++ g.tail) (text_of sent ++ out) session → Goes passes (record v { session = session; out = sent; ended = ended }) out more all
goes_with passes v session sent ended ready out asked more told all g says = record {
  passed = g.passed;
  given = g.given;
  tail = g.tail;
  there = g.there;
  hands = g.hands;
  split = g.split;
  goes_on = g.goes_on;
  one = g.one;
  says = says;
}

-- ---- what is handed on

-- the parts of what came, once so many of the bytes that wait are handed on
parts : (came passed tail bytes left : List ℕ) (count : ℕ) → came ≡ passed ++ (tail ++ ([] ++ bytes)) → tail ≡ [] → left ≡ drop count bytes → came ≡ (passed ++ take count bytes) ++ ([] ++ left)
parts came passed tail bytes left count split none is =
    split ∙ ap (λ (l : List ℕ). passed ++ (l ++ bytes)) none ∙ ap (λ (l : List ℕ). passed ++ l) (sym (take-append-drop count bytes)) ∙ sym (append_assoc passed (take count bytes) (drop count bytes))
    ∙ ap (λ (l : List ℕ). (passed ++ take count bytes) ++ l) (sym is)

-- what the session got
got_is : (given tail piece : List ℕ) → tail ≡ [] → (given ++ tail) ++ piece ≡ (given ++ piece) ++ []
got_is given tail piece none = ap (λ (l : List ℕ). (given ++ l) ++ piece) none ∙ ap (λ (l : List ℕ). l ++ piece) (append-nil given) ∙ sym (append-nil (given ++ piece))

-- how a connection stands after a look of its door and a step of its session
abbrev pub after_look : ExchangeValue → Place → List ℕ → List ℕ → SessionValue → Option Ended → ExchangeValue
after_look v place begun rest session ended = record v { place = place; begun = begun; rest = rest; session = session; ended = ended }

-- what is known of the bytes where a session goes on, and where it is over before its piece
pub record Handed (passes : Passes) (v : ExchangeValue) (place : Place) (begun rest bytes : List ℕ) : Type 0 where
  pub passed : List ℕ
  pub given : List ℕ
  pub hands : HandsOn passes (inside 0 0) passed given place
  pub split : v.came ≡ passed ++ ([] ++ (begun ++ rest))
  pub one : (begun ≡ []) ⊎ (rest ≡ [])
  pub is : bytes ≡ given ++ []

-- a session that goes on behind a piece
goes_behind : (passes : Passes) (v : ExchangeValue) (place : Place) (begun rest got bytes piece out : List ℕ) (session : SessionValue) (asked : List Request) (told : List Reply)
    → Handed passes v place begun rest (bytes ++ piece) → got ≡ bytes ++ piece → Says asked told got (text_of v.out ++ out) session
    → Goes passes (after_look v place begun rest session None) out asked told
goes_behind passes v place begun rest got bytes piece out session asked told h e says = record {
  passed = h.passed;
  given = h.given;
  tail = [];
  there = place;
  hands = h.hands;
  split = h.split;
  goes_on = λ _. (refl, refl);
  one = h.one;
  says = subst (λ (l : List ℕ). Says asked told l (text_of v.out ++ out) session) (e ∙ h.is) says;
}

went_behind : (passes : Passes) (v : ExchangeValue) (place : Place) (begun rest got bytes out : List ℕ) (session : SessionValue) (ended : Ended) (asked : List Request) (told : List Reply)
    → Handed passes v place begun rest bytes → got ≡ bytes → Said asked told got (text_of v.out ++ out) × (ended ≢ Clean)
    → Went passes (after_look v place begun rest session (Some ended)) out asked told
went_behind passes v place begun rest got bytes out session ended asked told h e said = record {
  passed = h.passed;
  given = h.given;
  tail = [];
  dropped = begun ++ rest;
  there = place;
  hands = h.hands;
  split = h.split;
  said = subst (λ (l : List ℕ). Said asked told l (text_of v.out ++ out)) (e ∙ h.is) said.0;
  whole = λ is. absurd (by_fault ended said.1 is);
}

-- one that is over, and didn't get the piece
went_before : (passes : Passes) (v : ExchangeValue) (place : Place) (begun rest bytes got ready out : List ℕ) (session : SessionValue) (ended : Ended) (asked qs : List Request) (told rs : List Reply)
    → (g : Goes passes (waiting v bytes) ready asked told) → got ≡ g.given ++ g.tail → Said (asked ++ qs) (told ++ rs) got (text_of v.out ++ out) × (ended ≢ Clean)
    → Went passes (after_look v place begun rest session (Some ended)) out (asked ++ qs) (told ++ rs)
went_before passes v place begun rest bytes got ready out session ended asked qs told rs g e said = record {
  passed = g.passed;
  given = g.given;
  tail = g.tail;
  dropped = [] ++ bytes;
  there = g.there;
  hands = g.hands;
  split = g.split;
  said = subst (λ (l : List ℕ). Said (asked ++ qs) (told ++ rs) l (text_of v.out ++ out)) e said.0;
  whole = λ is. absurd (by_fault ended said.1 is);
}

stood : (passes : Passes) (v : ExchangeValue) (place : Place) (begun rest bytes got piece ready out : List ℕ) (session : SessionValue) (step : Step) (asked qs : List Request) (told rs : List Reply)
    → (g : Goes passes (waiting v bytes) ready asked told) → Handed passes v place begun rest ((g.given ++ g.tail) ++ piece)
    → SaysSo step (asked ++ qs) (told ++ rs) got (text_of v.out ++ out) session → GotSo step got (g.given ++ g.tail) piece
    → Stands passes (after_look v place begun rest session (end_of step)) out (asked ++ qs) (told ++ rs)
stood passes v place begun rest bytes got piece ready out session steps.GoesOn asked qs told rs g h says e =
    goes_behind passes v place begun rest got (g.given ++ g.tail) piece out session (asked ++ qs) (told ++ rs) h e says
stood passes v place begun rest bytes got piece ready out session steps.Full asked qs told rs g h says e =
    goes_behind passes v place begun rest got (g.given ++ g.tail) piece out session (asked ++ qs) (told ++ rs) h e says
stood passes v place begun rest bytes got piece ready out session (steps.Waits t milliseconds) asked qs told rs g h says e =
    goes_behind passes v place begun rest got (g.given ++ g.tail) piece out session (asked ++ qs) (told ++ rs) h e says
stood passes v place begun rest bytes got piece ready out session (steps.Ended ended) asked qs told rs g h said (inl e) =
    went_behind passes v place begun rest got ((g.given ++ g.tail) ++ piece) out session ended (asked ++ qs) (told ++ rs) h e said
stood passes v place begun rest bytes got piece ready out session (steps.Ended ended) asked qs told rs g h said (inr e) =
    went_before passes v place begun rest bytes got ready out session ended asked qs told rs g e said

-- a look of the door, and what the session made of the bytes that it let through
pub handed : {H : Type 0} (may : May H) (old new : H) (passes : Passes) (v : ExchangeValue) (place : Place) (begun rest bytes got ready out : List ℕ) (count : ℕ) (session : SessionValue) (step : Step)
    → v.ended ≡ None → v.is_at_end ≡ false → HandsOnFirst passes count v.place bytes got place → begun ++ rest ≡ drop count bytes → (begun ≡ []) ⊎ (rest ≡ [])
    → TakesOn may old new v.session session (take count got) ready out step
    → Turns may old new passes (waiting v bytes) ready (after_look v place begun rest session (end_of step)) out
handed may old new passes v place begun rest bytes got ready out count session step goes closed hands left one takes asked told stands =
    let g : Goes passes (waiting v bytes) ready asked told =
    subst (λ (e : Option Ended). MatchBool (is_some e) (Went passes (waiting v bytes) ready asked told) (Goes passes (waiting v bytes) ready asked told)) goes stands in
    let none = (g.goes_on closed).0 in
    let on = subst (λ (p : Place). HandsOn passes (inside 0 0) g.passed g.given p) (g.goes_on closed).1 g.hands in
    let k = takes asked told (g.given ++ g.tail) (text_of v.out) g.says in
    let h : Handed passes v place begun rest ((g.given ++ g.tail) ++ take count got) = record {
      passed = g.passed ++ take count bytes;
      given = g.given ++ take count got;
      hands = joins_law passes (inside 0 0) v.place place g.passed (take count bytes) g.given (take count got) on hands;
      split = parts v.came g.passed g.tail bytes (begun ++ rest) count g.split none left;
      one = one;
      is = got_is g.given g.tail (take count got) none;
    } in
    (k.0, k.1, k.3, stood passes v place begun rest bytes k.2 (take count got) ready out session step asked k.0 told k.1 g h k.4 k.5)

only_rest : (begun rest : List ℕ) → (begun ≡ []) ⊎ (rest ≡ []) → rest ≢ [] → begun ≡ []
only_rest begun rest (inl none) some = none
only_rest begun rest (inr none) some = absurd (some none)

abbrev is_reading : Then → Bool
is_reading Reads = true
is_reading Pauses = false
is_reading Moves = false

-- the same by what the look ended with
pub handed_look : {H : Type 0} (may : May H) (old new : H) (passes : Passes) (v u : ExchangeValue) (place : Place) (begun bytes got ready out : List ℕ) (count : ℕ) (then : Then) (session : SessionValue) (step : Step)
    → v.ended ≡ None → v.is_at_end ≡ false → HandsOnFirst passes count v.place bytes got place → drop count got ≡ drop count bytes
    → (then ≡ Reads → begun ≡ drop count got) → (then ≢ Reads → begun ≡ []) → TakesOn may old new v.session session (take count got) ready out step
    → u ≡ after_look v place begun v.rest session (end_of step)
    → Turns may old new passes (waiting v bytes) ready (behind_look u then (drop count got)) out
handed_look may old new passes v u place begun bytes got ready out count Reads session step goes still hands rest held left takes is =
    let kept = ap (λ (l : List ℕ). l ++ []) (held refl) ∙ append-nil (drop count got) ∙ rest in
    subst (λ (w : ExchangeValue). Turns may old new passes (waiting v bytes) ready (record w { rest = [] }) out) (sym is)
    (handed may old new passes v place begun [] bytes got ready out count session step goes still hands kept (inr refl) takes)
handed_look may old new passes v u place begun bytes got ready out count Pauses session step goes still hands rest held left takes is =
    let none = left (λ e. false≢true (ap is_reading e)) in
    subst (λ (w : ExchangeValue). Turns may old new passes (waiting v bytes) ready (record w { rest = drop count got }) out) (sym is)
    (handed may old new passes v place begun (drop count got) bytes got ready out count session step goes still hands (ap (λ (l : List ℕ). l ++ drop count got) none ∙ rest) (inl none) takes)
handed_look may old new passes v u place begun bytes got ready out count Moves session step goes still hands rest held left takes is =
    let none = left (λ e. false≢true (ap is_reading e)) in
    subst (λ (w : ExchangeValue). Turns may old new passes (waiting v bytes) ready (record w { rest = drop count got }) out) (sym is)
    (handed may old new passes v place begun (drop count got) bytes got ready out count session step goes still hands (ap (λ (l : List ℕ). l ++ drop count got) none ∙ rest) (inl none) takes)

-- nothing is left of a buffer behind a look that came to its end
pub none_left : (v : ExchangeValue) (place len : ℕ) (bytes : List ℕ) → length bytes ≡ len → record v { rest = [] } ≡ record v { rest = drop len bytes }
none_left v place len bytes is = ap (λ (l : List ℕ). record v { rest = l }) (sym (ap (λ (i : ℕ). drop i bytes) (sym is) ∙ drop-length bytes))

-- what waits, before it is looked at
pub rest_waits : {H : Type 0} (may : May H) (old new : H) (passes : Passes) (v w : ExchangeValue) (ready out : List ℕ) → v.ended ≡ None → v.rest ≢ [] → Turns may old new passes (waiting v v.rest) ready w out
    → Turns may old new passes v ready w out
rest_waits may old new passes v w ready out goes some turns asked told stands =
    let g : Goes passes v ready asked told =
    subst (λ (e : Option Ended). MatchBool (is_some e) (Went passes v ready asked told) (Goes passes v ready asked told)) goes stands in
    let none : v.begun ≡ [] = only_rest v.begun v.rest g.one some in
    let before : Goes passes (waiting v v.rest) ready asked told = record {
      passed = g.passed;
      given = g.given;
      tail = g.tail;
      there = g.there;
      hands = g.hands;
      split = g.split ∙ ap (λ (l : List ℕ). g.passed ++ (g.tail ++ (l ++ v.rest))) none;
      goes_on = g.goes_on;
      one = inl refl;
      says = g.says;
    } in
    turns asked told (subst (λ (e : Option Ended). MatchBool (is_some e) (Went passes (waiting v v.rest) ready asked told) (Goes passes (waiting v v.rest) ready asked told)) (sym goes) before)

-- nothing happened
pub nothing_done : {H : Type 0} (may : May H) (old : H) (passes : Passes) (v : ExchangeValue) (ready : List ℕ) → Turns may old old passes v ready v ready
nothing_done may old passes v ready asked told stands =
    ([], [], refl, subst (λ (l : List Request). Stands passes v ready l (told ++ [])) (sym (append-nil asked)) (subst (λ (l : List Reply). Stands passes v ready asked l) (sym (append-nil told)) stands))

-- and then nothing more was answered
pub then_stays : {H : Type 0} (may : May H) (old new : H) (passes : Passes) (v w u : ExchangeValue) (ready out more : List ℕ) → Turns may old new passes v ready w out → Stays passes w out u more → Turns may old new passes v ready u more
then_stays may old new passes v w u ready out more turns stays asked told stands =
    let t = turns asked told stands in
    (t.0, t.1, t.2, stays (asked ++ t.0) (told ++ t.1) t.3)

-- ---- what is answered

-- nothing but the session changed
abbrev pub after_step : ExchangeValue → SessionValue → Option Ended → ExchangeValue
after_step v session ended = record v { session = session; ended = ended }

answered_so : (passes : Passes) (v : ExchangeValue) (got ready out : List ℕ) (session : SessionValue) (step : Step) (asked qs : List Request) (told rs : List Reply)
    → (g : Goes passes v ready asked told) → SaysSo step (asked ++ qs) (told ++ rs) got (text_of v.out ++ out) session → got ≡ g.given ++ g.tail
    → Stands passes (after_step v session (end_of step)) out (asked ++ qs) (told ++ rs)
answered_so passes v got ready out session steps.GoesOn asked qs told rs g says e =
    goes_with passes v session v.out None ready out asked (asked ++ qs) told (told ++ rs) g (subst (λ (l : List ℕ). Says (asked ++ qs) (told ++ rs) l (text_of v.out ++ out) session) e says)
answered_so passes v got ready out session steps.Full asked qs told rs g says e =
    goes_with passes v session v.out None ready out asked (asked ++ qs) told (told ++ rs) g (subst (λ (l : List ℕ). Says (asked ++ qs) (told ++ rs) l (text_of v.out ++ out) session) e says)
answered_so passes v got ready out session (steps.Waits t milliseconds) asked qs told rs g says e =
    goes_with passes v session v.out None ready out asked (asked ++ qs) told (told ++ rs) g (subst (λ (l : List ℕ). Says (asked ++ qs) (told ++ rs) l (text_of v.out ++ out) session) e says)
answered_so passes v got ready out session (steps.Ended ended) asked qs told rs g said e =
    went_with passes v (after_step v session (Some ended)) ready out asked (asked ++ qs) told (told ++ rs) refl g (subst (λ (l : List ℕ). Said (asked ++ qs) (told ++ rs) l (text_of v.out ++ out)) e said.0)
    (λ is. absurd (by_fault ended said.1 is))

got_nothing : (step : Step) (got bytes : List ℕ) → GotSo step got bytes [] → got ≡ bytes
got_nothing steps.GoesOn got bytes e = e ∙ append-nil bytes
got_nothing steps.Full got bytes e = e ∙ append-nil bytes
got_nothing (steps.Waits t milliseconds) got bytes e = e ∙ append-nil bytes
got_nothing (steps.Ended ended) got bytes (inl e) = e ∙ append-nil bytes
got_nothing (steps.Ended ended) got bytes (inr e) = e

pub goes_of : (passes : Passes) (v : ExchangeValue) (ready : List ℕ) (asked : List Request) (told : List Reply) → v.ended ≡ None → Stands passes v ready asked told → Goes passes v ready asked told
goes_of passes v ready asked told goes stands =
    subst (λ (e : Option Ended). MatchBool (is_some e) (Went passes v ready asked told) (Goes passes v ready asked told)) goes stands

pub answered : {H : Type 0} (may : May H) (old new : H) (passes : Passes) (v : ExchangeValue) (ready out : List ℕ) (w : Bool) (session : SessionValue) (step : Step)
    → v.ended ≡ None → Takes 2 may old new v.session session [] w ready out step → Turns may old new passes v ready (after_step v session (end_of step)) out
answered may old new passes v ready out w session step goes takes asked told stands =
    let g = goes_of passes v ready asked told goes stands in
    let k = took may old new asked told (g.given ++ g.tail) (text_of v.out) [] ready out w step v.session session g.says takes in
    (k.0, k.1, k.3, answered_so passes v k.2 ready out session step asked k.0 told k.1 g k.4 (got_nothing step k.2 (g.given ++ g.tail) k.5))

-- the first of two requests that are the same one
abbrev or_first : Request → Option Request → Request
or_first request None = request
or_first request (Some first) = first

told_says : (asked : List Request) (told : List Reply) (bytes text : List ℕ) (s after : SessionValue) (request : Request) (reply : Reply)
    → Says asked told bytes text s → AnswersFirst s after reply → first_of s.requests ≡ Some request → s.kept ≡ None → Says (asked ++ request ∷ []) (told ++ reply ∷ []) bytes text after
told_says asked told bytes text s after request reply h (inl (first, rest, is, free, so)) next none =
    let same : first ≡ request = ap (or_first request) (sym (ap first_of is) ∙ next) in
    subst (λ (t : SessionValue). Says (asked ++ request ∷ []) (told ++ reply ∷ []) bytes text t) (sym so)
    (says_next asked told bytes text s request rest reply h (is ∙ ap (λ (q : Request). q ∷ rest) same) free)
told_says asked told bytes text s after request reply h (inr (inl empty, same)) next none = absurd (true≢false (ap is_some (sym next ∙ ap first_of empty)))
told_says asked told bytes text s after request reply h (inr (inr kept, same)) next none = absurd (kept none)

-- the next request was answered
pub told_next : (v : ExchangeValue) (session : SessionValue) (reply : Reply) → AnswersFirst v.session session reply → Told v (record v { session = session }) reply
told_next v session reply answers request next passes ready asked told stands =
    let w = record v { session = session } in
    let g = goes_of passes v ready asked told next.0 stands in
    let more = asked ++ request ∷ [] in
    let all = told ++ reply ∷ [] in
    subst (λ (e : Option Ended). MatchBool (is_some e) (Went passes w ready more all) (Goes passes w ready more all)) (sym next.0)
    (goes_with passes v session v.out v.ended ready ready asked more told all g
    (told_says asked told (g.given ++ g.tail) (text_of v.out ++ ready) v.session session request reply g.says answers next.1 next.2))

-- ---- the end of its input

-- what began a frame was handed on too, as it is
abbrev pub at_end : ExchangeValue → Place → List ℕ → SessionValue → Option Ended → ExchangeValue
at_end v place begun session ended = record v { place = place; begun = begun; session = session; is_at_end = true; ended = ended }

module _ (passes : Passes) (v : ExchangeValue) (ready : List ℕ) (asked : List Request) (told : List Reply) (g : Goes passes v ready asked told) (place : Place) (begun : List ℕ) (no_begun : begun ≡ []) where
  ended_parts : v.came ≡ g.passed ++ ((g.tail ++ v.begun) ++ (begun ++ v.rest))
  ended_parts = g.split ∙ ap (λ (l : List ℕ). g.passed ++ l) (sym (append_assoc g.tail v.begun v.rest)) ∙ ap (λ (l : List ℕ). g.passed ++ ((g.tail ++ v.begun) ++ (l ++ v.rest))) (sym no_begun)

  end_goes : (got out : List ℕ) (session : SessionValue) (qs : List Request) (rs : List Reply) → Says (asked ++ qs) (told ++ rs) got (text_of v.out ++ out) session → got ≡ (g.given ++ g.tail) ++ v.begun
      → Goes passes (at_end v place begun session None) out (asked ++ qs) (told ++ rs)
  end_goes got out session qs rs says e = record {
    passed = g.passed;
    given = g.given;
    tail = g.tail ++ v.begun;
    there = g.there;
    hands = g.hands;
    split = ended_parts;
    goes_on = λ is. absurd (true≢false is);
    one = inl no_begun;
    says = subst (λ (l : List ℕ). Says (asked ++ qs) (told ++ rs) l (text_of v.out ++ out) session) (e ∙ append_assoc g.given g.tail v.begun) says;
  }

  end_stands : (got out : List ℕ) (session : SessionValue) (step : Step) (qs : List Request) (rs : List Reply)
      → SaysSo step (asked ++ qs) (told ++ rs) got (text_of v.out ++ out) session → GotSo step got (g.given ++ g.tail) v.begun
      → Stands passes (at_end v place begun session (end_of step)) out (asked ++ qs) (told ++ rs)
  end_stands got out session steps.GoesOn qs rs says e = end_goes got out session qs rs says e
  end_stands got out session steps.Full qs rs says e = end_goes got out session qs rs says e
  end_stands got out session (steps.Waits t milliseconds) qs rs says e = end_goes got out session qs rs says e
  end_stands got out session (steps.Ended ended) qs rs said (inl e) = record {
    passed = g.passed;
    given = g.given;
    tail = g.tail ++ v.begun;
    dropped = begun ++ v.rest;
    there = g.there;
    hands = g.hands;
    split = ended_parts;
    said = subst (λ (l : List ℕ). Said (asked ++ qs) (told ++ rs) l (text_of v.out ++ out)) (e ∙ append_assoc g.given g.tail v.begun) said.0;
    whole = λ is. absurd (by_fault ended said.1 is);
  }
  end_stands got out session (steps.Ended ended) qs rs said (inr e) =
      went_with passes v (at_end v place begun session (Some ended)) ready out asked (asked ++ qs) told (told ++ rs) refl g (subst (λ (l : List ℕ). Said (asked ++ qs) (told ++ rs) l (text_of v.out ++ out)) e said.0)
      (λ is. absurd (by_fault ended said.1 is))

pub ended_input : {H : Type 0} (may : May H) (old new : H) (passes : Passes) (v : ExchangeValue) (place : Place) (begun ready out : List ℕ) (session : SessionValue) (step : Step)
    → v.ended ≡ None → begun ≡ [] → Takes 2 may old new v.session session v.begun false ready out step → Turns may old new passes v ready (at_end v place begun session (end_of step)) out
ended_input may old new passes v place begun ready out session step goes none takes asked told stands =
    let g = goes_of passes v ready asked told goes stands in
    let k = took may old new asked told (g.given ++ g.tail) (text_of v.out) v.begun ready out false step v.session session g.says takes in
    (k.0, k.1, k.3, end_stands passes v ready asked told g place begun none k.2 out session step k.0 k.1 k.4 k.5)

-- one that goes on rests
pub rests : {H : Type 0} (may : May H) (old new : H) (s r : SessionValue) (piece ready out : List ℕ) (w : Bool) (step : Step) → step ≡ steps.GoesOn → Takes 2 may old new s r piece w ready out step → IsResting r
rests may old new s r piece ready out w step goes (inl (read, k, t)) = (subst (λ (b : Step). SessionTurns may old new read r w ready out b) goes t).1
rests may old new s r piece ready out w step goes (inr (is, same, kept, none)) = absurd (false≢true (ap (λ (b : Step). is_some (end_of b)) (sym goes ∙ is)))

nothing_waits : (begun rest : List ℕ) → begun ≡ [] → rest ≡ [] → begun ++ rest ≡ []
nothing_waits begun rest none empty = ap (λ (l : List ℕ). l ++ rest) none ∙ empty

-- a session that rests, and is finished, with nothing more to be handed on
pub finished : {H : Type 0} (may : May H) (old new : H) (passes : Passes) (v w : ExchangeValue) (before ready out : List ℕ) (ended : Ended) (fresh : SessionValue)
    → Turns may old new passes v before w ready → w.ended ≡ None → w.begun ≡ [] → w.rest ≡ [] → IsResting w.session → Closes (fault_of w.session.left) ready out ended
    → Turns may old new passes v before (after_step w fresh (Some ended)) out
finished may old new passes v w before ready out ended fresh turns goes none empty rests closes asked told stands =
    let t = turns asked told stands in
    let g = goes_of passes w ready (asked ++ t.0) (told ++ t.1) goes t.3 in
    let said = closed (asked ++ t.0) (told ++ t.1) (g.given ++ g.tail) (text_of w.out) ready out w.session ended g.says rests.0 rests.1 closes in
    let all = λ (is : Some ended ≡ Some Clean). closed_all (asked ++ t.0) (told ++ t.1) (g.given ++ g.tail) (text_of w.out) ready out w.session ended g.says rests.0 rests.1 closes (ap or_memory is) in
    (t.0, t.1, t.2, went_with passes w (after_step w fresh (Some ended)) ready out (asked ++ t.0) (asked ++ t.0) (told ++ t.1) (told ++ t.1) refl g said (λ is. (nothing_waits w.begun w.rest none empty, all is)))

-- ---- what is written

in_both : {A B C D : Type 0} (b : Bool) → (A → C) → (B → D) → MatchBool b A B → MatchBool b C D
in_both true f g h = f h
in_both false f g h = g h

-- what was put behind what stands
pub put_so : (passes : Passes) (v : ExchangeValue) (ready out : List ℕ) (sent : Outgoing) → text_of sent ++ out ≡ text_of v.out ++ ready → Stays passes v ready (record v { out = sent }) out
put_so passes v ready out sent same asked told stands =
    in_both (is_some v.ended)
    (λ (w : Went passes v ready asked told). record {
      passed = w.passed;
      given = w.given;
      tail = w.tail;
      dropped = w.dropped;
      there = w.there;
      hands = w.hands;
      split = w.split;
      said = subst (λ (l : List ℕ). Said asked told (w.given ++ w.tail) l) (sym same) w.said;
      whole = λ is. ((w.whole is).0, ((w.whole is).1.0, same ∙ (w.whole is).1.1));
    })
    (λ (g : Goes passes v ready asked told). goes_with passes v v.session sent v.ended ready out asked asked told told g (subst (λ (l : List ℕ). Says asked told (g.given ++ g.tail) l v.session) (sym same) g.says))
    stands

-- of what was said a front is left
shorter : (asked : List Request) (told : List Reply) (bytes text part : List ℕ) → Said asked told bytes text → IsPrefixOf part text → Said asked told bytes part
shorter asked told bytes text part h front = record {
  waiting = h.waiting;
  left = h.left;
  reads = h.reads;
  front = (front.0 ++ h.front.0, sym (append_assoc part front.0 h.front.0) ∙ ap (λ (l : List ℕ). l ++ h.front.0) front.1 ∙ h.front.1);
}

any_went : (passes : Passes) (v : ExchangeValue) (ready : List ℕ) (asked : List Request) (told : List Reply) (b : Bool) → is_some v.ended ≡ b → MatchBool b (Went passes v ready asked told) (Goes passes v ready asked told)
    → Went passes v ready asked told
any_went passes v ready asked told true is h = h
any_went passes v ready asked told false is h = went passes v ready asked told is h

-- not cleanly, or as before and with the same that was said
abbrev pub EndsSo : ExchangeValue → List ℕ → ExchangeValue → List ℕ → Type 0
EndsSo v ready w out = IsUnclean w.ended ⊎ ((w.ended ≡ v.ended) × (text_of w.out ++ out ≡ text_of v.out ++ ready))

still_whole : (v w : ExchangeValue) (ready out bytes dropped : List ℕ) (asked : List Request) (told : List Reply) → EndsSo v ready w out
    → (v.ended ≡ Some Clean → (dropped ≡ []) × SaidAll asked told bytes (text_of v.out ++ ready)) → w.ended ≡ Some Clean → (dropped ≡ []) × SaidAll asked told bytes (text_of w.out ++ out)
still_whole v w ready out bytes dropped asked told (inl never) whole is = absurd (never is)
still_whole v w ready out bytes dropped asked told (inr (ended, same)) whole is =
    let h = whole (sym ended ∙ is) in
    (h.0, (h.1.0, same ∙ h.1.1))

-- it is over, and of what was said a front is left
pub cut_so : (passes : Passes) (v w : ExchangeValue) (ready out : List ℕ) → w.came ≡ v.came → is_some w.ended ≡ true → EndsSo v ready w out → IsPrefixOf (text_of w.out ++ out) (text_of v.out ++ ready)
    → Stays passes v ready w out
cut_so passes v w ready out came over ends front asked told stands =
    let h = any_went passes v ready asked told (is_some v.ended) refl stands in
    let is : Went passes w out asked told = record {
      passed = h.passed;
      given = h.given;
      tail = h.tail;
      dropped = h.dropped;
      there = h.there;
      hands = h.hands;
      split = came ∙ h.split;
      said = shorter asked told (h.given ++ h.tail) (text_of v.out ++ ready) (text_of w.out ++ out) h.said front;
      whole = still_whole v w ready out (h.given ++ h.tail) h.dropped asked told ends h.whole;
    } in
    subst (λ (b : Bool). MatchBool b (Went passes w out asked told) (Goes passes w out asked told)) (sym over) is

-- what stands is dropped, behind a front of it and of what was ready
pub cut_front : (o n : Outgoing) (ready front rest : List ℕ) → o.standing ++ ready ≡ front ++ rest → n.sent ≡ o.sent ++ front → n.standing ≡ [] → IsPrefixOf (text_of n ++ []) (text_of o ++ ready)
cut_front o n ready front rest split sent none =
    let part : text_of n ++ [] ≡ o.sent ++ front =
    append-nil (text_of n) ∙ ap (λ (l : List ℕ). n.sent ++ l) none ∙ append-nil n.sent ∙ sent in
    let all : (o.sent ++ front) ++ rest ≡ text_of o ++ ready =
    append_assoc o.sent front rest ∙ ap (λ (l : List ℕ). o.sent ++ l) (sym split) ∙ sym (append_assoc o.sent o.standing ready) in
    (rest, ap (λ (l : List ℕ). l ++ rest) part ∙ all)

-- ---- what comes

-- bytes came behind what is kept back, and wait with it
pub arrived : {H : Type 0} (may : May H) (old new : H) (passes : Passes) (v w u : ExchangeValue) (came ready out : List ℕ) → v.ended ≡ None → v.rest ≡ [] → w ≡ record v { came = v.came ++ came }
    → Turns may old new passes (waiting w (v.begun ++ came)) ready u out → Turns may old new passes v ready u out
arrived may old new passes v w u came ready out goes none is turns asked told stands =
    let g = goes_of passes v ready asked told goes stands in
    let split : v.came ++ came ≡ g.passed ++ (g.tail ++ ([] ++ (v.begun ++ came))) =
    ap (λ (l : List ℕ). l ++ came) g.split ∙ append_assoc g.passed (g.tail ++ (v.begun ++ v.rest)) came ∙ ap (λ (l : List ℕ). g.passed ++ l) (append_assoc g.tail (v.begun ++ v.rest) came)
    ∙ ap (λ (l : List ℕ). g.passed ++ (g.tail ++ ((v.begun ++ l) ++ came))) none ∙ ap (λ (l : List ℕ). g.passed ++ (g.tail ++ (l ++ came))) (append-nil v.begun) in
    let next = record v { came = v.came ++ came } in
    let before : Goes passes (waiting next (v.begun ++ came)) ready asked told = record {
      passed = g.passed;
      given = g.given;
      tail = g.tail;
      there = g.there;
      hands = g.hands;
      split = split;
      goes_on = g.goes_on;
      one = inl refl;
      says = g.says;
    } in
    let so = subst (λ (e : Option Ended). MatchBool (is_some e) (Went passes (waiting next (v.begun ++ came)) ready asked told) (Goes passes (waiting next (v.begun ++ came)) ready asked told)) (sym goes) before in
    turns asked told (subst (λ (x : ExchangeValue). Stands passes (waiting x (v.begun ++ came)) ready asked told) (sym is) so)

-- a look changes nothing of what came, and nothing of what goes
look_came : (v : ExchangeValue) (then : Then) (l : List ℕ) → (behind_look v then l).came ≡ v.came
look_came v Reads l = refl
look_came v Pauses l = refl
look_came v Moves l = refl

look_out : (v : ExchangeValue) (then : Then) (l : List ℕ) → (behind_look v then l).out ≡ v.out
look_out v Reads l = refl
look_out v Pauses l = refl
look_out v Moves l = refl

look_ended : (v : ExchangeValue) (then : Then) (l : List ℕ) → (behind_look v then l).ended ≡ v.ended
look_ended v Reads l = refl
look_ended v Pauses l = refl
look_ended v Moves l = refl

ends_with : (v w : ExchangeValue) (ready : List ℕ) (why : Ended) → w.out ≡ v.out → w.ended ≡ after_cut v.ended why → IsUnclean (after_cut v.ended why) ⊎ (after_cut v.ended why ≡ v.ended) → EndsSo v ready w ready
ends_with v w ready why out is (inl never) = inl (λ clean. never (sym is ∙ clean))
ends_with v w ready why out is (inr same) = inr (is ∙ same, ap (λ (o : Outgoing). text_of o ++ ready) out)

-- it is cut off, with the same
pub over_with : (passes : Passes) (v w : ExchangeValue) (ready : List ℕ) (why : Ended) → w.came ≡ v.came → w.out ≡ v.out → w.ended ≡ after_cut v.ended why → Stays passes v ready w ready
over_with passes v w ready why came out is =
    cut_so passes v w ready ready came (ap is_some is ∙ cut_ends v.ended why) (ends_with v w ready why out is (cut_same v.ended why)) ([], append-nil (text_of w.out ++ ready) ∙ ap (λ (o : Outgoing). text_of o ++ ready) out)

pub over_behind : (passes : Passes) (v w : ExchangeValue) (then : Then) (l ready : List ℕ) (why : Ended) → w.came ≡ v.came → w.out ≡ v.out → w.ended ≡ after_cut v.ended why → Stays passes (behind_look v then l) ready w ready
over_behind passes v w then l ready why came out is =
    over_with passes (behind_look v then l) w ready why (came ∙ sym (look_came v then l)) (out ∙ sym (look_out v then l)) (is ∙ ap (λ (e : Option Ended). after_cut e why) (sym (look_ended v then l)))

-- it is over, and what stood is dropped
pub dropped_with : (passes : Passes) (v w : ExchangeValue) (ready out : List ℕ) (why : Ended) → w.came ≡ v.came → w.ended ≡ after_drop v.ended why → IsPrefixOf (text_of w.out ++ out) (text_of v.out ++ ready) → Stays passes v ready w out
dropped_with passes v w ready out why came is front =
    cut_so passes v w ready out came (ap is_some is ∙ drop_ends v.ended why) (inl (λ clean. drop_unclean v.ended why (sym is ∙ clean))) front

-- ---- what the socket took

-- all that was said was taken
all_taken : (o : Outgoing) (ready : List ℕ) → o.standing ≡ [] → ready ≡ [] → o.sent ≡ text_of o ++ ready
all_taken o ready none empty = sym (append-nil o.sent) ∙ ap (λ (l : List ℕ). o.sent ++ l) (sym none) ∙ sym (append-nil (text_of o)) ∙ ap (λ (l : List ℕ). text_of o ++ l) (sym empty)

pub served : ServedLaw
served passes v ready asked told stands =
    let h = any_went passes v ready asked told (is_some v.ended) refl stands in
    record {
      passed = h.passed;
      given = h.given;
      tail = h.tail;
      others = h.dropped;
      there = h.there;
      hands = h.hands;
      split = h.split;
      said = shorter asked told (h.given ++ h.tail) (text_of v.out ++ ready) v.out.sent h.said (v.out.standing ++ ready, sym (append_assoc v.out.sent v.out.standing ready));
      whole = λ is none empty. ((h.whole is).0, ((h.whole is).1.0, all_taken v.out ready none empty ∙ (h.whole is).1.1));
    }

-- ---- at the start

pub starts : (passes : Passes) → Stands passes start [] [] []
starts passes = record {
  passed = [];
  given = [];
  tail = [];
  there = inside 0 0;
  hands = hands_nothing passes (inside 0 0) refl;
  split = refl;
  goes_on = λ _. (refl, refl);
  one = inl refl;
  says = record { reads = ([], refl, (refl, tt, inl (omega arith))); said = []; order = refl; appends = refl };
}
