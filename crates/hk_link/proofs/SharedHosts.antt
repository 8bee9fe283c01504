-- What sessions have that share a host.
use Rattle.std.proofs.Common.{◌≡◌, ℕ, Bool, true, false, cond, eqb, List, [], ◌∷◌, ◌++◌, refl, sym, ap, subst, ◌∙◌, inl, inr}
use Rattle.std.proofs.lemmas.Bool.{eqb-true}
use Rattle.std.specs.List.{AllByRecursion}
use mathlib.Core.List.{IsPrefix}
use Rattle.hk_messages.specs.declared.request.Request.{Request}
use Rattle.hk_messages.specs.declared.reply.Reply.{Reply}
use Rattle.hk_session_parts.specs.Sessions.{SessionValue, Takes, Turn, Turns}
use Rattle.hk_session_parts.specs.Transcript.{Answers, May}
use Rattle.hk_session_parts.specs.declared.ended.Ended.TheVariants.{Clean, Fault, Memory, ReadFault, WriteFault}
use Rattle.hk_session_parts.specs.declared.step.Step.{Step}
use Rattle.hk_session_parts.specs.declared.step.Step.TheVariants as steps
use Rattle.hk_session_parts.proofs.SessionStands.{continues_takes}
use Rattle.hk_oplog.specs.declared.op.Op.{Op}
use Rattle.hk_link_state.specs.LaterReplying.{MayReplyBoth}
use Rattle.hk_link_state.specs.LinkStates.{LinkValue, link_of}
use Rattle.hk_link_state.specs.NodeSides.{GoesOn, Sided}
use Rattle.hk_link.specs.Sharing.{AnswersAmong, EachAmong, Goes, GoesOnStanding, LinkGoesOn, MayAmong, MayMove, OnlyGrow, SeatGoesOn, SessionTurn, Share, alone, asked_by, link_list, told_to, with_own}
use Rattle.hk_link.proofs.BothSeen.{both_seen}
use Rattle.hk_link_state.proofs.Seen.{goes_seen, same_prefix, then_prefix}

-- a host that goes on may stay as it is, and go on further, by itself or where it answers another session; its list begins with
-- the one before, also where it answers
record IsGoing {S K H : Type 0} (beside : S → K → H) (goes : Goes S) (goes_on : Goes H) (may : May H) (list : H → List Op) : Type 0 where
  stays : (h : H) → goes_on h h
  further : (a b c : H) → goes_on a b → goes_on b c → goes_on a c
  by_itself : (s next : S) (k : K) → goes s next → goes_on (beside s k) (beside next k)
  others : (s next : S) (k own other : K) (qs : List Request) (rs : List Reply) → Answers may (beside s k) qs rs (beside next own) → goes_on (beside s other) (beside next other)
  grows : (a b : H) → goes_on a b → IsPrefix (list a) (list b)
  answers : (a : H) (q : Request) (r : Reply) (b : H) → may a q r b → IsPrefix (list a) (list b)

module _ {S K H : Type 0} (beside : S → K → H) (goes : Goes S) (goes_on : Goes H) (may : May H) (list : H → List Op) (is : IsGoing beside goes goes_on may list) where
  -- it goes on before
  first_goes : (old mid new : H) (qs : List Request) (rs : List Reply) → goes_on old mid → AnswersAmong goes_on may mid qs rs new → AnswersAmong goes_on may old qs rs new
  first_goes old mid new [] [] g h = (old, refl, is.further old h.0 new (subst (goes_on old) (sym h.1) g) h.2)
  first_goes old mid new (q ∷ qs) (r ∷ rs) g h = (h.0, (h.1.0, (h.1.1.0, is.further old mid h.1.1.0 g h.1.1.1, h.1.1.2), h.1.2), h.2)
  first_goes old mid new [] (r ∷ rs) g h = absurd h.1
  first_goes old mid new (q ∷ qs) [] g h = absurd h.1

  moved : MayMove goes_on may
  moved old mid other new [] more_qs [] more_rs g on h = first_goes old other new more_qs more_rs (is.further old mid other (subst (λ (l : H). goes_on l mid) g.1 g.2) on) h
  moved old mid other new (q ∷ qs) more_qs (r ∷ rs) more_rs g on h =
      let rest = moved g.1.0 mid other new qs more_qs rs more_rs (g.0, g.1.2, g.2) on h in
      (rest.0, (g.1.0, g.1.1, rest.1), rest.2)
  moved old mid other new [] more_qs (r ∷ rs) more_rs g on h = absurd g.1
  moved old mid other new (q ∷ qs) more_qs [] more_rs g on h = absurd g.1

  -- what is answered in one turn
  as_among : (old new : H) (qs : List Request) (rs : List Reply) → Answers may old qs rs new → Answers (MayAmong goes_on may) old qs rs new
  as_among old new [] [] same = same
  as_among old new (q ∷ qs) (r ∷ rs) h = (h.0, (old, is.stays old, h.1), as_among h.0 new qs rs h.2)
  as_among old new [] (r ∷ rs) h = absurd h
  as_among old new (q ∷ qs) [] h = absurd h

  own_turn : (old mid new : H) (qs more_qs : List Request) (rs more_rs : List Reply) → Answers may old qs rs mid → AnswersAmong goes_on may mid more_qs more_rs new
      → AnswersAmong goes_on may old (qs ++ more_qs) (rs ++ more_rs) new
  own_turn old mid new qs more_qs rs more_rs g h = moved old mid mid new qs more_qs rs more_rs (mid, as_among old mid qs rs g, is.stays mid) (is.stays mid) h

  -- ---- where it stands

  unfoldable turn_among : (old host new : H) (before after : SessionValue) (has_waited : Bool) (ready out : List ℕ) → goes_on old host → Turn may host new before after has_waited ready out
      → (last : H) × Turn (MayAmong goes_on may) old last before after has_waited ready out × goes_on last new
  turn_among old host new before after has_waited ready out g turn =
      let h = first_goes old host new turn.answered turn.replies g (new, as_among host new turn.answered turn.replies turn.answers, is.stays new) in
      (h.0, record { answered = turn.answered; order = turn.order; waited = turn.waited; replies = turn.replies; answers = h.1; said = turn.said; kept = turn.kept; more = turn.more; added = turn.added; told = turn.told; few = turn.few; same = turn.same }, h.2)

  turns_among : (old host new : H) (before after : SessionValue) (has_waited : Bool) (ready out : List ℕ) (step : Step) → goes_on old host → Turns may host new before after has_waited ready out step
      → (last : H) × Turns (MayAmong goes_on may) old last before after has_waited ready out step × goes_on last new
  unfolding turn_among
  turns_among old host new before after has_waited ready out steps.GoesOn g h = let k = turn_among old host new before after has_waited ready out g h.0 in (k.0, (k.1, h.1), k.2)
  turns_among old host new before after has_waited ready out steps.Full g h = let k = turn_among old host new before after has_waited ready out g h.0 in (k.0, (k.1, h.1), k.2)
  turns_among old host new before after has_waited ready out (steps.Waits t milliseconds) g h =
      let k = turn_among old host new before after has_waited ready out g h.0 in (k.0, (k.1, h.1, h.2, h.3), k.2)
  turns_among old host new before after has_waited ready out (steps.Ended (Fault f)) g h =
      let k = turn_among old host new before after has_waited ready h.0 g h.1 in (k.0, (h.0, k.1, h.2, h.3, h.4, h.5), k.2)
  turns_among old host new before after has_waited ready out (steps.Ended Memory) g h = let k = turn_among old host new before after has_waited ready out g h.0 in (k.0, (k.1, h.1), k.2)
  turns_among old host new before after has_waited ready out (steps.Ended Clean) g h = absurd h
  turns_among old host new before after has_waited ready out (steps.Ended ReadFault) g h = absurd h
  turns_among old host new before after has_waited ready out (steps.Ended WriteFault) g h = absurd h

  takes_among : (latest : ℕ) (old host new : H) (before after : SessionValue) (piece : List ℕ) (has_waited : Bool) (ready out : List ℕ) (step : Step) → goes_on old host
      → Takes latest may host new before after piece has_waited ready out step → (last : H) × Takes latest (MayAmong goes_on may) old last before after piece has_waited ready out step × goes_on last new
  takes_among latest old host new before after piece has_waited ready out step g (inl (read, r, h)) =
      let k = turns_among old host new read after has_waited ready out step g h in (k.0, inl (read, r, k.1), k.2)
  takes_among latest old host new before after piece has_waited ready out step g (inr (is, same, kept, none)) = (old, inr (is, refl, kept, none), subst (goes_on old) (sym same) g)

  goes_on_standing : GoesOnStanding goes_on may
  goes_on_standing latest start old host new bytes text piece ready out before after has_waited step stands g takes =
      let k = takes_among latest stands.0 host new before after piece has_waited ready out step (is.further stands.0 old host stands.2 g) takes in
      let c = continues_takes latest (MayAmong goes_on may) stands.0 k.0 before after piece has_waited ready out step k.1 in
      (c.0, c.1, (k.0, c.2 start bytes text stands.1, k.2))

  -- ---- all

  -- a turn, the session's own or that of another
  one_turn : (s next : S) (kept : ℕ → K) (own : K) (new : H) (t : SessionTurn) (n : ℕ) (qs : List Request) (rs : List Reply)
      → Answers may (beside s (kept t.session)) t.requests t.replies (beside next own) → (b : Bool) → eqb t.session n ≡ b
      → AnswersAmong goes_on may (beside next (cond b own (kept n))) qs rs new → AnswersAmong goes_on may (beside s (kept n)) (cond b (t.requests ++ qs) qs) (cond b (t.replies ++ rs) rs) new
  one_turn s next kept own new t n qs rs told true same h =
      subst (λ (m : ℕ). AnswersAmong goes_on may (beside s (kept m)) (t.requests ++ qs) (t.replies ++ rs) new) (eqb-true t.session n same)
      (own_turn (beside s (kept t.session)) (beside next own) new t.requests qs t.replies rs told h)
  one_turn s next kept own new t n qs rs told false other h =
      first_goes (beside s (kept n)) (beside next (kept n)) new qs rs (is.others s next (kept t.session) own (kept n) t.requests t.replies told) h

  each_among : EachAmong beside goes goes_on may
  each_among host host_after kept kept_after [] taken n =
      (beside host (kept n), refl, subst (goes_on (beside host (kept n))) (ap (beside host_after) (sym (taken.1 n))) (is.by_itself host host_after (kept n) taken.0))
  each_among host host_after kept kept_after (t ∷ ts) taken n =
      first_goes (beside host (kept n)) (beside taken.0 (kept n)) (beside host_after (kept_after n)) (asked_by n (t ∷ ts)) (told_to n (t ∷ ts)) (is.by_itself host taken.0 (kept n) taken.1)
      (one_turn taken.0 taken.2 kept taken.3 (beside host_after (kept_after n)) t n (asked_by n ts) (told_to n ts) taken.4 (eqb t.session n) refl
      (each_among taken.2 host_after (with_own kept t.session taken.3) kept_after ts taken.5 n))

  all_longer : (a b : List Op) (lists : List (List Op)) → IsPrefix a b → AllByRecursion (IsPrefix b) lists → AllByRecursion (IsPrefix a) lists
  all_longer a b [] p all = all
  all_longer a b (c ∷ lists) p all = (then_prefix a b c p all.0, all_longer a b lists p all.1)

  only_grow : OnlyGrow list goes_on may
  only_grow old new [] [] h = ([], tt, ((is.grows old new (subst (λ (l : H). goes_on l new) h.1 h.2), tt), (tt, tt)))
  only_grow old new (q ∷ qs) (r ∷ rs) h =
      let mid = h.1.0 in
      let own = h.1.1 in
      let rest = only_grow mid new qs rs (h.0, h.1.2, h.2) in
      let step = then_prefix (list old) (list own.0) (list mid) (is.grows old own.0 own.1) (is.answers own.0 q r mid own.2) in
      (list mid ∷ rest.0, ((own.0, mid, own.2, refl), rest.1), ((step, all_longer (list old) (list mid) (rest.0 ++ list new ∷ []) step rest.2.0), rest.2))
  only_grow old new [] (r ∷ rs) h = absurd h.1
  only_grow old new (q ∷ qs) [] h = absurd h.1

  share : Share beside goes goes_on may list
  share = record { each = each_among; stands = goes_on_standing; moved = moved; grown = only_grow }

-- ---- over a node

seat_going : {S : Type 0} (side : Sided S) (may : May S) → GoesOn side may → IsGoing alone (SeatGoesOn side) (SeatGoesOn side) may side.list
seat_going side may goes = record {
  stays = λ h. same_prefix (side.list h) (side.list h) refl;
  further = λ a b c p q. then_prefix (side.list a) (side.list b) (side.list c) p q;
  by_itself = λ s next k g. g;
  others = λ s next k own other qs rs h. goes_seen side may goes s next qs rs h;
  grows = λ a b g. g;
  answers = λ a q r b h. goes a q r b h;
}

pub seats_share : {S : Type 0} (side : Sided S) (may : May S) → GoesOn side may → Share alone (SeatGoesOn side) (SeatGoesOn side) may side.list
seats_share side may goes = share alone (SeatGoesOn side) (SeatGoesOn side) may side.list (seat_going side may goes)

link_going : {S : Type 0} (side : Sided S) (may : May S) → IsGoing link_of (SeatGoesOn side) (LinkGoesOn side) (MayReplyBoth side may) (link_list side)
link_going {S} side may = record {
  stays = λ h. (same_prefix (link_list side h) (link_list side h) refl, refl);
  further = λ a b c p q. (then_prefix (link_list side a) (link_list side b) (link_list side c) p.0 q.0, q.1 ∙ ap (λ (l : LinkValue S). record l { inner = c.inner }) p.1);
  by_itself = λ s next k g. (g, refl);
  others = λ s next k own other qs rs h. (both_seen side may (link_of s k) (link_of next own) qs rs h, refl);
  grows = λ a b g. g.0;
  answers = λ a q r b h. h.0;
}

pub links_share : {S : Type 0} (side : Sided S) (may : May S) → Share link_of (SeatGoesOn side) (LinkGoesOn side) (MayReplyBoth side may) (link_list side)
links_share side may = share link_of (SeatGoesOn side) (LinkGoesOn side) (MayReplyBoth side may) (link_list side) (link_going side may)
