-- A taking of items: which tests refuse it, and that it does not damage the node.
use Rattle.std.proofs.Common.{◌≡◌, ◌^◌, ◌==◌, ◌&&◌, if◌then◌else◌, Bool, true, false, cond, not, length, List, [], ◌∷◌, ◌++◌, Option, Some, None, Result, Ok, Err, inl, inr, refl, sym, ap, ◌∙◌, subst, true≢false, eq-eqb}
use Rattle.std.proofs.lemmas.List.{append-nil}
use Rattle.std.specs.Prelude.{nat_lt}
use Rattle.std.specs.FinSet as set
use Rattle.std.specs.List.{list_any}
use Rattle.hk_types.specs.declared.faults.Refusal.{Refusal}
use Rattle.hk_types.specs.declared.faults.Refusal.TheVariants.{ForeignLog, WrongStreams, Gap, Conflict, Damaged, NodeFull, Unpublished, Memory}
use Rattle.hk_log.specs.declared.item.Item.{Item}
use Rattle.hk_log.specs.declared.item.Item.TheVariants.{Commit, Closed}
use Rattle.hk_model.specs.declared.took.Took.TheVariants.{Taken, Repeated}
use Rattle.hk_model.specs.Replica.Content.{Content, readable}
use Rattle.hk_model.specs.Replica.Fragments.{FragmentValue}
use Rattle.hk_model.specs.Replica.Items.{log_of, stream_no, wrong_log}
use Rattle.hk_model.specs.Replica.Maps.{or_else}
use Rattle.hk_model.specs.Replica.Touches.{join_touches_past}
use Rattle.hk_model.specs.Replica.Rules.{absorb_result, take_result_unless, with_items, entry_conflicts, contents_conflict, content_after_join, join_result}
use Rattle.hk_model.specs.Replica.Streams.{stream_at}
use Rattle.hk_model.proofs.Replica.Streams.{no_gap_at_0}
use Rattle.hk_delta.specs.Agreeing.{content_taken, then_take, take_all, absorb_all, taken_items, fragment_of_taken}
use Rattle.hk_delta.specs.Repeats.{stands_otherwise, if_as_told, absorb_so}
use Rattle.hk_delta.proofs.ComparedRepeats.{absorbed_so}
use Rattle.hk_state.proofs.WrongLogs.{count_streams}
use Rattle.hk_oplog.specs.declared.op.Op.{Op}
use Rattle.hk_oplog.specs.declared.op.Op.TheVariants.{Join}
use Rattle.hk_oplog.specs.NodeContent.{NodeContent}
use Rattle.hk_oplog.specs.Replay.{least_hold, passed_hold, full_refusal, refusal_of, after_join, replay, is_legal}
use Rattle.hk_node.specs.Changes.{Lists, all_of, AddsTo, IsCaughtUp}
use Rattle.hk_oplog.specs.Guarded.{damage_refusal, refusal_in, take_refusal, join_of_taken, AgreesWith}
use Rattle.hk_node.specs.Guarded.{RefusesTested, ChangesTested, IsAsSound, HasTaken, TakesItems}
use Rattle.hk_oplog.proofs.LegalLists.{replay-snoc, applied-is}

-- ---- refusals of tests

-- whether a refusal is that of a test, or a conflict
abbrev is_plain : Refusal → Bool
is_plain Memory = false
is_plain (Unpublished n) = false
is_plain why = true

abbrev ArePlain : Option Refusal → Type 0
ArePlain None = Unit {0}
ArePlain (Some why) = is_plain why ≡ true

if_plain : (b : Bool) (why : Refusal) (o : Option Refusal) → is_plain why ≡ true → ArePlain o → ArePlain (cond b (Some why) o)
if_plain true why o p q = p
if_plain false why o p q = q

full_plain : (c : NodeContent) → ArePlain (full_refusal c)
full_plain c = go (nat_lt c.op_count (2 ^ 62))
  where
    go : (b : Bool) → ArePlain (if b then None else Some NodeFull)
    go true = tt
    go false = refl

abbrev IsPlainResult : Result Content Refusal → Type 0
IsPlainResult (Ok c) = Unit {0}
IsPlainResult (Err why) = is_plain why ≡ true

absorb_plain : (c : Content) (x : Item) → IsPlainResult (content_taken (absorb_result c x))
absorb_plain c (Closed m) = tt
absorb_plain c (Commit e) = by (set.contains (stream_at c.streams e.stream).taken e.number) (entry_conflicts c e)
  where
    by : (a b : Bool) → IsPlainResult (content_taken (cond a (Ok (Repeated, c)) (cond b (Err Conflict) (Ok (Taken, with_items c (Commit e ∷ []))))))
    by true b = tt
    by false true = refl
    by false false = tt

unless_plain : (c : Content) (x : Item) (o : Option Refusal) → ArePlain o → IsPlainResult (content_taken (take_result_unless c x o))
unless_plain c x None p = absorb_plain c x
unless_plain c x (Some why) p = p

step_plain : (r : Result Content Refusal) (x : Item) → IsPlainResult r → IsPlainResult (then_take r x)
step_plain (Err why) x p = p
step_plain (Ok c) x p =
    unless_plain c x (wrong_log c.log (length c.streams) x)
    (if_plain (not (log_of x == c.log)) ForeignLog _ refl (if_plain (nat_lt (length c.streams) (stream_no x)) WrongStreams None refl tt))

all_plain : (items : List Item) (r : Result Content Refusal) → IsPlainResult r → IsPlainResult (take_all r items)
all_plain [] r p = p
all_plain (x ∷ xs) r p = all_plain xs (then_take r x) (step_plain r x p)

so_plain : (b : Bool) (c : Content) (items : List Item) → IsPlainResult (absorb_so b c items)
so_plain false c items = all_plain items (Ok c) tt
so_plain true c items = by (absorb_all c items) (all_plain items (Ok c) tt)
  where
    by : (r : Result Content Refusal) → IsPlainResult r → IsPlainResult (if_as_told items r)
    by (Err why) p = p
    by (Ok d) p = choose (list_any (stands_otherwise d) items)
      where
        choose : (b : Bool) → IsPlainResult (cond b (Err Conflict) (Ok d))
        choose true = refl
        choose false = tt

-- ---- what was added

up_to_date : (old new : Lists) → IsCaughtUp old new → all_of new ≡ all_of old
up_to_date old new up = ap all_of up ∙ append-nil (all_of old)

pub caught_up_sound : (old new : Lists) → IsCaughtUp old new → IsAsSound old new
caught_up_sound old new up = ap (λ (l : List Op). (replay l).damaged) (up_to_date old new up)

module _ (old : Lists) (legal : is_legal (all_of old) ≡ true) (f : FragmentValue) (d : Content) (whole : (replay (all_of old)).damaged ≡ false) (gave : join_result (replay (all_of old)).content f ≡ Ok d) where
  joined : refusal_of (replay (all_of old)) (Join f) ≡ None → replay (all_of old ++ Join f ∷ []) ≡ after_join (replay (all_of old)) (Ok d)
  joined none = replay-snoc (all_of old) (Join f) legal ∙ applied-is (replay (all_of old)) (Join f) none ∙ ap (after_join (replay (all_of old))) gave

  sound_after : refusal_of (replay (all_of old)) (Join f) ≡ None → (replay (all_of old ++ Join f ∷ [])).damaged ≡ false
  sound_after none = ap (λ (n : NodeContent). n.damaged) (joined none) ∙ whole

  tested : (first tests : Option Refusal) → first ≡ None → tests ≡ None → refusal_of (replay (all_of old)) (Join f) ≡ None → (r : Result (List Op) Refusal) (new : Lists) → AddsTo (all_of old) (Join f) r new → ChangesTested first tests old (Join f) r new
  tested first tests early passes none (Ok told) new h = (passes, h.0, h.1)
  tested first tests early passes none (Err Memory) new h = inr (early, h)
  tested first tests early passes none (Err (Unpublished n)) new h = (passes, h.0, h.1)
  tested first tests early passes none (Err Conflict) new h = absurd (true≢false (sym h.1 ∙ sound_after none))
  tested first tests early passes none (Err why) new h = absurd h

  sound : refusal_of (replay (all_of old)) (Join f) ≡ None → (r : Result (List Op) Refusal) (new : Lists) → AddsTo (all_of old) (Join f) r new → IsAsSound old new
  sound none (Ok told) new h = ap (λ (l : List Op). (replay l).damaged) (ap all_of h.0 ∙ append-nil (all_of old ++ Join f ∷ [])) ∙ h.2 ∙ sym whole
  sound none (Err Memory) new h = caught_up_sound old new h
  sound none (Err (Unpublished n)) new h = ap (λ (l : List Op). (replay l).damaged) (ap all_of h.0) ∙ sound_after none ∙ sym whole
  sound none (Err Conflict) new h = absurd (true≢false (sym h.1 ∙ sound_after none))
  sound none (Err why) new h = absurd h

  has_taken : (items : List Item) → absorb_all (replay (all_of old)).content items ≡ Ok d → refusal_of (replay (all_of old)) (Join f) ≡ None → (r : Result (List Op) Refusal) (new : Lists) → AddsTo (all_of old) (Join f) r new → HasTaken old items r
  has_taken items absorbed none (Ok told) new h = absorbed ∙ ap Ok (sym (ap (λ (l : List Op). (replay l).content) h.1 ∙ ap (λ (n : NodeContent). n.content) (joined none)))
  has_taken items absorbed none (Err why) new h = tt

by_tests : (first tests : Option Refusal) (old new : Lists) (op : Op) (why : Refusal) → is_plain why ≡ true → tests ≡ Some why → IsCaughtUp old new → RefusesTested first tests old op why new
by_tests first tests old new op Memory p t u = absurd (true≢false (sym p))
by_tests first tests old new op (Unpublished n) p t u = absurd (true≢false (sym p))
by_tests first tests old new op why p t u = (t, u)

first_of : (old mid : Lists) → IsCaughtUp old mid → mid.0 ≡ all_of old
first_of old mid up = ap (λ (l : Lists). l.0) up

-- ---- a taking

none_damaged : (c : NodeContent) → c.damaged ≡ false → damage_refusal c ≡ None
none_damaged c whole = ap (λ b. cond b (Some Damaged) None) whole

-- items that agree are refused by want of room alone
taken_tests : (c : NodeContent) (items : List Item) (d : Content) → c.damaged ≡ false → absorb_so c.guarded c.content items ≡ Ok d → take_refusal c items ≡ full_refusal c
taken_tests c items d whole absorbed = λ i. or_else (none_damaged c whole i) (or_else (refusal_in (absorbed i)) (full_refusal c))

-- where a join leaves something, it conflicts with nothing
agrees_with : (t : Content) (f : FragmentValue) (d : Content) → join_result t f ≡ Ok d → contents_conflict t f.content ≡ false
agrees_with t f d e = go (not (f.content.log == t.log)) (not (length f.content.streams == length t.streams)) (nat_lt (readable t) f.base) (contents_conflict t f.content) e
  where
    go : (a b g k : Bool) → (if a then Err ForeignLog else if b then Err WrongStreams else if g then Err (Gap f.base (readable t)) else if k then Err Conflict else Ok (content_after_join t f)) ≡ Ok d → k ≡ false
    go true b g k e = absurd (cc)
    go false true g k e = absurd (cc)
    go false false true k e = absurd (cc)
    go false false false true e = absurd (cc)
    go false false false false e = refl

and_none : (a b : Bool) → b ≡ false → a && b ≡ false
and_none true b h = h
and_none false b h = refl

-- and so is their join
joined_tests : (c : NodeContent) (items : List Item) → c.damaged ≡ false → contents_conflict c.content (fragment_of_taken c.content items).content ≡ false → join_touches_past c.content (fragment_of_taken c.content items) ≡ false → refusal_of c (join_of_taken c items) ≡ full_refusal c
joined_tests c items whole agrees clear =
    let f = fragment_of_taken c.content items in
    λ i.
    or_else (cond (whole i) (Some Damaged)
    (cond (not (eq-eqb c.content.log c.content.log refl i)) (Some ForeignLog)
    (cond (not (eq-eqb (length f.content.streams) (length c.content.streams) (count_streams (length c.content.streams) (taken_items c.content items)) i)) (Some WrongStreams)
    (cond (no_gap_at_0 (readable c.content) i) (Some (Gap 0 (readable c.content)))
    (cond (no_gap_at_0 c.content.horizon i) (passed_hold 0 (least_hold c.holds)) None)))))
    (or_else (cond (and_none c.guarded (contents_conflict c.content f.content) agrees i) (Some Conflict) None)
    (or_else (cond (and_none c.guarded (join_touches_past c.content f) clear i) (Some Conflict) None) (full_refusal c)))

pub join_passes : (c : NodeContent) (items : List Item) (f : FragmentValue) → AgreesWith c items (Ok f) → None ≡ full_refusal c → refusal_of c (Join f) ≡ None
join_passes c items f agrees room =
    let sent = fragment_of_taken c.content items in
    let apart : contents_conflict c.content sent.content ≡ false = agrees_with c.content sent agrees.1.1.0 (ap (join_result c.content) (sym agrees.1.0) ∙ agrees.1.1.2) in
    let clear : join_touches_past c.content sent ≡ false = ap (join_touches_past c.content) (sym agrees.1.0) ∙ agrees.1.1.3 in
    ap (λ (g : FragmentValue). refusal_of c (Join g)) agrees.1.0 ∙ (joined_tests c items agrees.0 apart clear ∙ sym room)

pub take_refused : (old new : Lists) (items : List Item) (why : Refusal) → IsCaughtUp old new → AgreesWith (replay new.0) items (Err why) → TakesItems old items (Err why) new
take_refused old new items why up h =
    let c = replay (all_of old) in
    let here = subst (λ (l : List Op). AgreesWith (replay l) items (Err why)) (first_of old new up) h in
    let refuses : RefusesTested (damage_refusal c) (take_refusal c items) old (join_of_taken c items) why new = elim here [
      | inl k ↦ by_tests (damage_refusal c) (take_refusal c items) old new (join_of_taken c items) why (ap is_plain k.1)
          (ap (λ b. or_else (cond b (Some Damaged) None) (or_else (refusal_in (absorb_so c.guarded c.content items)) (full_refusal c))) k.0 ∙ ap Some (sym k.1)) up
      | inr k ↦ elim k.1 [
        | inl e ↦ by_tests (damage_refusal c) (take_refusal c items) old new (join_of_taken c items) why (subst IsPlainResult e (so_plain c.guarded c.content items))
            (λ i. or_else (none_damaged c k.0 i) (or_else (refusal_in (e i)) (full_refusal c))) up
        | inr m ↦ subst (λ (w : Refusal). RefusesTested (damage_refusal c) (take_refusal c items) old (join_of_taken c items) w new) (sym m) (inr (none_damaged c k.0, up))
      ]
    ] in
    (refuses, tt, caught_up_sound old new up)

-- items that agree, for which there is no room
pub take_full : (old mid : Lists) (items : List Item) (f : FragmentValue) (why : Refusal) → IsCaughtUp old mid → AgreesWith (replay mid.0) items (Ok f) → Some why ≡ full_refusal (replay mid.0) → TakesItems old items (Err why) mid
take_full old mid items f why up agrees full =
    let c = replay (all_of old) in
    let here = subst (λ (l : List Op). AgreesWith (replay l) items (Ok f)) (first_of old mid up) agrees in
    let is : full_refusal c ≡ Some why = ap (λ (l : List Op). full_refusal (replay l)) (sym (first_of old mid up)) ∙ sym full in
    (by_tests (damage_refusal c) (take_refusal c items) old mid (join_of_taken c items) why (subst ArePlain is (full_plain c)) (taken_tests c items here.1.1.0 here.0 here.1.1.1 ∙ is) up, tt, caught_up_sound old mid up)

pub take_made : (old mid new : Lists) (items : List Item) (f : FragmentValue) (r : Result (List Op) Refusal) → is_legal (all_of old) ≡ true → IsCaughtUp old mid → AgreesWith (replay mid.0) items (Ok f) → None ≡ full_refusal (replay mid.0)
    → AddsTo mid.0 (Join f) r new → TakesItems old items r new
take_made old mid new items f r legal up agrees full h =
    let c = replay (all_of old) in
    let here = subst (λ (l : List Op). AgreesWith (replay l) items (Ok f)) (first_of old mid up) agrees in
    let room : None ≡ full_refusal c = full ∙ ap (λ (l : List Op). full_refusal (replay l)) (first_of old mid up) in
    let d = here.1.1.0 in
    let sent = fragment_of_taken c.content items in
    let gave : join_result c.content sent ≡ Ok d = ap (join_result c.content) (sym here.1.0) ∙ here.1.1.2 in
    let none : refusal_of c (Join sent) ≡ None = ap (λ (g : FragmentValue). refusal_of c (Join g)) (sym here.1.0) ∙ join_passes c items f here room in
    let done : AddsTo (all_of old) (Join sent) r new = subst (λ (g : FragmentValue). AddsTo (all_of old) (Join g) r new) here.1.0 (subst (λ (l : List Op). AddsTo l (Join f) r new) (first_of old mid up) h) in (
      tested old legal sent d here.0 gave (damage_refusal c) (take_refusal c items) (none_damaged c here.0) (taken_tests c items d here.0 here.1.1.1 ∙ sym room) none r new done,
      has_taken old legal sent d here.0 gave items (absorbed_so c.guarded c.content items d here.1.1.1) none r new done,
      sound old legal sent d here.0 gave none r new done,
    )
