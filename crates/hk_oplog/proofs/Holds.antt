-- No horizon passes a hold that stands, and a hold stands until it is released.
use Rattle.std.proofs.Common.{◌≡◌, ℕ, zero, suc, ◌+◌, ◌<◌, ◌≤◌, min, max, Bool, true, false, not, ◌||◌, ◌&&◌, if◌then◌else◌, cond, List, [], ◌∷◌, ◌++◌, length, slice_get, filter, Option, Some, None, Result, Ok, Err, fold, is_none, refl, sym, ap, ◌∙◌, subst, arith, le_trans}
use Rattle.std.specs.Prelude.{nat_lt, nat_le, All, MatchOption}
use Rattle.std.specs.List.{list_any}
use Rattle.core.specs.List.{cons_option}
use Rattle.std.proofs.lemmas.Bool.Decides.{nat_tests}
use Rattle.std.proofs.lemmas.List.Elements.{All-nil, All-cons, All-head, All-tail, All-push, All-filter}
use Rattle.hk_types.specs.declared.faults.Refusal.{Refusal}
use Rattle.hk_types.specs.declared.faults.Refusal.TheVariants.{ForeignLog, WrongStreams, Gap, Conflict, AheadOfMark, TooOld, Held, Damaged}
use Rattle.hk_model.specs.Replica.Content.{Content, readable, without_ended}
use Rattle.hk_model.specs.Replica.Fragments.{FragmentValue}
use Rattle.hk_model.specs.Replica.Rules.{join_result, content_after_join, prune_result}
use Rattle.hk_model.specs.Replica.Touches.{prune_touches_past}
use Rattle.hk_oplog.specs.declared.op.Hold.{Hold}
use Rattle.hk_oplog.specs.declared.op.Op.{Op}
use Rattle.hk_oplog.specs.declared.op.Op.TheVariants.{Start, Join, Merge, Prune, Hold as HoldAt, Release}
use Rattle.hk_oplog.specs.NodeContent.{NodeContent}
use Rattle.hk_oplog.specs.Replay.{is_before, first_of_two, least_hold, up_to_hold, prune_reach, is_hold, full_refusal, past_refusal, passed_hold, held_refusal, join_refused, refusal_of, after_join, after_prune, start_content, effect, content_after_op, replay, legal_from, is_legal}
use Rattle.hk_oplog.specs.Lists.{hold_time, hold_times, releases, is_released}
use Rattle.hk_oplog.specs.Holds.{HoldLaw}
use Rattle.hk_oplog.proofs.JoinTests.{passed, passed_or, not_below, join_tests}
use Rattle.hk_oplog.proofs.LegalLists.{and_left, and_right, none_of, applied-is}

-- ---- the least hold

pub least_bounds : (n : ℕ) (acc : Option Hold) (hs : List Hold) → passed_hold n (fold first_of_two acc hs) ≡ None → MatchOption acc (Unit {0}) (λ g. n ≤ g.at) × All (λ h. n ≤ h.at) hs
least_bounds n None [] e = (tt, All-nil (λ (h : Hold). n ≤ h.at))
least_bounds n (Some g) [] e = (not_below g.at n (passed (nat_lt g.at n) (Held g.reader g.at) None e).0, All-nil (λ (h : Hold). n ≤ h.at))
least_bounds n None (h ∷ hs) e = let r = least_bounds n (Some h) hs e in (tt, All-cons (λ (h : Hold). n ≤ h.at) h hs r.0 r.1)
least_bounds n (Some g) (h ∷ hs) e = two (λ acc d. least_bounds n acc hs d) (is_before h g) refl e
  where
    two : ((acc : Option Hold) → passed_hold n (fold first_of_two acc hs) ≡ None → MatchOption acc (Unit {0}) (λ g. n ≤ g.at) × All (λ h. n ≤ h.at) hs)
        → (b : Bool) → is_before h g ≡ b → passed_hold n (fold first_of_two (if b then Some h else Some g) hs) ≡ None → (n ≤ g.at) × All (λ h. n ≤ h.at) (h ∷ hs)
    two ih true is e =
        let r = ih (Some h) e in
        let le : h.at ≤ g.at = grind (arith, nat_tests) in
        (le_trans r.0 le, All-cons (λ (h : Hold). n ≤ h.at) h hs r.0 r.1)
    two ih false is e =
        let r = ih (Some g) e in
        let le : g.at ≤ h.at = grind (arith, nat_tests) in
        (r.0, All-cons (λ (h : Hold). n ≤ h.at) h hs (le_trans r.0 le) r.1)

-- ---- no horizon passes a hold that stands

abbrev pub IsHeld : NodeContent → Type 0
IsHeld c = All (λ h. c.content.horizon ≤ h.at) c.holds

-- a horizon that is not refused passes none
pub passes_none : (c : NodeContent) (n : ℕ) → IsHeld c → held_refusal c n ≡ None → All (λ h. max c.content.horizon n ≤ h.at) c.holds
passes_none c n held e = two (nat_lt c.content.horizon n) refl e
  where
    two : (b : Bool) → nat_lt c.content.horizon n ≡ b → (if b then passed_hold n (least_hold c.holds) else None) ≡ None → All (λ h. max c.content.horizon n ≤ h.at) c.holds
    two true is e =
        let above = (least_bounds n None c.holds e).1 in
        let m : max c.content.horizon n ≡ n = grind (arith, nat_tests) in
        subst (λ (k : ℕ). All (λ h. k ≤ h.at) c.holds) (sym m) above
    two false is e =
        let m : max c.content.horizon n ≡ c.content.horizon = grind (arith, nat_tests) in
        subst (λ (k : ℕ). All (λ h. k ≤ h.at) c.holds) (sym m) held

joined_horizon : (t : Content) (f : FragmentValue) (d : Content) → join_result t f ≡ Ok d → d.horizon ≡ max t.horizon f.content.horizon
joined_horizon t f d e = go _ _ _ _ e
  where
    go : (a b g k : Bool) → (if a then Err ForeignLog else if b then Err WrongStreams else if g then Err (Gap f.base (readable t)) else if k then Err Conflict else Ok (content_after_join t f)) ≡ Ok d → d.horizon ≡ max t.horizon f.content.horizon
    go true b g k e = absurd (cc)
    go false true g k e = absurd (cc)
    go false false true k e = absurd (cc)
    go false false false true e = absurd (cc)
    go false false false false e = ap (λ (r : Result Content Refusal). horizon_or r) (sym e)
      where
        horizon_or : Result Content Refusal → ℕ
        horizon_or (Ok c) = c.horizon
        horizon_or (Err why) = 0

after_join_held : (c : NodeContent) (f : FragmentValue) (r : Result Content Refusal) → join_result c.content f ≡ r → IsHeld c → All (λ h. max c.content.horizon f.content.horizon ≤ h.at) c.holds → IsHeld (after_join c r)
after_join_held c f (Ok d) e held above = subst (λ (k : ℕ). All (λ h. k ≤ h.at) c.holds) (sym (joined_horizon c.content f d e)) above
after_join_held c f (Err why) e held above = held

-- a prune reaches no further than its time
up_to_time : (n : ℕ) (o : Option Hold) → up_to_hold n o ≤ n
up_to_time n None = omega arith
up_to_time n (Some h) = omega arith

-- nor further than a hold
stops : (n : ℕ) (o : Option Hold) → passed_hold (up_to_hold n o) o ≡ None
stops n None = refl
stops n (Some h) = go (nat_lt h.at (min n h.at)) refl
  where
    go : (b : Bool) → nat_lt h.at (min n h.at) ≡ b → (if b then Some (Held h.reader h.at) else None) ≡ None
    go true is = absurd (grind (arith, nat_tests))
    go false is = refl

reach_passes_none : (c : NodeContent) (n : ℕ) → held_refusal c (prune_reach c n) ≡ None
reach_passes_none c n = go (nat_lt c.content.horizon (prune_reach c n))
  where
    go : (b : Bool) → (if b then passed_hold (prune_reach c n) (least_hold c.holds) else None) ≡ None
    go true = stops n (least_hold c.holds)
    go false = refl

-- where a prune reaches that is not refused
pub record PruneTests (c : NodeContent) (n : ℕ) : Type 0 where
  pub whole : c.damaged ≡ false
  pub in_reach : prune_reach c n ≤ readable c.content
  pub none_passed : held_refusal c (prune_reach c n) ≡ None
  pub clear : c.guarded && prune_touches_past c.content (prune_reach c n) ≡ false
  pub room : full_refusal c ≡ None

pub prune_tests : (c : NodeContent) (n : ℕ) → refusal_of c (Prune n) ≡ None → PruneTests c n
prune_tests c n e =
    let past = past_refusal c (prune_touches_past c.content (prune_reach c n)) in
    let a = passed c.damaged Damaged _ e in
    let b = passed (nat_lt (readable c.content) n) (AheadOfMark (readable c.content)) _ a.1 in
    let more = passed_or past (full_refusal c) b.1 in
    let low = up_to_time n (least_hold c.holds) in
    record {
      whole = a.0;
      in_reach = le_trans low (not_below (readable c.content) n b.0);
      none_passed = reach_passes_none c n;
      clear = (passed (c.guarded && prune_touches_past c.content (prune_reach c n)) Conflict None more.0).0;
      room = more.1;
    }

join_held : (c : NodeContent) (f : FragmentValue) → join_refused c f ≡ None → IsHeld c → IsHeld (after_join c (join_result c.content f))
join_held c f e held = after_join_held c f (join_result c.content f) refl held (passes_none c f.content.horizon held (join_tests c f e).fits.none_passed)

pruned_horizon : (c : Content) (n : ℕ) (d : Content) → prune_result c n ≡ Ok d → d.horizon ≡ max c.horizon n
pruned_horizon c n d e = go (nat_lt (readable c) n) (nat_le n c.horizon) refl e
  where
    horizon_or : Result Content Refusal → ℕ
    horizon_or (Ok c) = c.horizon
    horizon_or (Err why) = 0

    same : (r : Result Content Refusal) → r ≡ Ok d → d.horizon ≡ horizon_or r
    same r e = ap horizon_or (sym e)

    low : nat_le n c.horizon ≡ true → c.horizon ≡ max c.horizon n
    low is = grind (arith, nat_tests)

    high : nat_le n c.horizon ≡ false → n ≡ max c.horizon n
    high is = grind (arith, nat_tests)

    go : (a b : Bool) → nat_le n c.horizon ≡ b → (if a then Err (AheadOfMark (readable c)) else if b then Ok c else Ok (record c { horizon = n; rows = without_ended c.ends n c.rows; ends = without_ended c.ends n c.ends })) ≡ Ok d → d.horizon ≡ max c.horizon n
    go true b is e = absurd (cc)
    go false true is e = same (Ok c) e ∙ low is
    go false false is e = same (Ok (record c { horizon = n; rows = without_ended c.ends n c.rows; ends = without_ended c.ends n c.ends })) e ∙ high is

after_prune_held : (c : NodeContent) (n : ℕ) (r : Result Content Refusal) → prune_result c.content n ≡ r → IsHeld c → All (λ h. max c.content.horizon n ≤ h.at) c.holds → IsHeld (after_prune c r)
after_prune_held c n (Ok d) e held above = subst (λ (k : ℕ). All (λ h. k ≤ h.at) c.holds) (sym (pruned_horizon c.content n d e)) above
after_prune_held c n (Err why) e held above = held

effect_held : (c : NodeContent) (op : Op) → refusal_of c op ≡ None → IsHeld c → IsHeld (effect c op)
effect_held c (Start kind) e held = absurd (cc)
effect_held c (Join f) e held = join_held c f e held
effect_held c (Merge f) e held = join_held c f e held
effect_held c (Prune n) e held = after_prune_held c (prune_reach c n) (prune_result c.content (prune_reach c n)) refl held (passes_none c (prune_reach c n) held (prune_tests c n e).none_passed)
effect_held c (HoldAt at) e held =
    let a = passed c.damaged Damaged _ e in
    let low : c.content.horizon ≤ at = not_below at c.content.horizon (passed (nat_lt at c.content.horizon) (TooOld c.content.horizon) _ a.1).0 in
    All-push (λ (h : Hold). c.content.horizon ≤ h.at) c.holds (record { reader = c.hold_count + 1; at = at }) held low
effect_held c (Release reader at) e held = All-filter (λ h. not (is_hold reader at h)) (λ (h : Hold). c.content.horizon ≤ h.at) c.holds held

from_held : (c : NodeContent) (ops : List Op) → legal_from c ops ≡ true → IsHeld c → IsHeld (fold content_after_op c ops)
from_held c [] legal held = held
from_held c (op ∷ ops) legal held =
    let none : refusal_of c op ≡ None = none_of (refusal_of c op) (and_left (is_none (refusal_of c op)) _ legal) in
    from_held (content_after_op c op) ops (and_right (is_none (refusal_of c op)) _ legal) (subst IsHeld (sym (applied-is c op none)) (effect_held c op none held))

pub hold_law_proof : HoldLaw
hold_law_proof [] legal = absurd (cc)
hold_law_proof (Start kind ∷ ops) legal = from_held (start_content kind) ops legal (All-nil (λ (h : Hold). 0 ≤ h.at))
hold_law_proof (Join f ∷ ops) legal = absurd (cc)
hold_law_proof (Merge f ∷ ops) legal = absurd (cc)
hold_law_proof (Prune n ∷ ops) legal = absurd (cc)
hold_law_proof (HoldAt at ∷ ops) legal = absurd (cc)
hold_law_proof (Release r at ∷ ops) legal = absurd (cc)

-- ---- a hold stands until it is released

any_left : {X : Type 0} (p : X → Bool) (xs ys : List X) → list_any p xs ≡ true → list_any p (xs ++ ys) ≡ true
any_left p [] ys h = absurd (cc)
any_left p (x ∷ xs) ys h = or_cases (p x) (list_any p xs) (list_any p (xs ++ ys)) (any_left p xs ys) h
  where
    or_cases : (a b d : Bool) → (b ≡ true → d ≡ true) → a || b ≡ true → a || d ≡ true
    or_cases true b d f h = refl
    or_cases false b d f h = f h

any_last : {X : Type 0} (p : X → Bool) (xs : List X) (y : X) → p y ≡ true → list_any p (xs ++ y ∷ []) ≡ true
any_last p [] y h = ap (λ b. b || false) h
any_last p (x ∷ xs) y h = or_right (p x) (list_any p (xs ++ y ∷ [])) (any_last p xs y h)
  where
    or_right : (a b : Bool) → b ≡ true → a || b ≡ true
    or_right true b h = refl
    or_right false b h = h

any_filter : {X : Type 0} (p q : X → Bool) (xs : List X) → ((x : X) → p x ≡ true → q x ≡ true) → list_any p xs ≡ true → list_any p (filter q xs) ≡ true
any_filter p q [] keep h = absurd (cc)
any_filter p q (x ∷ xs) keep h = go (p x) refl (q x) refl h (any_filter p q xs keep)
  where
    go : (a : Bool) → p x ≡ a → (b : Bool) → q x ≡ b → a || list_any p xs ≡ true → (list_any p xs ≡ true → list_any p (filter q xs) ≡ true) → list_any p (cond b (x ∷ filter q xs) (filter q xs)) ≡ true
    go true pa true qb h more = ap (λ c. c || list_any p (filter q xs)) pa
    go true pa false qb h more = absurd (cc (sym qb ∙ keep x pa))
    go false pa true qb h more = ap (λ c. c || list_any p (filter q xs)) pa ∙ more h
    go false pa false qb h more = more h

-- a release of another hold keeps this one
other_hold : (reader at r t : ℕ) (h : Hold) → releases reader at (Release r t) ≡ false → is_hold reader at h ≡ true → not (is_hold r t h) ≡ true
other_hold reader at r t h apart is = grind (arith, nat_tests)

abbrev pub Stays : ℕ → ℕ → NodeContent → Type 0
Stays reader at c = list_any (is_hold reader at) c.holds ≡ true

after_join_stays : (reader at : ℕ) (c : NodeContent) (r : Result Content Refusal) → Stays reader at c → Stays reader at (after_join c r)
after_join_stays reader at c (Ok d) h = h
after_join_stays reader at c (Err why) h = h

after_prune_stays : (reader at : ℕ) (c : NodeContent) (r : Result Content Refusal) → Stays reader at c → Stays reader at (after_prune c r)
after_prune_stays reader at c (Ok d) h = h
after_prune_stays reader at c (Err why) h = h

effect_stays : (reader at : ℕ) (c : NodeContent) (op : Op) → refusal_of c op ≡ None → releases reader at op ≡ false → Stays reader at c → Stays reader at (effect c op)
effect_stays reader at c (Start kind) e apart h = absurd (cc)
effect_stays reader at c (Join f) e apart h = after_join_stays reader at c (join_result c.content f) h
effect_stays reader at c (Merge f) e apart h = after_join_stays reader at c (join_result c.content f) h
effect_stays reader at c (Prune n) e apart h = after_prune_stays reader at c (prune_result c.content (prune_reach c n)) h
effect_stays reader at c (HoldAt t) e apart h = any_left (is_hold reader at) c.holds _ h
effect_stays reader at c (Release r t) e apart h = any_filter (is_hold reader at) (λ g. not (is_hold r t g)) c.holds (λ g is. other_hold reader at r t g apart is) h

or_false : (a b : Bool) → a || b ≡ false → (a ≡ false) × (b ≡ false)
or_false true b h = absurd (cc)
or_false false b h = (refl, h)

from_stays : (reader at : ℕ) (c : NodeContent) (ops : List Op) → legal_from c ops ≡ true → is_released reader at ops ≡ false → Stays reader at c → Stays reader at (fold content_after_op c ops)
from_stays reader at c [] legal apart h = h
from_stays reader at c (op ∷ ops) legal apart h =
    let none : refusal_of c op ≡ None = none_of (refusal_of c op) (and_left (is_none (refusal_of c op)) _ legal) in
    let two = or_false (releases reader at op) (is_released reader at ops) apart in
    from_stays reader at (content_after_op c op) ops (and_right (is_none (refusal_of c op)) _ legal) two.1 (subst (Stays reader at) (sym (applied-is c op none)) (effect_stays reader at c op none two.0 h))

-- ---- the numbers of holds

after_join_count : (c : NodeContent) (r : Result Content Refusal) → (after_join c r).hold_count ≡ c.hold_count
after_join_count c (Ok d) = refl
after_join_count c (Err why) = refl

after_prune_count : (c : NodeContent) (r : Result Content Refusal) → (after_prune c r).hold_count ≡ c.hold_count
after_prune_count c (Ok d) = refl
after_prune_count c (Err why) = refl

-- an operation gives a hold, or none
effect_count : (c : NodeContent) (op : Op) → refusal_of c op ≡ None → (effect c op).hold_count ≡ c.hold_count + length (hold_times (op ∷ []))
effect_count c (Start kind) e = absurd (cc)
effect_count c (Join f) e = after_join_count c (join_result c.content f) ∙ omega arith
effect_count c (Merge f) e = after_join_count c (join_result c.content f) ∙ omega arith
effect_count c (Prune n) e = after_prune_count c (prune_result c.content (prune_reach c n)) ∙ omega arith
effect_count c (HoldAt at) e = refl
effect_count c (Release r t) e = omega arith

one_more : (op : Op) (ops : List Op) → length (hold_times (op ∷ ops)) ≡ length (hold_times (op ∷ [])) + length (hold_times ops)
one_more op ops = go (hold_time op)
  where
    go : (o : Option ℕ) → length (cons_option o (hold_times ops)) ≡ length (cons_option o []) + length (hold_times ops)
    go None = omega arith
    go (Some at) = omega arith

from_count : (c : NodeContent) (ops : List Op) → legal_from c ops ≡ true → (fold content_after_op c ops).hold_count ≡ c.hold_count + length (hold_times ops)
from_count c [] legal = omega arith
from_count c (op ∷ ops) legal =
    let none : refusal_of c op ≡ None = none_of (refusal_of c op) (and_left (is_none (refusal_of c op)) _ legal) in
    let one : (content_after_op c op).hold_count ≡ c.hold_count + length (hold_times (op ∷ [])) = ap (λ (d : NodeContent). d.hold_count) (applied-is c op none) ∙ effect_count c op none in
    let rest = from_count (content_after_op c op) ops (and_right (is_none (refusal_of c op)) _ legal) in
    let all = one_more op ops in
    omega (arith, one, rest, all)

-- a legal list gave as many holds as it has
pub replay_count : (ops : List Op) → is_legal ops ≡ true → (replay ops).hold_count ≡ length (hold_times ops)
replay_count [] legal = absurd (cc)
replay_count (Start kind ∷ ops) legal = let e = from_count (start_content kind) ops legal in omega (arith, e)
replay_count (Join f ∷ ops) legal = absurd (cc)
replay_count (Merge f ∷ ops) legal = absurd (cc)
replay_count (Prune n ∷ ops) legal = absurd (cc)
replay_count (HoldAt at ∷ ops) legal = absurd (cc)
replay_count (Release r at ∷ ops) legal = absurd (cc)

-- the k-th hold of operations stands at their end, where they do not release it
from_given : (c : NodeContent) (ops : List Op) (k n at : ℕ) → legal_from c ops ≡ true → slice_get (hold_times ops) k ≡ Some at → n ≡ c.hold_count + k + 1 → is_released n at ops ≡ false → Stays n at (fold content_after_op c ops)
from_given c [] k n at legal there num apart = absurd (cc)
from_given c (op ∷ ops) k n at legal there num apart =
    let none : refusal_of c op ≡ None = none_of (refusal_of c op) (and_left (is_none (refusal_of c op)) _ legal) in
    let on : legal_from (content_after_op c op) ops ≡ true = and_right (is_none (refusal_of c op)) _ legal in
    let two = or_false (releases n at op) (is_released n at ops) apart in
    let step = applied-is c op none in
    let count : (content_after_op c op).hold_count ≡ c.hold_count + length (hold_times (op ∷ [])) = ap (λ (d : NodeContent). d.hold_count) step ∙ effect_count c op none in
    go op k there num step count two.1 (λ j e d. from_given (content_after_op c op) ops j n at on e d two.1) (from_stays n at (content_after_op c op) ops on two.1)
  where
    go : (o : Op) (j : ℕ) → slice_get (hold_times (o ∷ ops)) j ≡ Some at → n ≡ c.hold_count + j + 1 → content_after_op c op ≡ effect c o → (content_after_op c op).hold_count ≡ c.hold_count + length (hold_times (o ∷ []))
        → is_released n at ops ≡ false
        → ((i : ℕ) → slice_get (hold_times ops) i ≡ Some at → n ≡ (content_after_op c op).hold_count + i + 1 → Stays n at (fold content_after_op (content_after_op c op) ops))
        → (Stays n at (content_after_op c op) → Stays n at (fold content_after_op (content_after_op c op) ops))
        → Stays n at (fold content_after_op (content_after_op c op) ops)
    go (HoldAt a) zero there num step count apart more stay =
        let same : a ≡ at = cc there in
        let is : is_hold n at (record { reader = c.hold_count + 1; at = a }) ≡ true = grind (arith, nat_tests) in
        stay (subst (Stays n at) (sym step) (any_last (is_hold n at) c.holds (record { reader = c.hold_count + 1; at = a }) is))
    go (HoldAt a) (suc j) there num step count apart more stay = more j there (omega (arith, num, count))
    go (Start kind) j there num step count apart more stay = more j there (omega (arith, num, count))
    go (Join f) j there num step count apart more stay = more j there (omega (arith, num, count))
    go (Merge f) j there num step count apart more stay = more j there (omega (arith, num, count))
    go (Prune h) j there num step count apart more stay = more j there (omega (arith, num, count))
    go (Release r t) j there num step count apart more stay = more j there (omega (arith, num, count))

any_above : (n reader at : ℕ) (hs : List Hold) → All (λ h. n ≤ h.at) hs → list_any (is_hold reader at) hs ≡ true → n ≤ at
any_above n reader at [] all any = absurd (cc)
any_above n reader at (h ∷ hs) all any = go (is_hold reader at h) refl any (λ e. any_above n reader at hs (All-tail (λ (h : Hold). n ≤ h.at) h hs all) e)
  where
    go : (b : Bool) → is_hold reader at h ≡ b → b || list_any (is_hold reader at) hs ≡ true → (list_any (is_hold reader at) hs ≡ true → n ≤ at) → n ≤ at
    go true is any more =
        let low : n ≤ h.at = All-head (λ (h : Hold). n ≤ h.at) h hs all in
        let same : h.at ≡ at = grind (arith, nat_tests) in
        omega (arith, low, same)
    go false is any more = more any

-- the time of a hold of a legal list is below the horizon only where the list releases the hold
pub old_is_released : (ops : List Op) (k t : ℕ) → is_legal ops ≡ true → slice_get (hold_times ops) k ≡ Some t → t < (replay ops).content.horizon → is_released (k + 1) t ops ≡ true
old_is_released [] k t legal there low = absurd (cc)
old_is_released (Start kind ∷ ops) k t legal there low = go (is_released (k + 1) t ops) refl
  where
    go : (b : Bool) → is_released (k + 1) t ops ≡ b → is_released (k + 1) t ops ≡ true
    go true is = is
    go false is =
        let stays = from_given (start_content kind) ops k (k + 1) t legal there (omega arith) is in
        let above : (replay (Start kind ∷ ops)).content.horizon ≤ t = any_above _ (k + 1) t (fold content_after_op (start_content kind) ops).holds (hold_law_proof (Start kind ∷ ops) legal) stays in
        absurd (omega (arith, above, low))
old_is_released (Join f ∷ ops) k t legal there low = absurd (cc)
old_is_released (Merge f ∷ ops) k t legal there low = absurd (cc)
old_is_released (Prune n ∷ ops) k t legal there low = absurd (cc)
old_is_released (HoldAt at ∷ ops) k t legal there low = absurd (cc)
old_is_released (Release r at ∷ ops) k t legal there low = absurd (cc)
