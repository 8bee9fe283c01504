-- Legal lists, and one more operation.
use Rattle.std.proofs.Common.{◌≡◌, ◌≤◌, if◌then◌else◌, Bool, true, false, ◌&&◌, List, [], ◌∷◌, ◌++◌, length, Option, Some, None, fold, is_none, refl, ap, sym, arith}
use Rattle.std.specs.Prelude.{nat_lt}
use mathlib.Core.List.{IsPrefix}
use Rattle.hk_types.specs.declared.faults.Refusal.{Refusal}
use Rattle.hk_types.specs.declared.faults.Refusal.TheVariants.{AheadOfMark, Damaged}
use Rattle.hk_model.specs.Replica.Content.{readable}
use Rattle.hk_model.specs.Replica.Maps.{or_else}
use Rattle.hk_model.specs.Replica.Touches.{join_touches_past, prune_touches_past}
use Rattle.hk_oplog.specs.declared.op.Op.{Op}
use Rattle.hk_oplog.specs.declared.op.Op.TheVariants.{Start, Join, Merge, Prune, Hold as HoldAt, Release}
use Rattle.hk_oplog.specs.NodeContent.{NodeContent}
use Rattle.hk_oplog.specs.Replay.{fit_refusal, guard_refusal, past_refusal, full_refusal, prune_reach, refusal_of, unfit_of, effect, unless, content_after_op, start_content, replay, kind_of, legal_from, is_legal}
use Rattle.hk_oplog.specs.Lists.{last_of}

pub fold-snoc : {A B : Type 0} (f : A → B → A) (a : A) (xs : List B) (x : B) → fold f a (xs ++ x ∷ []) ≡ f (fold f a xs) x
fold-snoc f a [] x = refl
fold-snoc f a (y ∷ ys) x = fold-snoc f (f a y) ys x

pub and_left : (a b : Bool) → a && b ≡ true → a ≡ true
and_left true b h = refl
and_left false b h = h

pub and_right : (a b : Bool) → a && b ≡ true → b ≡ true
and_right true b h = h
and_right false b h = absurd (cc)

pub and_both : (a b : Bool) → a ≡ true → b ≡ true → a && b ≡ true
and_both true b p q = q
and_both false b p q = absurd (cc)

pub none_of : {A : Type 0} (o : Option A) → is_none o ≡ true → o ≡ None
none_of None h = refl
none_of (Some e) h = absurd (cc)

drop_one : (o p q : Option Refusal) → or_else o (or_else p q) ≡ None → or_else o q ≡ None
drop_one None None q e = e
drop_one None (Some w) q e = absurd (cc)
drop_one (Some w) p q e = absurd (cc)

drop_other : (o g p q : Option Refusal) → or_else o (or_else g (or_else p q)) ≡ None → or_else o (or_else g q) ≡ None
drop_other None g p q e = drop_one g p q e
drop_other (Some w) g p q e = absurd (cc)

drop_last : (a b : Bool) (y : Refusal) (p q : Option Refusal) → (if a then Some Damaged else if b then Some y else or_else p q) ≡ None → (if a then Some Damaged else if b then Some y else q) ≡ None
drop_last true b y p q e = absurd (cc)
drop_last false true y p q e = absurd (cc)
drop_last false false y p q e = drop_one None p q e

-- what is not refused fits
pub fits_too : (c : NodeContent) (op : Op) → refusal_of c op ≡ None → unfit_of c op ≡ None
fits_too c (Start kind) e = e
fits_too c (Join f) e = drop_other (fit_refusal c f.content.log (length f.content.streams) f.base f.content.horizon) (guard_refusal c f.content) (past_refusal c (join_touches_past c.content f)) (full_refusal c) e
fits_too c (Merge f) e = drop_other (fit_refusal c f.content.log (length f.content.streams) f.base f.content.horizon) (guard_refusal c f.content) (past_refusal c (join_touches_past c.content f)) (full_refusal c) e
fits_too c (Prune h) e = drop_last c.damaged (nat_lt (readable c.content) h) (AheadOfMark (readable c.content)) (past_refusal c (prune_touches_past c.content (prune_reach c h))) (full_refusal c) e
fits_too c (HoldAt at) e = e
fits_too c (Release reader at) e = e

pub applied-is : (c : NodeContent) (op : Op) → refusal_of c op ≡ None → content_after_op c op ≡ effect c op
applied-is c op h = ap (λ o. unless o c (effect c op)) (fits_too c op h)

pub replay-snoc : (xs : List Op) (op : Op) → is_legal xs ≡ true → replay (xs ++ op ∷ []) ≡ content_after_op (replay xs) op
replay-snoc [] op h = absurd (cc)
replay-snoc (Start kind ∷ xs) op h = fold-snoc content_after_op (start_content kind) xs op
replay-snoc (Join f ∷ xs) op h = absurd (cc)
replay-snoc (Merge f ∷ xs) op h = absurd (cc)
replay-snoc (Prune t ∷ xs) op h = absurd (cc)
replay-snoc (HoldAt t ∷ xs) op h = absurd (cc)
replay-snoc (Release r t ∷ xs) op h = absurd (cc)

pub from-snoc : (c : NodeContent) (xs : List Op) (op : Op) → legal_from c xs ≡ true → refusal_of (fold content_after_op c xs) op ≡ None → legal_from c (xs ++ op ∷ []) ≡ true
from-snoc c [] op h n = and_both (is_none (refusal_of c op)) true (ap is_none n) refl
from-snoc c (x ∷ xs) op h n = and_both (is_none (refusal_of c x)) (legal_from (content_after_op c x) (xs ++ op ∷ [])) (and_left (is_none (refusal_of c x)) _ h) (from-snoc (content_after_op c x) xs op (and_right (is_none (refusal_of c x)) _ h) n)

-- a legal list that goes on is of the same node
pub kind-snoc : (xs : List Op) (op : Op) → is_legal xs ≡ true → kind_of (xs ++ op ∷ []) ≡ kind_of xs
kind-snoc [] op h = absurd (cc)
kind-snoc (Start kind ∷ xs) op h = refl
kind-snoc (Join f ∷ xs) op h = absurd (cc)
kind-snoc (Merge f ∷ xs) op h = absurd (cc)
kind-snoc (Prune t ∷ xs) op h = absurd (cc)
kind-snoc (HoldAt t ∷ xs) op h = absurd (cc)
kind-snoc (Release r t ∷ xs) op h = absurd (cc)

-- a legal list and all that it goes on with is of the same node
pub kind_on : (xs ys : List Op) → IsPrefix xs ys → is_legal xs ≡ true → kind_of ys ≡ kind_of xs
kind_on [] ys p h = absurd (cc)
kind_on (Start kind ∷ xs) ys p h = ap kind_of (sym p.1)
kind_on (Join f ∷ xs) ys p h = absurd (cc)
kind_on (Merge f ∷ xs) ys p h = absurd (cc)
kind_on (Prune t ∷ xs) ys p h = absurd (cc)
kind_on (HoldAt t ∷ xs) ys p h = absurd (cc)
kind_on (Release r t ∷ xs) ys p h = absurd (cc)

-- a legal list goes on with an operation that is not refused
pub legal-snoc : (xs : List Op) (op : Op) → is_legal xs ≡ true → refusal_of (replay xs) op ≡ None → is_legal (xs ++ op ∷ []) ≡ true
legal-snoc [] op h n = absurd (cc)
legal-snoc (Start kind ∷ xs) op h n = from-snoc (start_content kind) xs op h n
legal-snoc (Join f ∷ xs) op h n = absurd (cc)
legal-snoc (Merge f ∷ xs) op h n = absurd (cc)
legal-snoc (Prune t ∷ xs) op h n = absurd (cc)
legal-snoc (HoldAt t ∷ xs) op h n = absurd (cc)
legal-snoc (Release r t ∷ xs) op h n = absurd (cc)

-- a legal list has its start
pub legal-long : (xs : List Op) → is_legal xs ≡ true → 1 ≤ length xs
legal-long [] h = absurd (cc)
legal-long (x ∷ xs) h = omega arith

pub last_snoc : (xs : List Op) (op : Op) → last_of (xs ++ op ∷ []) ≡ Some op
last_snoc [] op = refl
last_snoc (x ∷ []) op = refl
last_snoc (x ∷ y ∷ ys) op = last_snoc (y ∷ ys) op
