-- Why a change is refused by its tests.
use Rattle.std.proofs.Common.{◌≡◌, ◌≢◌, ℕ, true≢false, ◌^◌, ◌==◌, Bool, true, false, not, ◌&&◌, if◌then◌else◌, length, Option, Some, None, refl, sym, ap, ◌∙◌, subst}
use Rattle.std.specs.Prelude.{nat_lt, IfSome}
use Rattle.std.specs.List.{list_any}
use Rattle.hk_types.specs.declared.faults.Refusal.{Refusal}
use Rattle.hk_types.specs.declared.faults.Refusal.TheVariants.{ForeignLog, WrongStreams, Gap, Conflict, AheadOfMark, TooOld, Held, Damaged, Unpublished, NodeFull, NoHold, Memory}
use Rattle.hk_model.specs.Replica.Maps.{or_else}
use Rattle.hk_model.specs.Replica.Content.{Content, readable}
use Rattle.hk_model.specs.Replica.Fragments.{FragmentValue}
use Rattle.hk_model.specs.Replica.Rules.{contents_conflict}
use Rattle.hk_model.specs.Replica.Touches.{join_touches_past, prune_touches_past}
use Rattle.hk_oplog.specs.declared.op.Hold.{Hold}
use Rattle.hk_oplog.specs.declared.op.Op.{Op}
use Rattle.hk_oplog.specs.declared.op.Op.TheVariants.{Start, Join, Merge, Prune, Hold as HoldAt, Release}
use Rattle.hk_oplog.specs.NodeContent.{NodeContent}
use Rattle.hk_oplog.specs.Replay.{is_hold, least_hold, prune_reach, fit_refusal, full_refusal, guard_refusal, past_refusal, passed_hold, held_refusal, join_refused, refusal_of, replay}
use Rattle.hk_node.specs.Changes.{Lists, all_of, IsCaughtUp, Refuses, RefusesConflict}

-- whether a refusal is that of a test, in a guarded node or another
abbrev pub is_tested : Bool → Refusal → Bool
is_tested guarded Memory = false
is_tested guarded (Unpublished n) = false
is_tested guarded Conflict = guarded
is_tested guarded why = true

abbrev pub AreTested : Bool → Option Refusal → Type 0
AreTested guarded o = IfSome o (λ why. is_tested guarded why ≡ true)

module _ (guarded : Bool) where
  if_tested : (b : Bool) (e : Refusal) (o : Option Refusal) → is_tested guarded e ≡ true → AreTested guarded o → AreTested guarded (if b then Some e else o)
  if_tested true e o t more = t
  if_tested false e o t more = more

  or_tested : (o p : Option Refusal) → AreTested guarded o → AreTested guarded p → AreTested guarded (or_else o p)
  or_tested None p t u = u
  or_tested (Some e) p t u = t

  pub full_tested : (c : NodeContent) → AreTested guarded (full_refusal c)
  full_tested c = go (nat_lt c.op_count (2 ^ 62))
    where
      go : (b : Bool) → AreTested guarded (if b then None else Some NodeFull)
      go true = tt
      go false = refl

  passed_tested : (n : ℕ) (o : Option Hold) → AreTested guarded (passed_hold n o)
  passed_tested n None = tt
  passed_tested n (Some h) = if_tested (nat_lt h.at n) (Held h.reader h.at) None refl tt

  held_tested : (c : NodeContent) (n : ℕ) → AreTested guarded (held_refusal c n)
  held_tested c n = go (nat_lt c.content.horizon n)
    where
      go : (b : Bool) → AreTested guarded (if b then passed_hold n (least_hold c.holds) else None)
      go true = passed_tested n (least_hold c.holds)
      go false = tt

  fit_tested : (c : NodeContent) (log streams base horizon : ℕ) → AreTested guarded (fit_refusal c log streams base horizon)
  fit_tested c log streams base horizon =
      if_tested c.damaged Damaged _ refl
      (if_tested (not (log == c.content.log)) ForeignLog _ refl
      (if_tested (not (streams == length c.content.streams)) WrongStreams _ refl
      (if_tested (nat_lt (readable c.content) base) (Gap base (readable c.content)) _ refl (held_tested c horizon))))

-- a guarded node alone tests for a conflict
guard_tested : (c : NodeContent) (told : Content) → AreTested c.guarded (guard_refusal c told)
guard_tested c told = go c.guarded (contents_conflict c.content told)
  where
    go : (g b : Bool) → AreTested g (if g && b then Some Conflict else None)
    go true true = refl
    go true false = tt
    go false b = tt

past_tested : (c : NodeContent) (touches : Bool) → AreTested c.guarded (past_refusal c touches)
past_tested c touches = go c.guarded touches
  where
    go : (g b : Bool) → AreTested g (if g && b then Some Conflict else None)
    go true true = refl
    go true false = tt
    go false b = tt

join_tested : (c : NodeContent) (f : FragmentValue) → AreTested c.guarded (join_refused c f)
join_tested c f =
    let past = past_refusal c (join_touches_past c.content f) in
    or_tested c.guarded (fit_refusal c f.content.log (length f.content.streams) f.base f.content.horizon) (or_else (guard_refusal c f.content) (or_else past (full_refusal c)))
    (fit_tested c.guarded c f.content.log (length f.content.streams) f.base f.content.horizon)
    (or_tested c.guarded (guard_refusal c f.content) (or_else past (full_refusal c)) (guard_tested c f.content) (or_tested c.guarded past (full_refusal c) (past_tested c (join_touches_past c.content f)) (full_tested c.guarded c)))

refused_tested : (c : NodeContent) (op : Op) → AreTested c.guarded (refusal_of c op)
refused_tested c (Start kind) = refl
refused_tested c (Join f) = join_tested c f
refused_tested c (Merge f) = join_tested c f
refused_tested c (Prune n) =
    let past = past_refusal c (prune_touches_past c.content (prune_reach c n)) in
    if_tested c.guarded c.damaged Damaged _ refl
    (if_tested c.guarded (nat_lt (readable c.content) n) (AheadOfMark (readable c.content)) _ refl
    (or_tested c.guarded past (full_refusal c) (past_tested c (prune_touches_past c.content (prune_reach c n))) (full_tested c.guarded c)))
refused_tested c (HoldAt at) = if_tested c.guarded c.damaged Damaged _ refl (if_tested c.guarded (nat_lt at c.content.horizon) (TooOld c.content.horizon) _ refl (full_tested c.guarded c))
refused_tested c (Release reader at) = if_tested c.guarded c.damaged Damaged _ refl (go (list_any (is_hold reader at) c.holds))
  where
    go : (b : Bool) → AreTested c.guarded (if b then full_refusal c else Some NoHold)
    go true = full_tested c.guarded c
    go false = refl

by_test : (old : Lists) (op : Op) (why : Refusal) (new : Lists) → is_tested (replay (all_of old)).guarded why ≡ true → refusal_of (replay (all_of old)) op ≡ Some why → IsCaughtUp old new → Refuses old op why new
by_test old op Memory new t r u = absurd (cc)
by_test old op (Unpublished n) new t r u = absurd (cc)
by_test old op Conflict new t r u = subst (λ (b : Bool). RefusesConflict b old op new) (sym t) (r, u)
by_test old op why new t r u = (r, u)

-- a change that its tests refuse, once what waited is published
pub test_refuses : (old new : Lists) (op : Op) (why : Refusal) → IsCaughtUp old new → Some why ≡ refusal_of (replay new.0) op → Refuses old op why new
test_refuses old new op why up e =
    let r : refusal_of (replay (all_of old)) op ≡ Some why = ap (λ (l : Lists). refusal_of (replay l.0) op) (sym up) ∙ sym e in
    by_test old op why new (subst (AreTested (replay (all_of old)).guarded) r (refused_tested (replay (all_of old)) op)) r up

-- what a test refuses was not made
pub test_not_made : (lists : Lists) (op : Op) (why : Refusal) → Some why ≡ refusal_of (replay lists.0) op → (n : ℕ) → why ≢ Unpublished n
test_not_made lists op why e n made =
    let t : is_tested (replay lists.0).guarded why ≡ true = subst (AreTested (replay lists.0).guarded) (sym e) (refused_tested (replay lists.0) op) in
    true≢false (sym t ∙ ap (is_tested (replay lists.0).guarded) made)
