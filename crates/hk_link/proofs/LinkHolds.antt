-- Holds of a link.
use Rattle.std.proofs.Common.{◌≡◌, ℕ, ◌-◌, List, [], ◌∷◌, ◌++◌, length, take, nat_lt, true, None, Err, inl, inr, refl, Option, Result, ap, subst, ◌∙◌, length-append, arith}
use Rattle.std.proofs.Math.Seq.{take-append_seam}
use Rattle.hk_types.specs.declared.faults.Refusal.{Refusal}
use Rattle.hk_messages.specs.LaterReplies.{ReplyValue, Refused}
use Rattle.hk_oplog.specs.declared.op.Hold.{Hold}
use Rattle.hk_link_state.specs.LinkStates.{LinkValue}
use Rattle.hk_link_state.specs.LaterReplying.{AsksHold, AsksHoldInPlace, IsFull, IsHeld, LacksPlace, most_holds}

-- all but the one that was put last
all_but_last : (xs : List Hold) (x : Hold) → take (length (xs ++ x ∷ []) - 1) (xs ++ x ∷ []) ≡ xs
all_but_last xs x =
    let n : length (xs ++ x ∷ []) - 1 ≡ length xs = let l = length-append xs (x ∷ []) in omega (arith, l) in
    ap (λ (k : ℕ). take k (xs ++ x ∷ [])) n ∙ take-append_seam xs (x ∷ [])

-- a place was made free behind the holds of the link, and then a hold was asked for
pub hold_asked : {S : Type 0} (may_hold : S → ℕ → Result Hold (Option Hold × Refusal) → S → Type 0) (l : LinkValue S) (room : Hold) (holds : List Hold) (time : ℕ) (reply : ReplyValue) (new : LinkValue S)
    → holds ≡ l.holds ++ room ∷ [] → AsksHoldInPlace may_hold (record l { holds = holds }) time reply new → AsksHold may_hold l time reply new
hold_asked may_hold l room holds time reply new pushed asked =
    subst (λ (h : List Hold). AsksHold may_hold (record l { holds = h }) time reply new) (ap (λ (h : List Hold). take (length h - 1) h) pushed ∙ all_but_last l.holds room) asked

-- there was no memory for a place, and the node says why it gives none
pub hold_unheld : {S : Type 0} (may_hold : S → ℕ → Result Hold (Option Hold × Refusal) → S → Type 0) (l : LinkValue S) (inner : S) (time : ℕ) (why : Refusal)
    → nat_lt (length l.holds) most_holds ≡ true → may_hold l.inner time (Err (None, why)) inner → IsHeld may_hold l time (Refused why) (record l { inner = inner })
hold_unheld may_hold l inner time why room held = inr (room, inl (Err (None, why), held, refl, refl))

-- there is no place for one more, of the link or of all links, and the node refuses it so
pub hold_full : {S : Type 0} (may_hold : S → ℕ → Result Hold (Option Hold × Refusal) → S → Type 0) (l : LinkValue S) (time most : ℕ) (reply : ReplyValue) (new : LinkValue S)
    → LacksPlace l.holds most → IsFull most may_hold l time reply new → IsHeld may_hold l time reply new
hold_full may_hold l time most reply new (inl lacks) full = inl (lacks.0, subst (λ (m : ℕ). IsFull m may_hold l time reply new) lacks.1 full)
hold_full may_hold l time most reply new (inr lacks) full = inr (lacks.0, inr (subst (λ (m : ℕ). IsFull m may_hold l time reply new) lacks.1 full))
