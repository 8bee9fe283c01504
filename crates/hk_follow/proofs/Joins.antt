-- What a follower's join is refused by.
use Rattle.std.proofs.Common.{◌≡◌, ◌<◌, ℕ, List, length, Result, Ok, Err, sym, ap, subst, ◌∙◌, arith, length-append}
use mathlib.Core.List.{IsPrefix}
use Rattle.std.specs.Prelude.{IfErr}
use Rattle.hk_types.specs.declared.faults.Refusal.{Refusal}
use Rattle.hk_types.specs.declared.faults.Refusal.TheVariants.{Unpublished}
use Rattle.hk_node.specs.Changes.{ChangesSome}
use Rattle.hk_oplog.specs.declared.op.NodeKind.{NodeKind}
use Rattle.hk_oplog.specs.declared.op.Op.{Op}
use Rattle.hk_seats.proofs.WaitingChanges.{change_waits}

-- a receipt that tells the seat nothing new is told as a change that waits
pub waits : (kind : NodeKind) (op : Op) (receipt : List Op) (result : Result ℕ Refusal) → ChangesSome kind op (Ok receipt) → IfErr result (λ why. why ≡ Unpublished (length receipt)) → IfErr result (λ why. ChangesSome kind op (Err why))
waits kind op receipt (Ok n) made told = tt
waits kind op receipt (Err why) made told = subst (λ (w : Refusal). ChangesSome kind op (Err w)) (sym told) (change_waits kind op receipt made)

-- what is above the length of a list is above that of each that it goes on from
pub above_both : (old now : List Op) (n : ℕ) → IsPrefix old now → length now < n → length old < n
above_both old now n p l = let e = ap length (sym p.1) ∙ length-append old p.0 in omega arith
