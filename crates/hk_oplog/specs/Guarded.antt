-- A guarded node is never damaged, and why items are not taken.
use Rattle.std.specs.Prelude.{◌≡◌, ◌⊎◌, if◌then◌else◌, List, Option, Some, None, Result, Ok, Err, true, false}
use Rattle.hk_types.specs.declared.faults.Refusal.{Refusal}
use Rattle.hk_types.specs.declared.faults.Refusal.TheVariants.{Damaged}
use Rattle.hk_log.specs.declared.item.Item.{Item}
use Rattle.hk_model.specs.Replica.Content.{Content}
use Rattle.hk_model.specs.Replica.Fragments.{FragmentValue}
use Rattle.hk_model.specs.Replica.Maps.{or_else}
use Rattle.hk_delta.specs.Agreeing.{fragment_of_taken}
use Rattle.hk_delta.specs.Repeats.{absorb_so, AgreesSo}
use Rattle.hk_oplog.specs.declared.op.Op.{Op}
use Rattle.hk_oplog.specs.declared.op.Op.TheVariants.{Join}
use Rattle.hk_oplog.specs.NodeContent.{NodeContent}
use Rattle.hk_oplog.specs.Replay.{replay, full_refusal, guarded_of, is_legal}

-- no legal list of a guarded node is damaged
abbrev pub GuardLaw : Type 0
GuardLaw = (ops : List Op) → is_legal ops ≡ true → guarded_of ops ≡ true → (replay ops).damaged ≡ false

abbrev pub damage_refusal : NodeContent → Option Refusal
damage_refusal c = if c.damaged then Some Damaged else None

abbrev pub refusal_in : Result Content Refusal → Option Refusal
refusal_in (Ok c) = None
refusal_in (Err why) = Some why

-- why items are not taken: the damage, or the first refusal of absorbing them one after the other, in a guarded node each
-- repeat compared, or that there is no room for one operation more
abbrev pub take_refusal : NodeContent → List Item → Option Refusal
take_refusal c items = or_else (damage_refusal c) (or_else (refusal_in (absorb_so c.guarded c.content items)) (full_refusal c))

-- the join of those of the items that tell something new
abbrev pub join_of_taken : NodeContent → List Item → Op
join_of_taken c items = Join (fragment_of_taken c.content items)

-- the fragment of what items tell a node's content, or that it is damaged
abbrev pub AgreesWith : NodeContent → List Item → Result FragmentValue Refusal → Type 0
AgreesWith c items (Ok f) = (c.damaged ≡ false) × AgreesSo c.guarded c.content items (Ok f)
AgreesWith c items (Err why) = ((c.damaged ≡ true) × (why ≡ Damaged)) ⊎ ((c.damaged ≡ false) × AgreesSo c.guarded c.content items (Err why))
