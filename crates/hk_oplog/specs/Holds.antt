-- What a hold promises.
use Rattle.std.specs.Prelude.{◌≡◌, ◌+◌, ◌≤◌, ℕ, true, List, All, Some, Result, IfErr, slice_get}
use Rattle.hk_types.specs.declared.faults.Refusal.{Refusal}
use Rattle.hk_types.specs.declared.faults.Refusal.TheVariants.{TooOld}
use Rattle.hk_oplog.specs.declared.op.Op.{Op}
use Rattle.hk_oplog.specs.Lists.{hold_times, is_released}
use Rattle.hk_oplog.specs.Replay.{replay, is_legal}

-- no horizon passes a hold that stands
abbrev pub HoldLaw : Type 0
HoldLaw = (ops : List Op) → is_legal ops ≡ true → All (λ h. (replay ops).content.horizon ≤ h.at) (replay ops).holds

-- the time of a hold of the list is refused as too old only where the list releases that hold
abbrev pub HoldsBack : {X : Type 0} → List Op → ℕ → Result X Refusal → Type 0
HoldsBack ops t result =
    (k horizon : ℕ) → slice_get (hold_times ops) k ≡ Some t → IfErr result (λ why. why ≡ TooOld horizon → is_released (k + 1) t ops ≡ true)
