-- Words on lists of operations.
use Rattle.std.specs.Prelude.{ℕ, Bool, false, ◌&&◌, ◌==◌, List, [], ◌∷◌, Option, Some, None}
use Rattle.std.specs.List.{filter_map, list_any}
use Rattle.hk_oplog.specs.declared.op.Op.{Op}
use Rattle.hk_oplog.specs.declared.op.Op.TheVariants.{Hold as HoldAt, Release}

abbrev pub last_of : List Op → Option Op
last_of [] = None
last_of (x ∷ []) = Some x
last_of (x ∷ y ∷ ys) = last_of (y ∷ ys)

abbrev pub hold_time : Op → Option ℕ
hold_time (HoldAt at) = Some at
hold_time _ = None

-- the times of the holds of a list. The first has the number 1
abbrev pub hold_times : List Op → List ℕ
hold_times ops = filter_map hold_time ops

abbrev pub releases : ℕ → ℕ → Op → Bool
releases reader at (Release r t) = (r == reader) && (t == at)
releases reader at _ = false

-- whether a list releases the hold of this number and time
abbrev pub is_released : ℕ → ℕ → List Op → Bool
is_released reader at ops = list_any (releases reader at) ops
