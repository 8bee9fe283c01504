-- How many items told something new to what a list held before its last operation.
use Rattle.std.proofs.Common.{◌≡◌, ℕ, List, [], ◌∷◌, ◌++◌, refl, sym, ap, ◌∙◌}
use Rattle.hk_log.specs.declared.item.Item.{Item}
use Rattle.hk_oplog.specs.declared.op.Op.{Op}
use Rattle.hk_oplog.specs.NewItems.{but_last, count_new, new_to}
use Rattle.hk_oplog.specs.Replay.{replay}

but_last_snoc : (ops : List Op) (op : Op) → but_last (ops ++ op ∷ []) ≡ ops
but_last_snoc [] op = refl
but_last_snoc (x ∷ []) op = refl
but_last_snoc (x ∷ y ∷ ys) op = ap (λ (l : List Op). x ∷ l) (but_last_snoc (y ∷ ys) op)

pub told_new : (ops told : List Op) (op : Op) (items : List Item) (n : ℕ) → told ≡ ops ++ op ∷ [] → n ≡ count_new (replay ops).content items → n ≡ new_to told items
told_new ops told op items n is counted = counted ∙ ap (λ (l : List Op). count_new (replay l).content items) (sym (ap but_last is ∙ but_last_snoc ops op))
