-- How many items tell a node something new.
use Rattle.std.specs.Prelude.{ℕ, Bool, true, false, List, [], ◌∷◌, filter, length, Option, Some, None}
use Rattle.hk_types.specs.declared.faults.Refusal.{Refusal}
use Rattle.hk_log.specs.declared.item.Item.{Item}
use Rattle.hk_model.specs.declared.took.Took.{Took}
use Rattle.hk_model.specs.declared.took.Took.TheVariants.{Taken, Repeated}
use Rattle.hk_model.specs.Replica.Content.{Content}
use Rattle.hk_model.specs.Replica.Items.{wrong_log}
use Rattle.hk_model.specs.Replica.Rules.{took}
use Rattle.hk_oplog.specs.declared.op.Op.{Op}
use Rattle.hk_oplog.specs.Replay.{replay}

abbrev pub is_taken : Took → Bool
is_taken Taken = true
is_taken Repeated = false

-- the same, unless the item is none of the log
abbrev pub is_new_unless : Option Refusal → Took → Bool
is_new_unless (Some why) t = false
is_new_unless None t = is_taken t

-- whether an item of the content's log tells it something new
abbrev pub is_new : Content → Item → Bool
is_new c item = is_new_unless (wrong_log c.log (length c.streams) item) (took c item)

-- how many items do, each compared with the content alone
abbrev pub count_new : Content → List Item → ℕ
count_new c items = length (filter (is_new c) items)

-- all operations of a list but the last
abbrev pub but_last : List Op → List Op
but_last [] = []
but_last (x ∷ []) = []
but_last (x ∷ y ∷ ys) = x ∷ but_last (y ∷ ys)

-- how many items told something new to what a list held before its last operation
abbrev pub new_to : List Op → List Item → ℕ
new_to ops items = count_new (replay (but_last ops)).content items
