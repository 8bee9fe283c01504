-- Items that agree with a node that is not damaged.
use Rattle.std.proofs.Common.{◌≡◌, false, List, Result, Ok, Err, inr}
use Rattle.hk_types.specs.declared.faults.Refusal.{Refusal}
use Rattle.hk_log.specs.declared.item.Item.{Item}
use Rattle.hk_model.specs.Replica.Fragments.{FragmentValue}
use Rattle.hk_delta.specs.Repeats.{AgreesSo}
use Rattle.hk_oplog.specs.NodeContent.{NodeContent}
use Rattle.hk_oplog.specs.Guarded.{AgreesWith}

pub agrees_whole : (c : NodeContent) (items : List Item) (r : Result FragmentValue Refusal) → c.damaged ≡ false → AgreesSo c.guarded c.content items r → AgreesWith c items r
agrees_whole c items (Ok f) whole h = (whole, h)
agrees_whole c items (Err why) whole h = inr (whole, h)
