use Rattle.std.proofs.Common.{◌≡◌, ◌≤◌, ◌*◌, length, take, All}
use Rattle.std.specs.List.{flat_map}
use Rattle.hk_codec.specs.Frames.{encoding_of}
use Rattle.hk_codec.specs.Encoding.{IsEncodableItem}
use Rattle.hk_messages.proofs.items.items_len.Given as goal

abbrev pub invariant-loop-item : goal.invariant-loop-item
invariant-loop-item l = (l.total ≡ length (flat_map (encoding_of 2) (take l.item-index l.items))) × (l.total ≤ 4233252 * l.item-index) × All IsEncodableItem (take l.item-index l.items)
