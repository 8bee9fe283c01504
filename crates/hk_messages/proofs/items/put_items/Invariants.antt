use Rattle.std.proofs.Common.{◌≡◌, ◌++◌, length, take}
use Rattle.std.specs.Int.{w32}
use Rattle.std.specs.List.{flat_map}
use Rattle.hk_frames.specs.Fields.{number}
use Rattle.hk_messages.specs.Requests.{new_items}
use Rattle.hk_codec.specs.Frames.{encoding_of}
use Rattle.hk_messages.proofs.items.put_items.Given as goal

abbrev pub invariant-loop-item : goal.invariant-loop-item
invariant-loop-item l = l.out.items ≡ l.fn.out.items ++ (number w32 (length (new_items l.items)) ++ flat_map (encoding_of 2) (take l.item-index l.items))
