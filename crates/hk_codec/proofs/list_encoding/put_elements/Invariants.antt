use Rattle.std.proofs.Common.{◌≡◌, ◌++◌, take}
use Rattle.std.specs.List.{flat_map}
use Rattle.hk_codec.proofs.list_encoding.put_elements.Given as goal

abbrev pub invariant-loop-element : goal.invariant-loop-element
invariant-loop-element g l = l.out.items ≡ l.fn.out.items ++ flat_map g.E.Elements.text (take l.element-index l.elements)
