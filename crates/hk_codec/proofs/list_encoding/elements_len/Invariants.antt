use Rattle.std.proofs.Common.{◌≡◌, ◌≤◌, ◌*◌, length, take, All}
use Rattle.std.specs.List.{flat_map}
use Rattle.hk_codec.proofs.list_encoding.elements_len.Given as goal

abbrev pub invariant-loop-element : goal.invariant-loop-element
invariant-loop-element g l = (l.total ≡ length (flat_map g.E.Elements.text (take l.element-index l.elements))) × (l.total ≤ 4110 * l.element-index) × All g.E.Elements.Fits (take l.element-index l.elements)
