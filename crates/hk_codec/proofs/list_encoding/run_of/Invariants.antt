use Rattle.std.proofs.Common.{◌≡◌, take, All}
use Rattle.hk_codec.proofs.list_encoding.run_of.Given as goal

abbrev pub invariant-loop-element : goal.invariant-loop-element
invariant-loop-element g l = (l.count ≡ l.element-index) × All (λ x. (g.E.Elements.place x).0 ≡ l.table) (take l.element-index l.elements)
