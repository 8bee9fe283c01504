use Rattle.hk_batch.proofs.Pieces.{IsBuilding}
use Rattle.hk_batch.proofs.batch.union_of_pieces.Given as goal

abbrev pub invariant-loop-part : goal.invariant-loop-part
invariant-loop-part g l = IsBuilding l.fn.config l.size l.fn.items l.whole l.part-iterator.rest.items
