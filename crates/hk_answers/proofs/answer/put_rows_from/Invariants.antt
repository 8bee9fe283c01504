use Rattle.std.proofs.Common.{◌-◌, length}
use Rattle.hk_answers.specs.Answers.{keyed_text}
use Rattle.hk_answers.proofs.AddedPieces.{AddedTo}
use Rattle.hk_answers.proofs.answer.put_rows_from.Given as goal

abbrev pub invariant-loop-to : goal.invariant-loop-to
invariant-loop-to l = AddedTo keyed_text l.rows l.fn.from l.to l.fn.out.items l.out.items

abbrev pub decreases-loop-to : goal.decreases-loop-to
decreases-loop-to l = length l.rows - l.to
