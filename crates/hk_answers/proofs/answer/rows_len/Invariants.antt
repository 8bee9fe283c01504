use Rattle.std.proofs.Common.{◌≡◌, ◌≤◌, ◌*◌, length, take, All}
use Rattle.std.specs.List.{flat_map}
use Rattle.hk_answers.specs.Answers as spec
use Rattle.hk_answers.proofs.answer.rows_len.Given as goal

abbrev pub invariant-loop-row : goal.invariant-loop-row
invariant-loop-row l = (l.total ≡ length (flat_map spec.keyed_text (take l.row-index l.rows))) × (l.total ≤ 4110 * l.row-index) × All spec.KeyedFits (take l.row-index l.rows)
