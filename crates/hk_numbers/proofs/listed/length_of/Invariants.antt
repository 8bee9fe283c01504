use Rattle.std.proofs.Common.{◌≡◌, ◌+◌, length}
use Rattle.hk_numbers.specs.Listed.{listed}
use Rattle.hk_numbers.proofs.listed.length_of.Given as goal

abbrev pub invariant-loop-first : goal.invariant-loop-first
invariant-loop-first l = l.count + length (listed l.first-iterator) ≡ length (listed l.runs.entries)
