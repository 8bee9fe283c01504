use Rattle.std.proofs.Common.{◌≡◌, map}
use Rattle.std.specs.Map.Iter.{deref_pair}
use Rattle.hk_chains.specs.Reads.{rows_at}
use Rattle.hk_chains.specs.Sizes.{answer_size}
use Rattle.hk_chains.proofs.sizes.bytes_in_range.Given as goal

abbrev pub invariant-loop-row : goal.invariant-loop-row
invariant-loop-row l = l.bytes ≡ answer_size (rows_at l.fn.time (map deref_pair l.yielded))
