use Rattle.std.proofs.Common.{◌≤◌, ◌+◌, reverse}
use Rattle.std.specs.Vec.{vec_capacity, vec_len}
use Rattle.hk_fragment.proofs.MergedLists.{Halfway}
use Rattle.hk_fragment.proofs.merging.merged.Given as goal

abbrev pub invariant-loop-known : goal.invariant-loop-known
invariant-loop-known l = record {
  merged : Halfway l.fn.own.items l.fn.coming.items l.own.items l.coming.items (reverse l.found.items);
  room : vec_len l.found + (vec_len l.own + vec_len l.coming) ≤ vec_capacity l.found;
}

abbrev pub decreases-loop-known : goal.decreases-loop-known
decreases-loop-known l = vec_len l.own + vec_len l.coming
