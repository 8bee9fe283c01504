use Rattle.std.proofs.Common.{◌≡◌, ℕ, ◌++◌, is_some}
use Rattle.std.specs.Prelude.{nat_le}
use Rattle.std.specs.Ordering.{nat_cmp}
use Rattle.std.specs.BTreeMap as tree
use Rattle.std.specs.FinSet as set
use Rattle.std.specs.FinMap as finmap
use Rattle.hk_model.specs.Replica.Streams.{covers, stream_with}
use Rattle.hk_marks.specs.Seen.{waiting_seen}
use Rattle.hk_marks.proofs.stream.join.raise_marks.Given as goal

abbrev pub invariant-loop-count : goal.invariant-loop-count
invariant-loop-count l = record {
  settles : (taken : set.FinSet nat_cmp) → ((n : ℕ) → covers taken n ≡ nat_le n l.prefix)
      → stream_with taken l.closed (finmap.entries (waiting_seen l.waiting) ++ l.count-iterator) ≡ stream_with taken l.initial.closed (finmap.entries (waiting_seen l.initial.waiting) ++ l.marks.entries);
  same_counts : (q : ℕ) → is_some (tree.get nat_cmp l.waiting q) ≡ is_some (tree.get nat_cmp l.initial.waiting q);
}
