use Rattle.std.proofs.Common.{◌≡◌, ◌++◌, map}
use Rattle.hk_store.specs.Versions.{borrowed}
use Rattle.hk_merge.specs.Plans.{rows_come, ends_come}
use Rattle.hk_merge.proofs.plan.take_whole.Given as goal

abbrev pub invariant-loop-version : goal.invariant-loop-version
invariant-loop-version l = record {
  rows : l.change.rows.items ≡ l.initial.change.rows.items ++ rows_come l.own l.coming.old l.coming.horizon (map borrowed l.yielded);
  ends : l.change.ends.items ≡ l.initial.change.ends.items ++ ends_come l.own l.coming.old l.coming.horizon (map borrowed l.yielded);
  drops : l.change.drops.items ≡ l.initial.change.drops.items;
  horizon : l.change.horizon ≡ l.initial.change.horizon;
}
