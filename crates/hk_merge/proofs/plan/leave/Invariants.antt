use Rattle.std.proofs.Common.{◌≡◌, ◌++◌, map, take}
use Rattle.hk_store.specs.Versions.{borrowed}
use Rattle.hk_merge.specs.Sent.{sends_row}
use Rattle.hk_merge.specs.Plans.{all_gone, rows_back, ends_back}
use Rattle.hk_merge.proofs.plan.leave.Given as goal

abbrev pub invariant-loop-version : goal.invariant-loop-version
invariant-loop-version l = record {
  drops : l.change.drops.items ≡ l.initial.change.drops.items ++ all_gone l.leaving.whole l.leaving.horizon (sends_row l.leaving.sent.now) (map borrowed (take l.version-index l.own));
  rows : l.change.rows.items ≡ l.initial.change.rows.items ++ rows_back l.leaving.whole l.leaving.horizon (sends_row l.leaving.sent.now) (map borrowed (take l.version-index l.own));
  ends : l.change.ends.items ≡ l.initial.change.ends.items ++ ends_back l.leaving.whole l.leaving.horizon (sends_row l.leaving.sent.now) (map borrowed (take l.version-index l.own));
  horizon : l.change.horizon ≡ l.initial.change.horizon;
}
