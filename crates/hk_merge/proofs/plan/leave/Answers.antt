use Rattle.std.proofs.Common.{refl, ◌∙◌, arith, cond, [], ◌∷◌}
use Rattle.hk_store.specs.Facts.{entry_if}
use Rattle.hk_store.specs.Versions.{borrowed}
use Rattle.hk_merge.specs.Sent.{sends_row}
use Rattle.hk_merge.specs.Plans.{goes, row_back, end_back}
use Rattle.hk_merge.proofs.GrowingLists.{grown_none, grown_more}
use Rattle.hk_merge.proofs.plan.leave.Goals as goal

pub loop-version-init : goal.loop-version-init
loop-version-init c = record {
  drops = grown_none c.args.change.now.drops.items;
  rows = grown_none c.args.change.now.rows.items;
  ends = grown_none c.args.change.now.ends.items;
  horizon = refl;
}

pub loop-version-preserved : goal.loop-version-preserved
loop-version-preserved c =
    let l = c.args.leaving.now in
    let e = c.in_ok-leave_version.ensures in
    let o = c.loop-version in
    record {
      drops = grown_more borrowed (λ e. cond (goes l.whole l.horizon (sends_row l.sent.now) e.0 e.1) (e.0 ∷ []) []) c.args.change.now.drops.items o.change.drops.items c.leave_version.new.change.drops.items c.args.own.now o.version-index c.loop-version-item.result c.loop-version-item.is (omega arith) o.invariant.drops e.drops;
      rows = grown_more borrowed (λ e. entry_if e.0 (row_back l.whole l.horizon (sends_row l.sent.now) e.0 e.1)) c.args.change.now.rows.items o.change.rows.items c.leave_version.new.change.rows.items c.args.own.now o.version-index c.loop-version-item.result c.loop-version-item.is (omega arith) o.invariant.rows e.rows;
      ends = grown_more borrowed (λ e. entry_if e.0 (end_back l.whole l.horizon (sends_row l.sent.now) e.0 e.1)) c.args.change.now.ends.items o.change.ends.items c.leave_version.new.change.ends.items c.args.own.now o.version-index c.loop-version-item.result c.loop-version-item.is (omega arith) o.invariant.ends e.ends;
      horizon = c.leave_version.ensures.horizon ∙ o.invariant.horizon;
    }
