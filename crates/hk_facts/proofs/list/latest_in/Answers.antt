use Rattle.std.proofs.Common.{◌∙◌, sym, ap, arith}
use Rattle.std.specs.Option.{is_some}
use Rattle.hk_facts.proofs.StoredTrees.{none_at, some_at}
use Rattle.hk_facts.proofs.ListedVersions.{latest_front, latest_here, latest_before}
use Rattle.hk_facts.proofs.list.latest_in.Goals as goal

pub loop-end-init : goal.loop-end-init
loop-end-init c = (c.count_until-end.ensures.within, latest_front c.args.list.now c.args.time c.count_until-end.result c.requires c.count_until-end.ensures.front c.count_until-end.ensures.back)

pub returns-then-is_some : goal.returns-then-is_some
returns-then-is_some c =
    sym (latest_here c.args.list.now c.loop-end.end c.index-list-end.result c.index-list-end.is c.loop-end-test.true c.loop-end.invariant.0 (some_at (λ x. x.now) c.row.result _ c.row.ensures.value (sym c.is_some.ensures ∙ c.if-is_some.true)))
    ∙ c.loop-end.invariant.1

pub loop-end-preserved : goal.loop-end-preserved
loop-end-preserved c = (
  omega arith,
  sym (latest_before c.args.list.now c.loop-end.end c.index-list-end.result c.index-list-end.is c.loop-end-test.true c.loop-end.invariant.0 (ap is_some (none_at (λ x. x.now) c.row.result _ c.row.ensures.value (sym c.is_some.ensures ∙ c.if-is_some.false))))
      ∙ c.loop-end.invariant.1,
)
