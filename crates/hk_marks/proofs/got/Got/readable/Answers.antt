use Rattle.std.proofs.Common.{◌∙◌, ap, length, arith, ◌≤◌}
use Rattle.hk_model.specs.Replica.Content.{least_closed}
use Rattle.hk_marks.proofs.GotRules.{least_from-more, least_from-all}
use Rattle.hk_marks.proofs.got.Got.readable.Goals as goal

pub loop-stream-preserved : goal.loop-stream-preserved
loop-stream-preserved c = least_from-more _ _ _ _ _ _ _ c.loop-stream-test.true c.stream-item.is c.loop-stream.invariant c.closed.ensures c.earlier-least.ensures

pub returns-clause-value : goal.returns-clause-value
returns-clause-value c =
    let same = c.deref-stream-items.ensures.value in
    let least : 1 ≤ length c.deref-stream-items.result.now = omega (arith, ap length same, c.self.invariant.least) in
    least_from-all _ _ _ least (omega arith) c.loop-stream.invariant ∙ ap least_closed (same ∙ c.self.view_is)
