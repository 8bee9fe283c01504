use Rattle.std.proofs.Common.{sym, ◌∙◌}
use Rattle.hk_oplog.specs.declared.op.Op.TheVariants.{Hold as HoldAt}
use Rattle.hk_node.proofs.RefusalTests.{test_refuses, test_not_made}
use Rattle.hk_node.proofs.change.hold_refusal.Goals as goal

pub returns-in-Some-clause-refuses : goal.returns-in-Some-clause-refuses
returns-in-Some-clause-refuses g c =
    test_refuses c.args.publisher.now c.publish.new.self (HoldAt c.args.time) c.in-Some.why c.in-Ok.ensures.lists (sym c.in-Some.is ∙ c.refusal.ensures)

pub returns-in-Some-clause-none : goal.returns-in-Some-clause-none
returns-in-Some-clause-none g c = test_not_made c.publish.new.self (HoldAt c.args.time) c.in-Some.why (sym c.in-Some.is ∙ c.refusal.ensures)
