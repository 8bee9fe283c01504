use Rattle.std.proofs.Common.{sym, ◌∙◌}
use Rattle.hk_node.proofs.AddedChanges.{adds_changes}
use Rattle.hk_node.proofs.RefusalTests.{test_refuses}
use Rattle.hk_node.proofs.change.change.Goals as goal

pub returns-in-Some-clause-change : goal.returns-in-Some-clause-change
returns-in-Some-clause-change g c = test_refuses c.args.publisher.now c.publish.new.self c.args.op c.in-Some.why c.in-Ok.ensures.lists (sym c.in-Some.is ∙ c.refusal.ensures)

pub returns-clause-change : goal.returns-clause-change
returns-clause-change g c =
    adds_changes c.args.publisher.now c.publish.new.self c.add.new.publisher c.args.op c.add.result c.publish.ensures.legal.0 c.in-Ok.ensures.lists (sym c.in_default-refusal.is ∙ c.refusal.ensures) c.add.ensures.adds
