use Rattle.std.proofs.Common.{Ok, Err, sym, ◌∙◌}
use Rattle.hk_oplog.specs.declared.op.Op.TheVariants.{Join}
use Rattle.hk_node.proofs.AddedChanges.{adds_changes}
use Rattle.hk_node.proofs.NewItems.{told_new}
use Rattle.hk_node.proofs.RefusalTests.{test_refuses}
use Rattle.hk_node.proofs.change.join_gathered.Goals as goal

pub returns-in-Some-clause-change : goal.returns-in-Some-clause-change
returns-in-Some-clause-change g c = test_refuses c.args.publisher.now c.publish.new.self (Join c.args.fragment) c.in-Some.why c.in-Ok.ensures.lists (sym c.in-Some.is ∙ c.refusal.ensures)

pub returns-in-Ok-add-clause-change : goal.returns-in-Ok-add-clause-change
returns-in-Ok-add-clause-change g c =
    adds_changes c.args.publisher.now c.publish.new.self c.add.new.publisher (Join c.args.fragment) (Ok c.in-Ok-add.receipt) c.publish.ensures.legal.0 c.in-Ok.ensures.lists (sym c.in-None.is ∙ c.refusal.ensures) c.in-Ok-add.ensures.adds

pub returns-in-Err-clause-change : goal.returns-in-Err-clause-change
returns-in-Err-clause-change g c =
    adds_changes c.args.publisher.now c.publish.new.self c.add.new.publisher (Join c.args.fragment) (Err c.in-Err.why) c.publish.ensures.legal.0 c.in-Ok.ensures.lists (sym c.in-None.is ∙ c.refusal.ensures) c.in-Err.ensures.adds

pub returns-in-Ok-add-clause-new : goal.returns-in-Ok-add-clause-new
returns-in-Ok-add-clause-new g c =
    told_new c.publish.new.self.0 c.in-Ok-add.receipt (Join c.args.fragment) c.args.items.now c.count_new-new.result c.in-Ok-add.ensures.adds.1 c.count_new-new.ensures
