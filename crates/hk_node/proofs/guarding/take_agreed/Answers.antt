use Rattle.std.proofs.Common.{Ok, Err, ap, sym, ◌∙◌}
use Rattle.hk_oplog.specs.Replay.{full_refusal, replay}
use Rattle.hk_oplog.specs.declared.op.Op.TheVariants.{Join}
use Rattle.hk_node.proofs.GuardedChanges.{join_passes, take_made, take_refused}
use Rattle.hk_node.proofs.NewItems.{told_new}
use Rattle.hk_node.proofs.guarding.take_agreed.Goals as goal

pub returns-in-Err-clause-take : goal.returns-in-Err-clause-take
returns-in-Err-clause-take g c = take_refused c.args.publisher.now c.publish.new.self c.args.items.now c.in-Err.why c.in-Ok.ensures.lists c.in-Err.ensures

pub returns-in-Ok-add-clause-take : goal.returns-in-Ok-add-clause-take
returns-in-Ok-add-clause-take g c =
    take_made c.args.publisher.now c.publish.new.self c.add.new.publisher c.args.items.now c.in-Ok-agreed.fragment (Ok c.in-Ok-add.receipt) c.publish.ensures.legal.0 c.in-Ok.ensures.lists c.in-Ok-agreed.ensures
    (sym c.in_default-full_refusal.is ∙ c.full_refusal.ensures ∙ ap full_refusal c.published.ensures.body) c.in-Ok-add.ensures.adds

pub returns-in-Err-add-clause-take : goal.returns-in-Err-add-clause-take
returns-in-Err-add-clause-take g c =
    take_made c.args.publisher.now c.publish.new.self c.add.new.publisher c.args.items.now c.in-Ok-agreed.fragment (Err c.in-Err-add.why) c.publish.ensures.legal.0 c.in-Ok.ensures.lists c.in-Ok-agreed.ensures
    (sym c.in_default-full_refusal.is ∙ c.full_refusal.ensures ∙ ap full_refusal c.published.ensures.body) c.in-Err-add.ensures.adds

pub returns-in-Ok-add-clause-new : goal.returns-in-Ok-add-clause-new
returns-in-Ok-add-clause-new g c =
    told_new c.publish.new.self.0 c.in-Ok-add.receipt (Join c.in-Ok-agreed.fragment) c.args.items.now c.count_new-new.result c.in-Ok-add.ensures.adds.1 c.count_new-new.ensures

pub add-requires-clause-legal : goal.add-requires-clause-legal
add-requires-clause-legal g c =
    join_passes (replay c.publish.new.self.0) c.args.items.now c.in-Ok-agreed.fragment c.in-Ok-agreed.ensures (sym c.in_default-full_refusal.is ∙ c.full_refusal.ensures ∙ ap full_refusal c.published.ensures.body)
