use Rattle.std.proofs.Common.{subst}
use Rattle.hk_oplog.specs.NodeContent.{NodeContent}
use Rattle.hk_oplog.specs.Pins.{pins_of}
use Rattle.hk_oplog.specs.Guarded.{AgreesWith}
use Rattle.hk_oplog.proofs.AgreedItems.{agrees_whole}
use Rattle.hk_oplog.proofs.body.Body.agreed.Goals as goal

pub returns : goal.returns
returns c =
    let b = c.self.inside in
    let now : NodeContent = record { content = b.state; holds = pins_of b.holds; damaged = b.damaged; guarded = b.guarded; hold_count = b.hold_count; op_count = b.op_count } in
    subst (λ (n : NodeContent). AgreesWith n c.args.items.now c.agreed_so.result) c.self.view_is (agrees_whole now c.args.items.now c.agreed_so.result c.if-self.false c.agreed_so.ensures)
