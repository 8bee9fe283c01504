use Rattle.std.proofs.Common.{subst}
use Rattle.hk_model.specs.Replica.Pages.{page_seen}
use Rattle.hk_oplog.specs.NodeContent.{NodeContent}
use Rattle.hk_oplog.specs.Pins.{pins_of}
use Rattle.hk_oplog.specs.Replies.{GivesSeen, node_page}
use Rattle.hk_oplog.proofs.NewestAnswers.{gives_page}
use Rattle.hk_oplog.proofs.body.Body.page.Goals as goal

pub returns : goal.returns
returns c =
    let b = c.self.inside in
    let now : NodeContent = record { content = b.state; holds = pins_of b.holds; damaged = b.damaged; guarded = b.guarded; hold_count = b.hold_count; op_count = b.op_count } in
    subst (λ (n : NodeContent). GivesSeen page_seen (node_page n c.args.of.time c.args.of.table c.args.of.low c.args.of.high c.args.of.most) c.page.result) c.self.view_is
    (gives_page now c.args.of.time c.args.of.table c.args.of.low c.args.of.high c.args.of.most c.page.result c.if-self.false c.page.ensures)
