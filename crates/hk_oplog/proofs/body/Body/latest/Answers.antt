use Rattle.std.proofs.Common.{subst}
use Rattle.hk_oplog.specs.NodeContent.{NodeContent}
use Rattle.hk_oplog.specs.Pins.{pins_of}
use Rattle.hk_oplog.specs.Replies.{GivesSeen, node_latest, timed_seen}
use Rattle.hk_oplog.proofs.NewestAnswers.{gives_latest, memory_alone}
use Rattle.hk_oplog.proofs.body.Body.latest.Goals as goal

pub returns-clause-latest : goal.returns-clause-latest
returns-clause-latest c =
    let b = c.self.inside in
    let now : NodeContent = record { content = b.state; holds = pins_of b.holds; damaged = b.damaged; guarded = b.guarded; hold_count = b.hold_count; op_count = b.op_count } in
    subst (λ (n : NodeContent). GivesSeen timed_seen (node_latest n c.args.query.now) c.latest.result) c.self.view_is (gives_latest now c.args.query.now c.latest.result c.if-self.false c.latest.ensures.time c.latest.ensures.answer c.latest.ensures.err)

pub returns-clause-err : goal.returns-clause-err
returns-clause-err c = memory_alone c.latest.result c.latest.ensures.err
