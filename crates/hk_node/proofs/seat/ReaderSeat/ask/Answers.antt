use Rattle.std.proofs.Common.{◌≡◌, rules, sym, ap, ◌∙◌, subst}
use Rattle.hk_oplog.proofs.FinalAnswers.{final_answer}
use Rattle.hk_oplog.proofs.Carries.{primary_answers}
use Rattle.hk_oplog.proofs.HoldsBack.{reply_holds_back}
use Rattle.hk_oplog.proofs.SoundReplies.{asked_sound}
use Rattle.hk_oplog.specs.Replies.{Answers, node_reply}
use Rattle.hk_oplog.specs.NodeContent.{NodeContent}
use Rattle.hk_oplog.specs.Replay.{replay, IsListOf}
use Rattle.hk_node.specs.declared.replica.Replica.{Replica}
use Rattle.hk_node.proofs.seat.ReaderSeat.ask.Goals as goal

pub returns-in_err-reading-clause-answer : goal.returns-in_err-reading-clause-answer
returns-in_err-reading-clause-answer g c = search rules

pub returns-in_err-reading-clause-held : goal.returns-in_err-reading-clause-held
returns-in_err-reading-clause-held g c = reply_holds_back c.enter.new.self c.args.time c.args.query.now c.from_residual.result c.enter.ensures.list.0 (returns-in_err-reading-clause-answer g c)

pub returns-in_err-reading-clause-primary : goal.returns-in_err-reading-clause-primary
returns-in_err-reading-clause-primary g c = primary_answers c.enter.new.self c.args.time c.args.query.now c.from_residual.result c.enter.ensures.list.0 (returns-in_err-reading-clause-answer g c)

pub returns-in_err-reading-clause-sound : goal.returns-in_err-reading-clause-sound
returns-in_err-reading-clause-sound g c = asked_sound _ g.J.NodeName.kind c.enter.new.self c.from_residual.result c.enter.ensures.list c.args.time c.args.query.now (returns-in_err-reading-clause-answer g c)

pub returns-in_err-reading-clause-stays : goal.returns-in_err-reading-clause-stays
returns-in_err-reading-clause-stays g c is = final_answer g.J.NodeName.kind c.enter.new.self c.args.time c.args.query.now c.from_residual.result c.enter.ensures.list is (returns-in_err-reading-clause-answer g c)

pub returns-clause-answer : goal.returns-clause-answer
returns-clause-answer g c =
    let body : c.get.result.now.body ≡ replay c.leave.new.self = ap (λ (x : Replica). x.body) c.get.ensures ∙ c.in_ok-reading.ensures.body ∙ ap replay (sym c.leave.ensures) in
    subst (λ (n : NodeContent). Answers (node_reply n c.args.time c.args.query.now) c.answer_within-answer.result) body c.answer_within-answer.ensures

pub returns-clause-held : goal.returns-clause-held
returns-clause-held g c =
    let list : IsListOf g.J.NodeName.kind c.leave.new.self = subst (IsListOf g.J.NodeName.kind) (sym c.leave.ensures) c.in_ok-reading.ensures.list in
    reply_holds_back c.leave.new.self c.args.time c.args.query.now c.answer_within-answer.result list.0 (returns-clause-answer g c)

pub returns-clause-primary : goal.returns-clause-primary
returns-clause-primary g c =
    let list : IsListOf g.J.NodeName.kind c.leave.new.self = subst (IsListOf g.J.NodeName.kind) (sym c.leave.ensures) c.in_ok-reading.ensures.list in
    primary_answers c.leave.new.self c.args.time c.args.query.now c.answer_within-answer.result list.0 (returns-clause-answer g c)

pub returns-clause-sound : goal.returns-clause-sound
returns-clause-sound g c =
    let list : IsListOf g.J.NodeName.kind c.leave.new.self = subst (IsListOf g.J.NodeName.kind) (sym c.leave.ensures) c.in_ok-reading.ensures.list in
    asked_sound _ g.J.NodeName.kind c.leave.new.self c.answer_within-answer.result list c.args.time c.args.query.now (returns-clause-answer g c)

pub returns-clause-stays : goal.returns-clause-stays
returns-clause-stays g c is =
    let list : IsListOf g.J.NodeName.kind c.leave.new.self = subst (IsListOf g.J.NodeName.kind) (sym c.leave.ensures) c.in_ok-reading.ensures.list in
    final_answer g.J.NodeName.kind c.leave.new.self c.args.time c.args.query.now c.answer_within-answer.result list is (returns-clause-answer g c)
