use Rattle.std.proofs.Common.{◌≡◌, rules, sym, ap, ◌∙◌, subst}
use Rattle.hk_oplog.proofs.FinalAnswers.{final_latest}
use Rattle.hk_oplog.proofs.Carries.{primary_answers_latest}
use Rattle.hk_oplog.proofs.SoundReplies.{latest_sound}
use Rattle.hk_oplog.specs.Replies.{GivesSeen, node_latest, timed_seen}
use Rattle.hk_oplog.specs.NodeContent.{NodeContent}
use Rattle.hk_oplog.specs.Replay.{replay, IsListOf}
use Rattle.hk_node.specs.declared.replica.Replica.{Replica}
use Rattle.hk_node.proofs.seat.ReaderSeat.latest.Goals as goal

pub returns-in_err-reading-clause-latest : goal.returns-in_err-reading-clause-latest
returns-in_err-reading-clause-latest g c = search rules

pub returns-in_err-reading-clause-primary : goal.returns-in_err-reading-clause-primary
returns-in_err-reading-clause-primary g c = primary_answers_latest c.enter.new.self c.args.query.now c.from_residual.result c.enter.ensures.list.0 (returns-in_err-reading-clause-latest g c)

pub returns-in_err-reading-clause-sound : goal.returns-in_err-reading-clause-sound
returns-in_err-reading-clause-sound g c = latest_sound _ g.J.NodeName.kind c.enter.new.self c.from_residual.result c.enter.ensures.list c.args.query.now (returns-in_err-reading-clause-latest g c)

pub returns-in_err-reading-clause-stays : goal.returns-in_err-reading-clause-stays
returns-in_err-reading-clause-stays g c is = final_latest g.J.NodeName.kind c.enter.new.self c.args.query.now c.from_residual.result c.enter.ensures.list is (returns-in_err-reading-clause-latest g c)

pub returns-clause-latest : goal.returns-clause-latest
returns-clause-latest g c =
    let body : c.get.result.now.body ≡ replay c.leave.new.self = ap (λ (x : Replica). x.body) c.get.ensures ∙ c.in_ok-reading.ensures.body ∙ ap replay (sym c.leave.ensures) in
    subst (λ (n : NodeContent). GivesSeen timed_seen (node_latest n c.args.query.now) c.latest_within-latest.result) body c.latest_within-latest.ensures.latest

pub returns-clause-primary : goal.returns-clause-primary
returns-clause-primary g c =
    let list : IsListOf g.J.NodeName.kind c.leave.new.self = subst (IsListOf g.J.NodeName.kind) (sym c.leave.ensures) c.in_ok-reading.ensures.list in
    primary_answers_latest c.leave.new.self c.args.query.now c.latest_within-latest.result list.0 (returns-clause-latest g c)

pub returns-clause-sound : goal.returns-clause-sound
returns-clause-sound g c =
    let list : IsListOf g.J.NodeName.kind c.leave.new.self = subst (IsListOf g.J.NodeName.kind) (sym c.leave.ensures) c.in_ok-reading.ensures.list in
    latest_sound _ g.J.NodeName.kind c.leave.new.self c.latest_within-latest.result list c.args.query.now (returns-clause-latest g c)

pub returns-clause-stays : goal.returns-clause-stays
returns-clause-stays g c is =
    let list : IsListOf g.J.NodeName.kind c.leave.new.self = subst (IsListOf g.J.NodeName.kind) (sym c.leave.ensures) c.in_ok-reading.ensures.list in
    final_latest g.J.NodeName.kind c.leave.new.self c.args.query.now c.latest_within-latest.result list is (returns-clause-latest g c)
