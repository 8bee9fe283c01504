use Rattle.std.proofs.Common.{◌≡◌, rules, sym, ap, ◌∙◌, subst}
use Rattle.hk_oplog.proofs.HoldsBack.{delta_holds_back}
use Rattle.hk_oplog.proofs.SoundReplies.{delta_sound}
use Rattle.hk_oplog.specs.Replies.{GivesOrMemory, node_delta}
use Rattle.hk_oplog.specs.NodeContent.{NodeContent}
use Rattle.hk_oplog.specs.Replay.{replay, IsListOf}
use Rattle.hk_node.specs.declared.replica.Replica.{Replica}
use Rattle.hk_node.proofs.seat.ReaderSeat.delta_since.Goals as goal

pub returns-in_err-reading-clause-delta : goal.returns-in_err-reading-clause-delta
returns-in_err-reading-clause-delta g c = search rules

pub returns-in_err-reading-clause-held : goal.returns-in_err-reading-clause-held
returns-in_err-reading-clause-held g c = delta_holds_back c.enter.new.self c.args.base c.from_residual.result c.enter.ensures.list.0 (returns-in_err-reading-clause-delta g c)

pub returns-in_err-reading-clause-sound : goal.returns-in_err-reading-clause-sound
returns-in_err-reading-clause-sound g c = delta_sound _ g.J.NodeName.kind c.enter.new.self c.from_residual.result c.enter.ensures.list c.args.base (returns-in_err-reading-clause-delta g c)

pub returns-clause-delta : goal.returns-clause-delta
returns-clause-delta g c =
    let body : c.get.result.now.body ≡ replay c.leave.new.self = ap (λ (x : Replica). x.body) c.get.ensures ∙ c.in_ok-reading.ensures.body ∙ ap replay (sym c.leave.ensures) in
    subst (λ (n : NodeContent). GivesOrMemory (node_delta n c.args.base) c.delta_within-delta.result) body c.delta_within-delta.ensures

pub returns-clause-held : goal.returns-clause-held
returns-clause-held g c =
    let list : IsListOf g.J.NodeName.kind c.leave.new.self = subst (IsListOf g.J.NodeName.kind) (sym c.leave.ensures) c.in_ok-reading.ensures.list in
    delta_holds_back c.leave.new.self c.args.base c.delta_within-delta.result list.0 (returns-clause-delta g c)

pub returns-clause-sound : goal.returns-clause-sound
returns-clause-sound g c =
    let list : IsListOf g.J.NodeName.kind c.leave.new.self = subst (IsListOf g.J.NodeName.kind) (sym c.leave.ensures) c.in_ok-reading.ensures.list in
    delta_sound _ g.J.NodeName.kind c.leave.new.self c.delta_within-delta.result list c.args.base (returns-clause-delta g c)
