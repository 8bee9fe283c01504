use Rattle.std.proofs.Common.{◌≡◌, rules, sym, ap, ◌∙◌, subst}
use Rattle.hk_oplog.proofs.SoundReplies.{whole_sound}
use Rattle.hk_oplog.specs.Replies.{GivesOrMemory, node_whole}
use Rattle.hk_oplog.specs.NodeContent.{NodeContent}
use Rattle.hk_oplog.specs.Replay.{replay, IsListOf}
use Rattle.hk_node.specs.declared.replica.Replica.{Replica}
use Rattle.hk_node.proofs.seat.ReaderSeat.whole.Goals as goal

pub returns-in_err-reading-clause-whole : goal.returns-in_err-reading-clause-whole
returns-in_err-reading-clause-whole g c = search rules

pub returns-in_err-reading-clause-sound : goal.returns-in_err-reading-clause-sound
returns-in_err-reading-clause-sound g c = whole_sound _ g.J.NodeName.kind c.enter.new.self c.from_residual.result c.enter.ensures.list (returns-in_err-reading-clause-whole g c)

pub returns-clause-whole : goal.returns-clause-whole
returns-clause-whole g c =
    let body : c.get.result.now.body ≡ replay c.leave.new.self = ap (λ (x : Replica). x.body) c.get.ensures ∙ c.in_ok-reading.ensures.body ∙ ap replay (sym c.leave.ensures) in
    subst (λ (n : NodeContent). GivesOrMemory (node_whole n) c.whole_within-whole.result) body c.whole_within-whole.ensures

pub returns-clause-sound : goal.returns-clause-sound
returns-clause-sound g c =
    let list : IsListOf g.J.NodeName.kind c.leave.new.self = subst (IsListOf g.J.NodeName.kind) (sym c.leave.ensures) c.in_ok-reading.ensures.list in
    whole_sound _ g.J.NodeName.kind c.leave.new.self c.whole_within-whole.result list (returns-clause-whole g c)
