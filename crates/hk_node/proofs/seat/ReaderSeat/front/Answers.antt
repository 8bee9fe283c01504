use Rattle.std.proofs.Common.{◌≡◌, Result, Ok, Err, inr, refl, rules, sym, ap, ◌∙◌, subst}
use Rattle.hk_model.specs.declared.front.Front.{Front}
use Rattle.hk_types.specs.declared.faults.Refusal.{Refusal}
use Rattle.hk_oplog.proofs.SoundReplies.{front_sound}
use Rattle.hk_oplog.specs.Replies.{GivesOrMemory, node_front}
use Rattle.hk_oplog.specs.NodeContent.{NodeContent}
use Rattle.hk_oplog.specs.Replay.{replay, IsListOf}
use Rattle.hk_node.specs.declared.replica.Replica.{Replica}
use Rattle.hk_node.proofs.seat.ReaderSeat.front.Goals as goal

gives : (r : Result Front Refusal) → GivesOrMemory r r
gives (Ok x) = refl
gives (Err why) = inr refl

pub returns-in_err-reading-clause-front : goal.returns-in_err-reading-clause-front
returns-in_err-reading-clause-front g c = search rules

pub returns-in_err-reading-clause-sound : goal.returns-in_err-reading-clause-sound
returns-in_err-reading-clause-sound g c = front_sound _ g.J.NodeName.kind c.enter.new.self c.from_residual.result c.enter.ensures.list (returns-in_err-reading-clause-front g c)

pub returns-clause-front : goal.returns-clause-front
returns-clause-front g c =
    let body : c.get.result.now.body ≡ replay c.leave.new.self = ap (λ (x : Replica). x.body) c.get.ensures ∙ c.in_ok-reading.ensures.body ∙ ap replay (sym c.leave.ensures) in
    subst (GivesOrMemory (node_front (replay c.leave.new.self))) (sym (c.front-front.ensures ∙ ap node_front body)) (gives (node_front (replay c.leave.new.self)))

pub returns-clause-sound : goal.returns-clause-sound
returns-clause-sound g c =
    let list : IsListOf g.J.NodeName.kind c.leave.new.self = subst (IsListOf g.J.NodeName.kind) (sym c.leave.ensures) c.in_ok-reading.ensures.list in
    front_sound _ g.J.NodeName.kind c.leave.new.self c.front-front.result list (returns-clause-front g c)
