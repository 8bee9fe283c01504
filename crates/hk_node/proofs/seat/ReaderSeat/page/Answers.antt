use Rattle.std.proofs.Common.{◌≡◌, rules, sym, ap, ◌∙◌, subst}
use Rattle.hk_model.specs.Replica.Pages.{page_seen}
use Rattle.hk_oplog.proofs.FinalAnswers.{final_page}
use Rattle.hk_oplog.proofs.SoundReplies.{page_sound}
use Rattle.hk_oplog.specs.Replies.{GivesSeen, node_page}
use Rattle.hk_oplog.specs.NodeContent.{NodeContent}
use Rattle.hk_oplog.specs.Replay.{replay, IsListOf}
use Rattle.hk_node.specs.declared.replica.Replica.{Replica}
use Rattle.hk_node.proofs.seat.ReaderSeat.page.Goals as goal

pub returns-in_err-reading-clause-page : goal.returns-in_err-reading-clause-page
returns-in_err-reading-clause-page g c = search rules

pub returns-in_err-reading-clause-sound : goal.returns-in_err-reading-clause-sound
returns-in_err-reading-clause-sound g c = page_sound _ g.J.NodeName.kind c.enter.new.self c.from_residual.result c.enter.ensures.list c.args.of.time c.args.of.table c.args.of.low c.args.of.high c.args.of.most (returns-in_err-reading-clause-page g c)

pub returns-in_err-reading-clause-stays : goal.returns-in_err-reading-clause-stays
returns-in_err-reading-clause-stays g c is = final_page g.J.NodeName.kind c.enter.new.self c.args.of.time c.args.of.table c.args.of.low c.args.of.high c.args.of.most c.from_residual.result c.enter.ensures.list is (returns-in_err-reading-clause-page g c)

pub returns-clause-page : goal.returns-clause-page
returns-clause-page g c =
    let body : c.get.result.now.body ≡ replay c.leave.new.self = ap (λ (x : Replica). x.body) c.get.ensures ∙ c.in_ok-reading.ensures.body ∙ ap replay (sym c.leave.ensures) in
    subst (λ (n : NodeContent). GivesSeen page_seen (node_page n c.args.of.time c.args.of.table c.args.of.low c.args.of.high c.args.of.most) c.page-page.result) body c.page-page.ensures

pub returns-clause-sound : goal.returns-clause-sound
returns-clause-sound g c =
    let list : IsListOf g.J.NodeName.kind c.leave.new.self = subst (IsListOf g.J.NodeName.kind) (sym c.leave.ensures) c.in_ok-reading.ensures.list in
    page_sound _ g.J.NodeName.kind c.leave.new.self c.page-page.result list c.args.of.time c.args.of.table c.args.of.low c.args.of.high c.args.of.most (returns-clause-page g c)

pub returns-clause-stays : goal.returns-clause-stays
returns-clause-stays g c is =
    let list : IsListOf g.J.NodeName.kind c.leave.new.self = subst (IsListOf g.J.NodeName.kind) (sym c.leave.ensures) c.in_ok-reading.ensures.list in
    final_page g.J.NodeName.kind c.leave.new.self c.args.of.time c.args.of.table c.args.of.low c.args.of.high c.args.of.most c.page-page.result list is (returns-clause-page g c)
