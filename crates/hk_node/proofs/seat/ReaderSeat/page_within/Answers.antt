use Rattle.std.proofs.Common.{◌≡◌, sym, ap, ◌∙◌, subst, ℕ, true, List, Option, None, Some, Result, Ok, Err}
use Rattle.hk_types.specs.declared.faults.Refusal.{Refusal}
use Rattle.hk_model.specs.declared.page.Page.{Page}
use Rattle.hk_oplog.specs.declared.op.NodeKind.{NodeKind}
use Rattle.hk_oplog.specs.declared.op.Op.{Op}
use Rattle.hk_oplog.proofs.FinalAnswers.{final_page}
use Rattle.hk_oplog.specs.Final.{IsPageFinalOrNone}
use Rattle.hk_oplog.specs.NodeContent.{NodeContent}
use Rattle.hk_oplog.specs.Replay.{replay, IsListOf}
use Rattle.hk_oplog.specs.Replies.{GivesPageOrNone}
use Rattle.hk_node.specs.declared.replica.Replica.{Replica}
use Rattle.hk_node.proofs.seat.ReaderSeat.page_within.Goals as goal

-- a page that a call gave which may give up is final, as each page is
final_or_none : (kind : NodeKind) (ops : List Op) (t table low high most : ℕ) (result : Result (Option Page) Refusal) → IsListOf kind ops → kind.guarded ≡ true → GivesPageOrNone (replay ops) t table low high most result → IsPageFinalOrNone ops t table low high most result
final_or_none kind ops t table low high most (Ok None) of is h = tt
final_or_none kind ops t table low high most (Ok (Some page)) of is h = final_page kind ops t table low high most (Ok page) of is h
final_or_none kind ops t table low high most (Err why) of is h = tt

pub returns-clause-page : goal.returns-clause-page
returns-clause-page g c =
    let body : c.get.result.now.body ≡ replay c.leave.new.self = ap (λ (x : Replica). x.body) c.get.ensures ∙ c.in_ok-reading.ensures.body ∙ ap replay (sym c.leave.ensures) in
    subst (λ (n : NodeContent). GivesPageOrNone n c.args.of.time c.args.of.table c.args.of.low c.args.of.high c.args.of.most c.page_within-page.result) body c.page_within-page.ensures

pub returns-clause-stays : goal.returns-clause-stays
returns-clause-stays g c is =
    let list : IsListOf g.J.NodeName.kind c.leave.new.self = subst (IsListOf g.J.NodeName.kind) (sym c.leave.ensures) c.in_ok-reading.ensures.list in
    final_or_none g.J.NodeName.kind c.leave.new.self c.args.of.time c.args.of.table c.args.of.low c.args.of.high c.args.of.most c.page_within-page.result list is (returns-clause-page g c)
