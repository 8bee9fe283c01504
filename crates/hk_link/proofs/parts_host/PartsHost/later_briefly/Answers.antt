use Rattle.std.proofs.Common.{◌≡◌, sym, subst, ℕ, true, Option, None, Some, IfSome}
use mathlib.Core.List.{IsPrefix}
use Rattle.hk_model.specs.declared.page.PageQuery.{PageQuery}
use Rattle.hk_messages.specs.declared.request.Request.{Request}
use Rattle.hk_messages.specs.declared.reply.Reply.{Reply}
use Rattle.hk_messages.specs.declared.later_request.LaterRequest.{LaterRequest}
use Rattle.hk_messages.specs.declared.later_request.LaterRequest.TheVariants as asked
use Rattle.hk_messages.specs.declared.later_reply.LaterReply.{LaterReply}
use Rattle.hk_messages.specs.LaterReplies.{reply_seen}
use Rattle.hk_oplog.specs.Replay.{is_legal}
use Rattle.hk_link_state.specs.LaterReplying.{IfTold, IsLaterReply, IsOrMemory, KeepsOther, content_of, page_reply}
use Rattle.hk_link_state.specs.LinkStates.{LinkValue}
use Rattle.hk_link_state.specs.NodeSides.{Sided}
use Rattle.hk_link.proofs.parts_host.PartsHost.later_briefly.Goals as goal

-- a page that is told is the reply to the request for it
page_told : {S : Type 0} (side : Sided S) (may : S → Request → Reply → S → Type 0) (old new : LinkValue S) (request : LaterRequest) (of : PageQuery) (result : Option LaterReply) → request ≡ asked.Page of
    → is_legal (side.list new.inner) ≡ true → IsPrefix (side.list old.inner) (side.list new.inner) → KeepsOther old new → IfTold result (IsOrMemory (page_reply (content_of side new) of))
    → IfSome result (λ reply. IsLaterReply side may old request (reply_seen reply) new)
page_told side may old new request of None is legal seen same told = tt
page_told side may old new request of (Some reply) is legal seen same told =
    subst (λ (r : LaterRequest). IsLaterReply side may old r (reply_seen reply) new) (sym is) ((legal, seen), same, told)

pub returns-in-Page-clause-told : goal.returns-in-Page-clause-told
returns-in-Page-clause-told g c =
    let e = c.page_briefly.ensures in
    page_told g.H.NodeSide.side g.H.Host.may c.args.self.now c.page_briefly.new.self c.args.request.now _ c.page_briefly.result c.in-Page.is e.legal e.seen e.same e.told
