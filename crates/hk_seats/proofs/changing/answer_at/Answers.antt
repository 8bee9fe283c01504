use Rattle.hk_seats.proofs.GoingOn.{fed_is_told}
use Rattle.hk_seats.proofs.JoinRequests.{joined_is, read_is}
use Rattle.hk_seats.proofs.changing.answer_at.Goals as goal

pub returns-in-Items : goal.returns-in-Items
returns-in-Items g c = let e = c.take_items.ensures in (e.legal, e.seen, rw (c.in-Items.is, ← c.deref.ensures.value, c.items_told.ensures) e.told)

pub returns-in-Feed : goal.returns-in-Feed
returns-in-Feed g c =
    let e = c.take_items-in-Feed.ensures in
    (e.legal, e.seen, rw (c.in-Feed.is, ← c.deref-in-Feed.ensures.value, c.fed_told.ensures) (fed_is_told _ _ _ _ _ e.told e.new))

pub returns-in-Prune : goal.returns-in-Prune
returns-in-Prune g c = (c.prune.ensures.legal, c.prune.ensures.seen, rw c.in-Prune.is c.prune.ensures.told)

pub returns-in-JoinThis : goal.returns-in-JoinThis
returns-in-JoinThis g c =
    let e = c.reply_to.ensures in
    (e.legal, e.seen, joined_is _ _ _ c.args.request _ _ c.in-JoinThis.is (e.told _ c.join-answered.ensures.change))

pub returns-in_default : goal.returns-in_default
returns-in_default g c =
    let m = c.read_at.ensures in
    (m.0, m.1, read_is _ _ _ c.args.request _ c.in_default.not-Items c.in_default.not-Feed c.in_default.not-JoinThis c.in_default.not-MergeThis c.in_default.not-Prune m.2)
