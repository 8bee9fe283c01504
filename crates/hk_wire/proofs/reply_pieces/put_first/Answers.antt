use Rattle.std.proofs.Common.{ℕ, List, [], ◌++◌, ap, ◌∙◌}
use Rattle.std.specs.Int.{w32}
use Rattle.hk_frames.specs.Fields.{number}
use Rattle.hk_message_head.specs.Messages.{message_text}
use Rattle.hk_messages.specs.Replies.{reply_seen}
use Rattle.hk_wire.specs.Pieces.{AddsItems, AddsFront}
use Rattle.hk_wire.proofs.ReplyPieces.{front_added, if_ok}
use Rattle.hk_wire.proofs.reply_pieces.put_first.Goals as goal

pub returns-clause-ok : goal.returns-clause-ok
returns-clause-ok c =
    let r = reply_seen c.args.reply.now in
    let head = number w32 c.args.rest ++ message_text c.kind_of.result [] in
    if_ok (λ to. AddsItems r 0 to c.put_front.new.out.items c.put_some.new.out.items) (λ to. AddsFront r to c.args.out.now.items c.put_some.new.out.items) c.put_some.result
    (λ to h. front_added r c.args.rest c.kind_of.result to c.args.out.now.items c.put_plain_head.new.out.items c.put_front.new.out.items c.put_some.new.out.items c.requires.len c.kind_of.ensures
    (c.in_ok-put_plain_head.ensures.ok ∙ ap (λ (l : List ℕ). l ++ head) c.in_ok-reserve.ensures.items) c.in_ok-put_front.ensures.ok h)
    c.put_some.ensures.ok
