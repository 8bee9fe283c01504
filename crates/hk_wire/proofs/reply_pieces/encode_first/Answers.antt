use Rattle.std.proofs.Common.{◌-◌, arith}
use Rattle.hk_messages.specs.Replies.{reply_seen}
use Rattle.hk_wire.proofs.ReplyPieces.{first_ends, front_size}
use Rattle.hk_wire.proofs.reply_pieces.encode_first.Goals as goal

pub place_behind-requires-clause-added : goal.place_behind-requires-clause-added
place_behind-requires-clause-added c =
    omega (arith, front_size (reply_seen c.args.reply.now) c.in-Some.rest c.in-Ok.items c.args.out.now.items c.put_first.new.out.items c.in-Some.ensures.len.1 c.in-Ok.ensures.ok, c.len.ensures, c.len-start.ensures)

pub returns-clause-ok : goal.returns-clause-ok
returns-clause-ok c =
    first_ends (reply_seen c.args.reply.now) c.in-Some.rest c.in-Ok.items (c.len.result - c.len-start.result) c.args.out.now.items c.put_first.new.out.items c.place_behind.result
    c.in-Some.ensures.len.0 c.in-Some.ensures.len.1 (omega (arith, c.len.ensures, c.len-start.ensures)) c.in-Ok.ensures.ok c.place_behind.ensures.none c.place_behind.ensures.some c.place_behind.ensures.place
