use Rattle.std.proofs.Common.{◌-◌, arith}
use Rattle.hk_messages.specs.Replies.{reply_seen}
use Rattle.hk_wire.proofs.ReplyPieces.{next_ends, inside_rules, inside_size, items_size}
use Rattle.hk_wire.proofs.reply_pieces.encode_next.Goals as goal

pub place_behind-requires-clause-added : goal.place_behind-requires-clause-added
place_behind-requires-clause-added c =
    omega (arith, items_size (reply_seen c.args.reply.now) c.args.from c.in-Ok.items c.args.out.now.items c.put_some.new.out.items c.requires c.in-Ok.ensures.ok, c.len.ensures, c.len-start.ensures)

pub place_behind-requires-clause-fits : goal.place_behind-requires-clause-fits
place_behind-requires-clause-fits c = omega (arith, inside_size (reply_seen c.args.reply.now) c.args.from c.requires)

pub returns-clause-ok : goal.returns-clause-ok
returns-clause-ok c =
    next_ends (reply_seen c.args.reply.now) c.args.from c.in-Ok.items (c.len.result - c.len-start.result) c.args.out.now.items c.put_some.new.out.items c.place_behind.result
    c.requires (omega (arith, c.len.ensures, c.len-start.ensures)) c.in-Ok.ensures.ok c.place_behind.ensures.none c.place_behind.ensures.some c.place_behind.ensures.place

pub put_some-requires-clause-rules : goal.put_some-requires-clause-rules
put_some-requires-clause-rules c = inside_rules (reply_seen c.args.reply.now) c.args.from c.requires
