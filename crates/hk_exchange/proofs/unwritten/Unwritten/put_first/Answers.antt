use Rattle.std.proofs.Common.{rules, take}
use Rattle.hk_exchange.specs.Pipes.{Takes}
use Rattle.hk_exchange.proofs.Pieces.{front_of}
use Rattle.hk_exchange.proofs.unwritten.Unwritten.put_first.Goals as goal

pub returns-then-len-count-gt-MOST_HELD-clause-taken : goal.returns-then-len-count-gt-MOST_HELD-clause-taken
returns-then-len-count-gt-MOST_HELD-clause-taken g c =
    let h : Takes (g.W.Write.contents c.args.socket.now) (g.W.Write.contents c.write_some-count.new.socket) c.args.self.now.sent c.note.new.self.sent (take c.write_some-count.result.0 c.args.out.now.items) = search rules in
    front_of _ _ _ _ _ _ h

pub returns-clause-taken : goal.returns-clause-taken
returns-clause-taken g c =
    let h : Takes (g.W.Write.contents c.args.socket.now) (g.W.Write.contents c.write_some-count.new.socket) c.args.self.now.sent c.self-2.inside.sent (take c.write_some-count.result.0 c.args.out.now.items) = search rules in
    front_of _ _ _ _ _ _ h
