use Rattle.std.proofs.Common.{rules, take}
use Rattle.hk_exchange.specs.Pipes.{Takes}
use Rattle.hk_exchange.proofs.Pieces.{front_of}
use Rattle.hk_exchange.proofs.unwritten.Unwritten.write.Goals as goal

pub returns-clause-taken : goal.returns-clause-taken
returns-clause-taken g c =
    let h : Takes (g.W.Write.contents c.args.socket.now) (g.W.Write.contents c.write_some-count.new.socket) c.args.self.now.sent c.note.new.self.sent (take c.write_some-count.result.0 c.args.self.now.standing) = search rules in
    front_of _ _ _ _ _ _ h
