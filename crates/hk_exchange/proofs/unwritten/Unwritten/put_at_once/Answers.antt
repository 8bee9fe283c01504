use Rattle.std.proofs.Common.{rules, ◌≡◌, ◌++◌, List, ℕ, sym, subst}
use Rattle.hk_exchange.specs.Pipes.{TakesFront}
use Rattle.hk_exchange.proofs.Pieces.{all_taken, front_before, front_behind}
use Rattle.hk_exchange.proofs.unwritten.Unwritten.put_at_once.Goals as goal

pub returns-then-not-write-clause-taken : goal.returns-then-not-write-clause-taken
returns-then-not-write-clause-taken g c = front_before _ _ _ _ _ c.args.out.now.items c.write.ensures.taken

pub returns-then-is_empty-clause-taken : goal.returns-then-is_empty-clause-taken
returns-then-is_empty-clause-taken g c =
    let all : c.write.new.self.sent ≡ c.args.self.now.sent ++ c.args.self.now.standing = all_taken c.args.self.now.sent c.write.new.self.sent c.args.self.now.standing c.write.new.self.standing c.write.ensures.kept (search rules) in
    front_behind _ _ _ _ _ _ _ _ c.write.ensures.taken all c.put_first.ensures.taken

pub returns-clause-taken : goal.returns-clause-taken
returns-clause-taken g c =
    let took = front_before _ _ _ _ _ c.args.out.now.items c.write.ensures.taken in
    subst (λ (sent : List ℕ). TakesFront (g.W.Write.contents c.args.socket.now) (g.W.Write.contents c.write.new.socket) c.args.self.now.sent sent (c.args.self.now.standing ++ c.args.out.now.items)) (sym c.put_behind.ensures.sent) took
