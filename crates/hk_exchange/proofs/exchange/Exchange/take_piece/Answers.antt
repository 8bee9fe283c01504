use Rattle.hk_exchange.proofs.Saying.{read_off, read_on, takes_on}
use Rattle.hk_exchange.proofs.exchange.Exchange.take_piece.Goals as goal

pub returns-then-not-is_apart-clause-takes : goal.returns-then-not-is_apart-clause-takes
returns-then-not-is_apart-clause-takes g c = takes_on g.H.Host.may c.args.host.now c.take.new.host c.args.piece.now c.args.out.now.items c.take.new.out.items _ c.take.result c.args.self.now.session c.take.new.self c.take.ensures.takes

pub returns-in-Ok-clause-takes : goal.returns-in-Ok-clause-takes
returns-in-Ok-clause-takes g c = read_on g.H.Host.may c.args.host.now c.args.piece.now c.args.out.now.items c.args.self.now.session c.read.new.self c.in-Ok.ensures.ok

pub returns-in-Err-clause-takes : goal.returns-in-Err-clause-takes
returns-in-Err-clause-takes g c = read_off g.H.Host.may c.args.host.now c.args.piece.now c.args.out.now.items c.args.self.now.session c.read.new.self c.in-Err.ensures.err
