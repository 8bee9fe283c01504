use Rattle.std.proofs.Common.{[], ap, ◌++◌}
use Rattle.hk_exchange.proofs.Pieces.{front_before}
use Rattle.hk_exchange.specs.Exchanges.{value_of}
use Rattle.hk_exchange.proofs.Standing.{put_so}
use Rattle.hk_exchange.proofs.exchange.Exchange.write.Goals as goal

pub returns-clause-taken : goal.returns-clause-taken
returns-clause-taken g c = front_before _ _ _ _ _ [] c.write.ensures.taken

pub returns-clause-stays : goal.returns-clause-stays
returns-clause-stays g c passes ready = put_so passes (value_of c.args.self.now) ready ready c.write.new.self (ap (λ l. l ++ ready) c.write.ensures.kept)
