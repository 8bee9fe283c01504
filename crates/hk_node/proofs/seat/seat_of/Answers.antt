use Rattle.std.proofs.Common.{rules}
use Rattle.hk_node.proofs.PublishedCopy.{admits, forks, learns}
use Rattle.hk_node.proofs.seat.seat_of.Goals as goal

pub reader-requires : goal.reader-requires
reader-requires g c = admits

pub tell-requires : goal.tell-requires
tell-requires g c = forks _ _

pub learn-requires : goal.learn-requires
learn-requires g c = record { own = search rules; rule = learns _ _ _ _ }
