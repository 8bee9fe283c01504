use Rattle.std.proofs.Common.{subst, sym}
use Rattle.hk_model.specs.Replica.Lawful.{IsLawfulStream}
use Rattle.hk_marks.proofs.Prefixes.{prefix_reached}
use Rattle.hk_marks.proofs.Readers.{lawful_seen}
use Rattle.hk_marks.proofs.StoredStreams.{covers_seen}
use Rattle.hk_marks.proofs.stream.Stream.prefix.Goals as goal

pub returns-clause-value : goal.returns-clause-value
returns-clause-value c = rw (← c.self.view_is) (covers_seen _ _ c.self.invariant.stored.extras)

pub returns-clause-greatest : goal.returns-clause-greatest
returns-clause-greatest c = rw (← c.self.view_is) (sym (prefix_reached _ _ (covers_seen _ _ c.self.invariant.stored.extras)))

pub returns-clause-lawful : goal.returns-clause-lawful
returns-clause-lawful c = subst IsLawfulStream c.self.view_is (lawful_seen _ _ c.self.inside.closed _ c.self.invariant.stored)
