use Rattle.hk_chains.proofs.Indexed.{none_tagged}
use Rattle.hk_store.proofs.StatedFacts.{none_later, none_stated}
use Rattle.hk_store.proofs.facts.Facts.new.Goals as goal

pub invariant_of-result : goal.invariant_of-result
invariant_of-result c = rw (c.new.ensures, c.new-2.ensures, c.new-3.ensures) (record { tagged = none_tagged; stated = none_stated; later = none_later _ })
