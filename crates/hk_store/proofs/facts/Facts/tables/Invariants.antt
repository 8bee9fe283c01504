use Rattle.hk_store.proofs.TableLists.{AreListed, left_from}
use Rattle.hk_store.proofs.facts.Facts.tables.Given as goal

-- the tables so far, and the next one
abbrev pub invariant-loop-next : goal.invariant-loop-next
invariant-loop-next l = AreListed l.self l.tables.items l.next

abbrev pub decreases-loop-next : goal.decreases-loop-next
decreases-loop-next l = left_from l.next
