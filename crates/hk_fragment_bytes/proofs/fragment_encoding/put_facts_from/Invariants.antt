use Rattle.std.proofs.Common.{◌-◌, length}
use Rattle.hk_fragment_bytes.specs.Fragments.{fact_text}
use Rattle.hk_answers.proofs.AddedPieces.{AddedTo}
use Rattle.hk_fragment_bytes.proofs.fragment_encoding.put_facts_from.Given as goal

abbrev pub invariant-loop-to : goal.invariant-loop-to
invariant-loop-to l = AddedTo fact_text l.facts l.fn.from l.to l.fn.out.items l.out.items

abbrev pub decreases-loop-to : goal.decreases-loop-to
decreases-loop-to l = length l.facts - l.to
