use Rattle.std.proofs.Common.{◌∙◌, ap, subst, sym}
use Rattle.std.proofs.lemmas.Map.Keys.{IsStrictlyIncreasing-from_sorted}
use Rattle.std.specs.List.Sorted.{IsStrictlyIncreasing}
use Rattle.std.specs.Map.{keys_of}
use Rattle.hk_marks.proofs.Readers.{entries-waiting_seen}
use Rattle.hk_marks.proofs.stream.Stream.waiting_marks.Goals as goal

pub returns-clause-value : goal.returns-clause-value
returns-clause-value c = c.iter.ensures.rest ∙ rw (← c.self.view_is) (sym (entries-waiting_seen _ c.iter.ensures.ordered))

pub returns-clause-rising : goal.returns-clause-rising
returns-clause-rising c = subst IsStrictlyIncreasing (sym (ap keys_of c.iter.ensures.rest)) (IsStrictlyIncreasing-from_sorted _ c.iter.ensures.ordered)
