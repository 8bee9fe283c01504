use Rattle.std.proofs.Common.{◌∙◌, ap}
use Rattle.std.specs.FinSet as set
use Rattle.hk_marks.proofs.Readers.{extra_numbers_seen}
use Rattle.hk_marks.proofs.stream.Stream.extra_count.Goals as goal

pub returns : goal.returns
returns c = c.count.ensures ∙ ap set.len (rw (← c.self.view_is) (extra_numbers_seen _ _ c.self.inside.closed c.self.inside.waiting c.self.invariant.stored.extras))
