use Rattle.std.proofs.Common.{◌∙◌, ap, length, sym}
use Rattle.std.specs.FinMap as finmap
use Rattle.hk_marks.proofs.Readers.{entries-waiting_seen}
use Rattle.hk_marks.proofs.stream.Stream.waiting_count.Goals as goal

pub returns : goal.returns
returns c = c.len.ensures.len ∙ rw (← c.self.view_is) (sym (finmap.len-entries _ ∙ ap length (entries-waiting_seen _ c.len.ensures.ordered)))
