use Rattle.std.proofs.Common.{◌∙◌, sym, arith}
use Rattle.hk_marks.proofs.Readers.{length_seen}
use Rattle.hk_marks.proofs.stream.join.missing_counts.Goals as goal

pub returns-clause-none : goal.returns-clause-none
returns-clause-none c = λ none.
    let some = c.all_covered.ensures.some c.if-all_covered.false in
    let empty = sym (length_seen _ c.keys.ensures.ordered) ∙ none in
    absurd (omega arith)
