use Rattle.hk_numbers.proofs.JoinedRuns.{seen_union, seen_with_none}
use Rattle.hk_numbers.proofs.numbers.settle_all.Goals as goal

pub returns-clause-unites : goal.returns-clause-unites
returns-clause-unites c = seen_union _ _ _ c.requires.kept.proper c.requires.others.proper c.settle.ensures.runs c.settle.ensures.unites

pub returns-then-is_empty-clause-unites : goal.returns-then-is_empty-clause-unites
returns-then-is_empty-clause-unites c = seen_with_none c.args.runs.now c.args.others.now c.requires.kept.proper c.requires.others.proper (c.is_empty.ensures.0 c.if-is_empty.true)
