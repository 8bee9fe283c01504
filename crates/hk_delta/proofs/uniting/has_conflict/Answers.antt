use Rattle.std.proofs.Common.{◌∙◌}
use Rattle.hk_delta.proofs.MergeInputs.{listed_conflicts}
use Rattle.hk_delta.proofs.uniting.has_conflict.Goals as goal

pub returns : goal.returns
returns c = c.conflicts_on.ensures ∙ listed_conflicts c.args.own.now.content c.args.other.now.content c.facts.result.now c.facts.ensures.value
