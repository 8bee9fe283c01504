use Rattle.std.proofs.Common.{◌∙◌}
use Rattle.hk_numbers.proofs.ListedRuns.{count_seen}
use Rattle.hk_numbers.proofs.listed.count.Goals as goal

pub returns : goal.returns
returns c = c.length_of.ensures.value ∙ (count_seen c.args.runs.now c.length_of.ensures.rising)
