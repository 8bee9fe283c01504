use Rattle.std_collections.proofs.IterRuns.{shows_in_order}
use Rattle.std.proofs.lemmas.Map.Keys.{IsStrictlyIncreasing-from_sorted}
use Rattle.hk_numbers.proofs.ListedRuns.{listed_seen, listed_rises}
use Rattle.hk_numbers.proofs.listed.numbers_of.Goals as goal

pub returns-clause-value : goal.returns-clause-value
returns-clause-value c = (listed_seen c.args.runs.now c.iter.result c.iter.ensures.rest)

pub returns-clause-rising : goal.returns-clause-rising
returns-clause-rising c = IsStrictlyIncreasing-from_sorted _ (listed_rises c.args.runs.now c.requires c.iter.result c.iter.ensures.rest c.iter.ensures.found)

pub returns-clause-runs : goal.returns-clause-runs
returns-clause-runs c = shows_in_order (λ x. x)
