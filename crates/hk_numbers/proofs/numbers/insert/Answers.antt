use Rattle.hk_numbers.proofs.SeenRuns.{seen_one, same_seen, on_ok, on_err}
use Rattle.hk_numbers.proofs.numbers.insert.Goals as goal

pub returns-clause-ok : goal.returns-clause-ok
returns-clause-ok c = (on_ok _ _ c.add.result (seen_one _ _ c.requires.kept.proper c.add.ensures.runs _) c.add.ensures.ok)

pub returns-clause-err : goal.returns-clause-err
returns-clause-err c = (on_err _ _ c.add.result (same_seen _ _) c.add.ensures.err)
