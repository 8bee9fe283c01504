use Rattle.hk_index.proofs.TimedSets.{added, kept_or_added}
use Rattle.hk_index.proofs.timed_rows.TimedRows.add_if.Goals as goal

pub returns-in-Some-clause-ok : goal.returns-in-Some-clause-ok
returns-in-Some-clause-ok c = added c.args.self.now c.add.new.self c.args.time c.in-Some.time c.args.row c.in-Some.is c.add.result c.add.ensures.ok

pub returns-in-Some-clause-kept : goal.returns-in-Some-clause-kept
returns-in-Some-clause-kept c = kept_or_added c.args.self.now c.add.new.self c.in-Some.time c.args.row c.add.result c.add.ensures.ok c.add.ensures.kept
