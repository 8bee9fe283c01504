use Rattle.hk_laws.proofs.MergeWithItself.{merged_itself}
use Rattle.hk_laws.proofs.among.same.Goals as goal

pub returns-clause-whole : goal.returns-clause-whole
returns-clause-whole c = merged_itself c.args.state.now c.horizon-lawful.ensures.lawful
