use Rattle.hk_facts.proofs.ListedVersions.{only_sorted}
use Rattle.hk_facts.proofs.chain_form.only.Goals as goal

pub returns-clause-sorted : goal.returns-clause-sorted
returns-clause-sorted c = only_sorted c.args.first.now c.as_slice.result.now c.as_slice.ensures
