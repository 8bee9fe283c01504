use Rattle.hk_facts.proofs.ListedVersions.{only_empty}
use Rattle.hk_facts.proofs.chain_form.ChainForm.is_empty.Goals as goal

pub returns-in-One : goal.returns-in-One
returns-in-One c = rw c.in-One.is (only_empty c.in-One.first c.is_none.result c.is_none.ensures)
