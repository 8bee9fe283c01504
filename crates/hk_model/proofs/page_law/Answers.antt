use Rattle.hk_model.proofs.Replica.Pages.{page_fits}
use Rattle.hk_model.proofs.page_law.Goals as goal

pub returns-clause-fits : goal.returns-clause-fits
returns-clause-fits c = page_fits
