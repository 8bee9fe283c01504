use Rattle.hk_query.proofs.JoinedPages.{pages_end, pages_go_on}
use Rattle.hk_query.proofs.pages.pages_law.Goals as goal

pub returns-clause-goes_on : goal.returns-clause-goes_on
returns-clause-goes_on c = pages_go_on

pub returns-clause-ends : goal.returns-clause-ends
returns-clause-ends c = pages_end
