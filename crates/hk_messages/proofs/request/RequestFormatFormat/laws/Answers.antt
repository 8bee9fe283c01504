use Rattle.hk_messages.proofs.RequestsReadAgain.{requests_up_to}
use Rattle.hk_messages.proofs.request.RequestFormatFormat.laws.Goals as goal

pub returns-clause-sound : goal.returns-clause-sound
returns-clause-sound g c = requests_up_to g.row.LATEST

pub returns-clause-adds : goal.returns-clause-adds
returns-clause-adds g c = λ before after text left added. added
