use Rattle.std.proofs.Common.{subst}
use Rattle.hk_frames.specs.Fields.{GivesOrRunsOut}
use Rattle.hk_messages.specs.Requests.{request_seen}
use Rattle.hk_messages.proofs.PlainItems.{request_plain}
use Rattle.hk_messages.proofs.request.RequestFormatFormat.read_rest.Goals as goal

pub returns : goal.returns
returns g c = subst (λ r. GivesOrRunsOut request_seen c.read_request.result r) (request_plain g.row.LATEST c.args.rest.now) c.read_request.ensures
