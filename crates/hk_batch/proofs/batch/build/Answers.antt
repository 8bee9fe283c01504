use Rattle.hk_delta.proofs.GatheredWhole.{of_history}
use Rattle.std.proofs.Common.{Ok}
use Rattle.hk_batch.proofs.batch.build.Goals as goal

pub returns-in-Ok-clause-represents : goal.returns-in-Ok-clause-represents
returns-in-Ok-clause-represents g c = of_history c.args.config c.args.items.now (Ok c.in-Ok.fragment) c.in-Ok.ensures.0
