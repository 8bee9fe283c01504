use Rattle.hk_oplog.specs.declared.op.Op.TheVariants.{Prune}
use Rattle.hk_seats.proofs.changing.prune.Goals as goal

pub returns-in-Ok-clause-told : goal.returns-in-Ok-clause-told
returns-in-Ok-clause-told g c = c.reply_to.ensures.told (Prune c.args.horizon) c.in-Ok.ensures.change

pub returns-in-Err-clause-told : goal.returns-in-Err-clause-told
returns-in-Err-clause-told g c = c.reply_to-in-Err.ensures.told (Prune c.args.horizon) c.in-Err.ensures.change
