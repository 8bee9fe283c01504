use Rattle.hk_delta.proofs.ComparedRepeats.{not_compared}
use Rattle.hk_delta.proofs.agreeing.agreed.Goals as goal

pub returns : goal.returns
returns c = not_compared c.args.state.now c.args.items.now c.agreed_so.result c.agreed_so.ensures
