use Rattle.std.proofs.Common.{Err, sym, subst}
use Rattle.hk_types.specs.declared.faults.Refusal.{Refusal}
use Rattle.hk_oplog.specs.declared.op.Op.TheVariants.{Release}
use Rattle.hk_node.specs.Changes.{Changes}
use Rattle.hk_node.proofs.change.release_hold.Goals as goal

pub returns-in-Err-clause-change : goal.returns-in-Err-clause-change
returns-in-Err-clause-change g c =
    subst (λ (w : Refusal). Changes c.args.publisher.now (Release c.args.hold.reader c.args.hold.at) (Err w) c.change.new.publisher) (sym c.handed_back.ensures.why) c.in-Err.ensures.change
