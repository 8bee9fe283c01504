use Rattle.std.proofs.Common.{inr, List, subst}
use mathlib.Core.List.{IsPrefix}
use Rattle.hk_oplog.specs.declared.op.Op.{Op}
use Rattle.hk_follow.proofs.Joins.{above_both}
use Rattle.hk_follow.proofs.follower.Follower.take.Goals as goal

pub returns-in-Ok-join-clause-taken : goal.returns-in-Ok-join-clause-taken
returns-in-Ok-join-clause-taken g c =
    let made = c.in-Ok-join.ensures.joined in
    (c.in-Ok.fragment, c.in-Ok.ensures.fits, (above_both c.args.self.now c.streams.new.self _ (subst (λ (l : List Op). IsPrefix l c.streams.new.self) c.self.view_is c.streams.ensures.seen) made.0, made.1, made.2))

pub returns-in-Ok-clause-refused : goal.returns-in-Ok-clause-refused
returns-in-Ok-clause-refused g c = inr (c.in-Ok.fragment, c.in-Ok.ensures.fits, c.in-Err-join.ensures.refused)
