use Rattle.std.proofs.Common.{take}
use Rattle.hk_delta.specs.Agreeing.{IsLearnt}
use Rattle.hk_delta.proofs.agreeing.learn_all.Given as goal

abbrev pub invariant-loop-item : goal.invariant-loop-item
invariant-loop-item l = IsLearnt l.state (take l.item-index l.items) l.news
