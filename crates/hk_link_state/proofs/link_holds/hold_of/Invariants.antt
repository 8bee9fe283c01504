use Rattle.std.proofs.Common.{◌≡◌, drop}
use Rattle.hk_link_state.specs.LinkStates.{held_by}
use Rattle.hk_link_state.proofs.link_holds.hold_of.Given as goal

abbrev pub invariant-loop-hold : goal.invariant-loop-hold
invariant-loop-hold l = held_by l.number (drop l.hold-index l.holds) ≡ held_by l.number l.holds
