use Rattle.std.proofs.Common.{rules}
use Rattle.hk_link_state.proofs.link_state.LinkState.make_place.Goals as goal

pub shrink-requires : goal.shrink-requires
shrink-requires c = search rules

pub invariant_of-self-then-is_err : goal.invariant_of-self-then-is_err
invariant_of-self-then-is_err c = search rules

pub invariant_of-self-else-is_err : goal.invariant_of-self-else-is_err
invariant_of-self-else-is_err c = search rules
