use Rattle.std.proofs.Common.{rules}
use Rattle.hk_link_state.proofs.incoming_parts.IncomingParts.add.Goals as goal

pub shrink-requires : goal.shrink-requires
shrink-requires c = search rules

pub invariant_of-self-in-Err : goal.invariant_of-self-in-Err
invariant_of-self-in-Err c = search rules
