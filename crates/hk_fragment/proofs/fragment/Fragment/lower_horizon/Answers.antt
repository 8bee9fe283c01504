use Rattle.std.proofs.Common.{rules, arith}
use Rattle.hk_fragment.proofs.LoweredFragments.{lowered_is_fragment}
use Rattle.hk_fragment.proofs.fragment.Fragment.lower_horizon.Goals as goal

pub invariant_of-self : goal.invariant_of-self
invariant_of-self c =
    let p = c.self.inside in
    lowered_is_fragment p.config p.base p.horizon c.args.horizon p.got p.facts.items (search rules) c.self.invariant
