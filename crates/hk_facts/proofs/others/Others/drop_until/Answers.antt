use Rattle.hk_facts.proofs.PartedChains.{until_both, parted_until}
use Rattle.hk_facts.proofs.others.Others.drop_until.Goals as goal

pub invariant_of-self : goal.invariant_of-self
invariant_of-self c = rw (c.drop_until.ensures, c.drop_until-2.ensures) (parted_until c.self.inside.rows c.self.inside.ends c.self.inside.mixed c.self.invariant c.args.until)

pub returns : goal.returns
returns c = rw (c.drop_until.ensures, c.drop_until-2.ensures, ← c.self.view_is) (until_both c.self.inside.rows c.self.inside.ends c.args.until c.self.invariant.apart)
