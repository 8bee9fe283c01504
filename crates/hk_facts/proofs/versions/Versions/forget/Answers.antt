use Rattle.hk_facts.specs.Facts.{without}
use Rattle.hk_facts.proofs.StoredTrees.{alter_absent, alter_there, alter_gone}
use Rattle.hk_facts.proofs.ForgottenParts.{nothing_left}
use Rattle.hk_facts.proofs.versions.Versions.forget.Goals as goal

pub returns-in_default : goal.returns-in_default
returns-in_default c = rw (c.get_mut.follows.holds-at-none, ← c.self.view_is) (alter_absent c.self.inside.versions c.args.born (without c.args.part) c.in_default.ensures.value (nothing_left c.args.part))

pub returns-then-take_back : goal.returns-then-take_back
returns-then-take_back c = rw (← c.self.view_is) (alter_there c.self.inside.versions (c.get_mut.follows.lender c.take_back.new.version) c.args.born _ _ (without c.args.part) c.in-Some.ensures.value (c.get_mut.follows.holds c.take_back.new.version).3 c.if-take_back.ensures.left)

pub returns : goal.returns
returns c = rw (← c.self.view_is) (alter_gone c.self.inside.versions (c.get_mut.follows.lender c.take_back.new.version) c.args.born c.remove.new.self _ _ (without c.args.part) c.in-Some.ensures.value (c.get_mut.follows.holds c.take_back.new.version).3 c.remove.ensures.updates c.if-take_back.ensures.gone)
