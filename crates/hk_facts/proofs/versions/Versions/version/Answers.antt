use Rattle.hk_facts.proofs.StoredTrees.{found_seen}
use Rattle.hk_facts.proofs.versions.Versions.version.Goals as goal

pub returns : goal.returns
returns c = rw (← c.self.view_is) (found_seen c.self.inside.versions c.args.born _ c.get.ensures.value)
