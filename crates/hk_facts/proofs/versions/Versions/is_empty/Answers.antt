use Rattle.hk_facts.proofs.StoredTrees.{seen_none, none_seen}
use Rattle.hk_facts.proofs.versions.Versions.is_empty.Goals as goal

pub returns : goal.returns
returns c = rw (← c.self.view_is) (λ t. seen_none c.self.inside.versions (c.is_empty.ensures.0 t), λ e. c.is_empty.ensures.1 (none_seen c.self.inside.versions e))
