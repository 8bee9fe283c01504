use Rattle.hk_facts.proofs.ListedVersions.{no_entries}
use Rattle.hk_facts.proofs.few.Few.is_empty.Goals as goal

pub returns : goal.returns
returns c = rw (← c.self.view_is) (no_entries c.self.inside.versions.items c.self.inside.versions.len c.is_empty.result c.self.inside.versions.ok.0 c.is_empty.ensures)
