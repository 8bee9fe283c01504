use Rattle.std.proofs.Common.{◌∙◌, sym}
use Rattle.hk_index.proofs.StoredKeys.{contains-seen}
use Rattle.hk_index.proofs.version_set.VersionSet.has.Goals as goal

pub returns : goal.returns
returns c = c.contains.ensures ∙ rw (← c.self.view_is) (sym (contains-seen _ _))
