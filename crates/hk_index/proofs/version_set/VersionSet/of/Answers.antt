use Rattle.hk_index.proofs.StoredKeys.{seen-listed}
use Rattle.hk_index.proofs.version_set.VersionSet.of.Goals as goal

pub returns-clause-ok : goal.returns-clause-ok
returns-clause-ok c = seen-listed c.args.versions.now c.in_ok-versions.versions c.in_ok-versions.ensures
