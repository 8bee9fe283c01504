use Rattle.std.specs.BTreeSet as sorted
use Rattle.std.proofs.lemmas.Iterator.{YieldsList-from_slice}
use Rattle.std.proofs.lemmas.Iterator.Adapters.{fact_from_collect}
use Rattle.std.proofs.lemmas.Iterator.Consumers.{YieldsList-from_copied, YieldsList-at}
use Rattle.hk_model.specs.History.Rows.{version_key_cmp}
use Rattle.hk_index.proofs.version_set.set_of.Goals as goal

pub returns : goal.returns
returns c = fact_from_collect (sorted.IsFromIterResult version_key_cmp) c.collect.result c.collect.ensures.ran (YieldsList-from_copied (YieldsList-at c.copied.ensures.source (YieldsList-from_slice c.args.versions.now c.iter.ensures.rest)))
