use Rattle.std.proofs.Common.{take}
use Rattle.hk_chains.specs.Indexed.{AreTaggedOf}
use Rattle.hk_chains.proofs.tag_index.tagged_versions.Given as goal

abbrev pub invariant-loop-key : goal.invariant-loop-key
invariant-loop-key l = AreTaggedOf l.chains l.table l.tag (take l.key-index l.keys) l.found.items
