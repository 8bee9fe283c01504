use Rattle.std.proofs.Common.{map}
use Rattle.hk_chains.specs.Versions.{borrowed}
use Rattle.hk_chains.proofs.TaggedRows.{AreRowsListed}
use Rattle.hk_chains.proofs.tag_index.keys_by_tag.Given as goal

abbrev pub invariant-loop-version : goal.invariant-loop-version
invariant-loop-version l = AreRowsListed l.keys (map borrowed l.yielded)
