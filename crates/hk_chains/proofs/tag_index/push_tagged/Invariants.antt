use Rattle.std.proofs.Common.{◌≡◌, ◌++◌, filter, take}
use Rattle.hk_chains.specs.Indexed.{has_tag}
use Rattle.hk_chains.proofs.tag_index.push_tagged.Given as goal

abbrev pub invariant-loop-version : goal.invariant-loop-version
invariant-loop-version l = l.found.items ≡ l.fn.found.items ++ filter (has_tag l.chains l.tag) (take l.version-index l.versions)
