use Rattle.std.proofs.Common.{◌≡◌, ◌++◌, length, map}
use Rattle.std.specs.FinMap as finmap
use Rattle.hk_chains.specs.Stated.{sought_in}
use Rattle.hk_chains.specs.Versions.{borrowed}
use Rattle.hk_chains.proofs.WalkedChains.{born_after}
use Rattle.hk_chains.proofs.stated.push_sought.Given as goal

-- what was found, and what is found of those that are left, are what was there and all that is found
abbrev pub invariant-loop-version : goal.invariant-loop-version
invariant-loop-version l = map borrowed l.found.items ++ sought_in l.row l.sought (born_after l.after (finmap.entries l.chain)) ≡ map borrowed l.fn.found.items ++ sought_in l.row l.sought (finmap.entries l.chain)

abbrev pub decreases-loop-version : goal.decreases-loop-version
decreases-loop-version l = length (born_after l.after (finmap.entries l.chain))
