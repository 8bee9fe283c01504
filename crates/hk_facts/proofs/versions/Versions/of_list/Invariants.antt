use Rattle.std.proofs.Common.{ℕ, ◌≡◌, take, nat_cmp}
use Rattle.std.specs.BTreeMap as tree
use Rattle.std.specs.Map.{lookup}
use Rattle.hk_facts.specs.Listed.{if_row}
use Rattle.hk_facts.proofs.versions.Versions.of_list.Given as goal

abbrev pub invariant-loop-born : goal.invariant-loop-born
invariant-loop-born l = (q : ℕ) → tree.get nat_cmp l.versions q ≡ if_row l.with_row (lookup (tree.is_at (nat_cmp q)) (take l.born-index l.list))
