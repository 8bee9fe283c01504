use Rattle.std.proofs.Common.{◌≡◌, ◌++◌, map, filter, take}
use Rattle.hk_index.specs.Timed.{is_within}
use Rattle.hk_index.proofs.timed_rows.push_rows.Given as goal

abbrev pub invariant-loop-timed : goal.invariant-loop-timed
invariant-loop-timed l = l.found.items ≡ l.fn.found.items ++ map (λ t. t.row) (filter (is_within l.span) (take l.timed-index l.rows))
