use Rattle.std.proofs.Common.{◌≡◌, None}
use Rattle.hk_chains.specs.Reads.{rows_at}
use Rattle.hk_chains.proofs.FilledPages.{Fills}
use Rattle.hk_chains.proofs.page.page_in_range.Given as goal

abbrev pub invariant-loop-row : goal.invariant-loop-row
invariant-loop-row l = record {
  fills : Fills l.fn.time l.fn.most l.fn.room (rows_at l.fn.time l.initial.row-iterator) l.page l.row-iterator;
  free : l.fn.looks ≡ None → l.left ≡ None;
}
