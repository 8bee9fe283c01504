use Rattle.std.proofs.Common.{sym, subst}
use Rattle.std.proofs.lemmas.List.Filters.{dedup_is}
use Rattle.std.proofs.lemmas.List.Kept.{IsStrictlySortedBy-dedup}
use Rattle.std.specs.List.Sorted.{IsStrictlySortedBy}
use Rattle.hk_model.specs.History.Rows.{row_key_cmp}
use Rattle.hk_model.proofs.Replica.Maps.{row_key_same, row_key_total}
use Rattle.hk_index.proofs.Once.{sorted_once}
use Rattle.hk_index.proofs.TimedLists.{equal_rows}
use Rattle.hk_index.proofs.timed_rows.rising.Goals as goal

pub returns-clause-same : goal.returns-clause-same
returns-clause-same c row = sorted_once row_key_cmp row_key_same _ equal_rows c.args.rows.items c.sort_unstable.new.self.items c.dedup.new.self.items c.sort_unstable.ensures.permutation (dedup_is _ c.sort_unstable.new.self.items _ c.dedup.ensures.filtered) row

pub returns-clause-rising : goal.returns-clause-rising
returns-clause-rising c =
    subst (IsStrictlySortedBy row_key_cmp) (sym (dedup_is _ c.sort_unstable.new.self.items _ c.dedup.ensures.filtered))
    (IsStrictlySortedBy-dedup row_key_total equal_rows c.sort_unstable.new.self.items c.sort_unstable.ensures.sorted)
