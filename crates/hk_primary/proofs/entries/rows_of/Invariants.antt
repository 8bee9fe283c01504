use Rattle.std.proofs.Common.{◌≡◌, ◌++◌}
use Rattle.std.specs.List.{filter_map}
use Rattle.std.specs.FinMap as finmap
use Rattle.hk_model.specs.History.Histories.{put_row}
use Rattle.hk_primary.proofs.entries.rows_of.Given as goal

abbrev pub invariant-loop-write : goal.invariant-loop-write
invariant-loop-write l = l.rows.items ++ filter_map put_row l.write-iterator ≡ filter_map put_row (finmap.values l.txn.writes)
