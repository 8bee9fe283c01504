use Rattle.std.proofs.Common.{◌≡◌}
use Rattle.std.specs.FinMap as finmap
use Rattle.hk_model.specs.History.Commits.{writes_result}
use Rattle.hk_laws.proofs.building.transaction.Given as goal

abbrev pub invariant-loop-write : goal.invariant-loop-write
invariant-loop-write l = record {
  rest : writes_result l.txn.writes l.write-iterator.rest.items ≡ writes_result finmap.empty l.fn.writes.items;
  time : l.txn.read_at ≡ l.fn.read_at;
}
