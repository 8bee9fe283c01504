use Rattle.std.proofs.Common.{◌≡◌}
use Rattle.hk_budgets.proofs.parts_budget.Stock.take.Given as goal

abbrev pub invariant-tries : goal.invariant-tries
invariant-tries l = (l.room.table_id ≡ l.fn.room.table_id) × (l.room.id ≡ l.fn.room.id) × (l.room.me ≡ l.fn.room.me)
