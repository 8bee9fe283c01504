use Rattle.std.proofs.Common.{rules}
use Rattle.hk_budgets.proofs.Budgets.{takes}
use Rattle.hk_budgets.proofs.parts_budget.Stock.take.Goals as goal

pub compare_exchange-found-requires : goal.compare_exchange-found-requires
compare_exchange-found-requires c = (search rules, search rules, takes _ _ _ _ _ _ _ (search rules))
