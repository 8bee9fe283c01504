use Rattle.std.proofs.Common.{rules}
use Rattle.hk_budgets.proofs.Budgets.{returns}
use Rattle.hk_budgets.proofs.parts_budget.Stock.give_back.Goals as goal

pub fetch_add-before-requires : goal.fetch_add-before-requires
fetch_add-before-requires c =
    let inside = c.self.invariant in (
      search rules,
      search rules,
      returns _ _ _ _ _ _ c.requires.has (rw inside.0 inside.2),
    )
