use Rattle.std.proofs.Common.{refl, sym, true≢false}
use Rattle.hk_facts.proofs.PartedChains.{both_empty, rows_empty, ends_empty}
use Rattle.hk_facts.proofs.others.Others.is_empty.Goals as goal

pub returns-then-is_empty : goal.returns-then-is_empty
returns-then-is_empty c =
    let a = c.self.inside in
    rw (← c.self.view_is) ((λ t. both_empty a.rows a.ends (c.if-is_empty.ensures.0 refl) (c.is_empty-then-is_empty.ensures.0 t)), (λ e. c.is_empty-then-is_empty.ensures.1 (ends_empty a.rows a.ends e)))

pub returns-else-is_empty : goal.returns-else-is_empty
returns-else-is_empty c =
    let a = c.self.inside in
    rw (← c.self.view_is) (rw c.if-is_empty.false ((λ t. absurd (true≢false (sym t))), (λ e. c.if-is_empty.ensures.1 (rows_empty a.rows a.ends e))))
