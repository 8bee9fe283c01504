use Rattle.hk_facts.proofs.NextBorn.{last_chosen}
use Rattle.hk_facts.proofs.others.Others.last_before.Goals as goal

pub returns-then-is_later : goal.returns-then-is_later
returns-then-is_later c =
    let a = c.self.inside in
    rw (← c.self.view_is) ((last_chosen a.rows a.ends c.args.time _ _ c.last_before-row.ensures c.last_before-end.ensures _ c.is_later.ensures).0 c.if-is_later.true)

pub returns-else-is_later : goal.returns-else-is_later
returns-else-is_later c =
    let a = c.self.inside in
    rw (← c.self.view_is) ((last_chosen a.rows a.ends c.args.time _ _ c.last_before-row.ensures c.last_before-end.ensures _ c.is_later.ensures).1 c.if-is_later.false)
