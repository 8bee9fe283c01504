use Rattle.hk_facts.specs.Chains.{is_after}
use Rattle.hk_facts.proofs.NextBorn.{both_chosen}
use Rattle.hk_facts.proofs.others.Others.next.Goals as goal

pub returns-then-is_earlier : goal.returns-then-is_earlier
returns-then-is_earlier c =
    let a = c.self.inside in
    rw (← c.self.view_is) ((both_chosen (is_after c.args.after.now) a.rows a.ends _ _ c.next-row.ensures c.next-end.ensures _ c.is_earlier.ensures).0 c.if-is_earlier.true)

pub returns-else-is_earlier : goal.returns-else-is_earlier
returns-else-is_earlier c =
    let a = c.self.inside in
    rw (← c.self.view_is) ((both_chosen (is_after c.args.after.now) a.rows a.ends _ _ c.next-row.ensures c.next-end.ensures _ c.is_earlier.ensures).1 c.if-is_earlier.false)
