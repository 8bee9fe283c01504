use Rattle.std.proofs.Common.{◌+◌, ◌≤◌, ap, ◌∙◌, subst}
use Rattle.hk_store.proofs.TableLists.{AreListed, IsFound, all_are, listed_last, listed_more, listed_none, not_more}
use Rattle.hk_store.proofs.facts.Facts.tables.Goals as goal

pub loop-next-init : goal.loop-next-init
loop-next-init c =
    let e = c.table_from-next.ensures in
    let found : IsFound c.args.self.now c.new.result c.table_from-next.result = record { has = e.some; later = e.later; least = e.least; none = e.none } in
    rw c.new-tables.ensures.items (listed_none c.args.self.now c.table_from-next.result (subst (λ n. IsFound c.args.self.now n c.table_from-next.result) c.new.ensures found))

pub loop-next-preserved : goal.loop-next-preserved
loop-next-preserved c =
    let are = subst (AreListed c.args.self.now c.loop-next.tables.items) c.in-Some.is c.loop-next.invariant in
    let last : 65535 ≤ c.in-Some.table = not_more c.in-Some.table (λ low. c.in-None.ensures (rw c.number.ensures low)) in
    rw c.in_ok-push.ensures.items (listed_last c.args.self.now c.loop-next.tables.items c.in-Some.table are last)

pub loop-next-preserved-in-Some-checked_add : goal.loop-next-preserved-in-Some-checked_add
loop-next-preserved-in-Some-checked_add c =
    let e = c.table_from-next-in-Some-checked_add.ensures in
    let f = c.args.self.now in
    let next = c.table_from-next-in-Some-checked_add.result in
    let are = subst (AreListed f c.loop-next.tables.items) c.in-Some.is c.loop-next.invariant in
    let found : IsFound f c.new-in-Some-checked_add.result next = record { has = e.some; later = e.later; least = e.least; none = e.none } in
    let number = c.new-in-Some-checked_add.ensures ∙ c.in-Some-checked_add.ensures.1 ∙ ap (λ n. n + 1) c.number.ensures in
    rw c.in_ok-push.ensures.items (listed_more f c.loop-next.tables.items c.in-Some.table next are (subst (λ n. IsFound f n next) number found))

pub returns-clause-ok : goal.returns-clause-ok
returns-clause-ok c = all_are c.args.self.now c.loop-next.tables.items (subst (AreListed c.args.self.now c.loop-next.tables.items) c.in_default.is c.loop-next.invariant)
