use Rattle.std.proofs.Common.{sym, ◌∙◌}
use Rattle.hk_facts.specs.Parted.{is_later}
use Rattle.hk_facts.proofs.PartedChains.{latest_rows, rows_win, ends_win}
use Rattle.hk_facts.proofs.others.Others.latest.Goals as goal

pub returns-then-not-self : goal.returns-then-not-self
returns-then-not-self c =
    let a = c.self.inside in
    rw (← c.self.view_is) (c.latest.ensures ∙ latest_rows c.args.time a.rows a.ends c.self.invariant.apart (c.self.invariant.bare c.if-not-self.true))

pub returns-then-is_later : goal.returns-then-is_later
returns-then-is_later c =
    let a = c.self.inside in
    let row = c.latest-row.ensures in
    rw (← c.self.view_is) (row ∙ rows_win c.args.time a.rows a.ends c.self.invariant.apart (sym (λ i. is_later (row i) (c.latest-end.ensures i)) ∙ sym c.is_later.ensures ∙ c.if-is_later.true))

pub returns-else-is_later : goal.returns-else-is_later
returns-else-is_later c =
    let a = c.self.inside in
    let end = c.latest-end.ensures in
    rw (← c.self.view_is) (end ∙ ends_win c.args.time a.rows a.ends c.self.invariant.apart (sym (λ i. is_later (c.latest-row.ensures i) (end i)) ∙ sym c.is_later.ensures ∙ c.if-is_later.false))
