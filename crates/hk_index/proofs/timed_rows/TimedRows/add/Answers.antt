use Rattle.std.proofs.Common.{sym, ap, ◌∙◌, true, ◌≡◌, List, ℕ}
use Rattle.std.specs.FinSet as set
use Rattle.hk_index.specs.declared.timed_row.TimedRow.{TimedRow}
use Rattle.hk_index.specs.Timed.{is_in}
use Rattle.hk_index.proofs.TimedLists.{again}
use Rattle.hk_index.proofs.timed_rows.TimedRows.add.Goals as goal

pub returns-then-is_among_last-clause-ok : goal.returns-then-is_among_last-clause-ok
returns-then-is_among_last-clause-ok c =
    let t : TimedRow = record { time = c.args.time; row = c.args.row } in
    let there : is_in c.self.inside.rows.items t ≡ true = ap (λ (l : List TimedRow). is_in l t) (sym c.deref.ensures.value) ∙ ap (λ (n : ℕ). is_in c.deref.result.now (record { time = n; row = c.args.row })) (sym c.number.ensures.value) ∙ c.if-is_among_last.ensures in
    sym c.self.view_is ∙ again c.self.inside.rows.items t there ∙ ap (λ s. set.insert s t) c.self.view_is
