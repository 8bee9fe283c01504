use Rattle.hk_store.proofs.EntryConflicts.{row_conflict, end_conflict, found_first, found_second}
use Rattle.hk_store.proofs.facts.Facts.conflicts_with_entry.Goals as goal

pub returns-then-has_another_row : goal.returns-then-has_another_row
returns-then-has_another_row c =
    let e = c.args.entry.now in
    found_first c.has_another_row.result _ _ (row_conflict c.args.self.now.rows e c.rows.result.now c.time.result c.has_another_row.result c.rows.ensures.lawful.rows_rise c.rows.ensures.value c.time.ensures c.has_another_row.ensures) c.if-has_another_row.true

pub returns-else-has_another_row : goal.returns-else-has_another_row
returns-else-has_another_row c =
    let e = c.args.entry.now in
    found_second c.has_another_row.result c.has_another_end.result _ _
    (row_conflict c.args.self.now.rows e c.rows.result.now c.time.result c.has_another_row.result c.rows.ensures.lawful.rows_rise c.rows.ensures.value c.time.ensures c.has_another_row.ensures)
    c.if-has_another_row.false
    (end_conflict c.args.self.now.ends e c.ends.result.now c.time-else-has_another_row.result c.has_another_end.result c.ends.ensures.lawful.ends_rise c.ends.ensures.value c.time-else-has_another_row.ensures c.has_another_end.ensures)
