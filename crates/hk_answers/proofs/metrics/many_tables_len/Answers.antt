use Rattle.std.proofs.Common.{◌≡◌, length, get_or, arith, ap, subst, All}
use Rattle.std.proofs.lemmas.List.{take_all}
use Rattle.std.proofs.lemmas.List.Elements.{All-more}
use Rattle.hk_answers.proofs.Lengths.{one_longer}
use Rattle.hk_answers.proofs.MetricLengths.{table_text_len}
use Rattle.hk_answers.specs.Metrics.{table_text, TableFits}
use Rattle.hk_answers.proofs.metrics.many_tables_len.Goals as goal

pub loop-table-preserved : goal.loop-table-preserved
loop-table-preserved c =
    let more = one_longer table_text c.args.tables.now c.loop-table.table-index c.table-item.result c.loop-table-test.true in
    let here : length (table_text c.table-item.result) ≡ length (table_text (get_or c.args.tables.now c.loop-table.table-index c.table-item.result)) = ap (λ e. length (table_text e)) c.table-item.is in
    let two = table_text_len c.table-item.result in (
      omega (arith, more, here, two, c.loop-table.invariant.0, c.table_len-total.ensures.len),
      omega (arith, c.loop-table.invariant.1, c.table_len-total.ensures.len),
      All-more TableFits c.args.tables.now c.loop-table.table-index c.table-item.result c.loop-table-test.true c.loop-table.invariant.2 (subst TableFits c.table-item.is c.table_len-total.ensures.fits),
    )

pub returns-clause-fits : goal.returns-clause-fits
returns-clause-fits c = subst (All TableFits) (take_all c.loop-table.table-index c.args.tables.now c.loop-table-test.false) c.loop-table.invariant.2
