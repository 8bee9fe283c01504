use Rattle.std.proofs.Common.{None}
use Rattle.std.proofs.lemmas.Result.{err_from_is_err_and}
use Rattle.hk_frames.proofs.ReadingLoop.{goes_on, ends, is_done}
use Rattle.hk_answers.specs.Metrics.{table_at, table_list_at}
use Rattle.hk_answers.proofs.metrics.read_many_tables.Goals as goal

pub returns-in_err-table : goal.returns-in_err-table
returns-in_err-table c =
    let p = err_from_is_err_and c.from_residual-in_err-table.result c.from_residual-in_err-table.ensures.1 in
    rw (p.1, p.2) (ends (λ table. table) table_at c.in_err-table.field-0.0 c.loop.tables.items c.args.count c.loop.counter c.loop.before c.loop.cursor (table_list_at c.args.count None c.args.cursor.now) c.loop-test.true c.in_err-table.ensures c.loop.invariant)

pub loop-preserved : goal.loop-preserved
loop-preserved c =
    rw c.in_ok-push.ensures.items (goes_on (λ table. table) table_at c.loop.tables.items c.args.count c.loop.counter c.loop.before c.loop.cursor c.in_ok-table.table c.read_table.new.cursor (table_list_at c.args.count None c.args.cursor.now) c.loop-test.true c.in_ok-table.ensures c.loop.invariant)

pub returns : goal.returns
returns c = is_done (λ table. table) table_at c.loop.tables.items c.args.count c.loop.counter c.loop.before c.loop.cursor (table_list_at c.args.count None c.args.cursor.now) c.loop-test.false c.loop.invariant
