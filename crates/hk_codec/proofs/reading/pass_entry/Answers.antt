use Rattle.std.proofs.lemmas.Result.{err_from_is_err_and}
use Rattle.hk_codec.proofs.Outlined.{no_moment, no_ends, no_rows, has_outline}
use Rattle.hk_codec.proofs.reading.pass_entry.Goals as goal

pub returns-in_err-number : goal.returns-in_err-number
returns-in_err-number c =
    let p = err_from_is_err_and c.from_residual.result c.from_residual.ensures.1 in
    rw (p.1, p.2) (no_moment c.args.head.version c.args.head.log c.args.head.stream c.args.cursor.now c.in_err-number.field-0.0 c.in_err-number.ensures)

pub returns-in_err-passed : goal.returns-in_err-passed
returns-in_err-passed c =
    let p = err_from_is_err_and c.from_residual-in_err-passed.result c.from_residual-in_err-passed.ensures.1 in
    rw (p.1, p.2) (no_ends c.args.head.version c.args.head.log c.args.head.stream c.args.cursor.now ((c.in_ok-number.number, c.in_ok-number.time), c.read_moment.new.cursor) c.in_err-passed.field-0.0 c.in_ok-number.ensures c.in_err-passed.ensures)

pub returns-in_err-others : goal.returns-in_err-others
returns-in_err-others c =
    let p = err_from_is_err_and c.from_residual-in_err-others.result c.from_residual-in_err-others.ensures.1 in
    rw (p.1, p.2) (no_rows c.args.head.version c.args.head.log c.args.head.stream c.args.cursor.now ((c.in_ok-number.number, c.in_ok-number.time), c.read_moment.new.cursor) c.in_err-others.field-0.0 c.in_ok-passed.passed c.read_list.new.cursor c.in_ok-number.ensures c.in_ok-passed.ensures (rw c.count-ends.ensures at c.in_err-others.ensures))

pub returns : goal.returns
returns c =
    rw (c.count.ensures, c.count-ends.ensures) (has_outline c.args.head.version c.args.head.log c.args.head.stream c.args.cursor.now ((c.in_ok-number.number, c.in_ok-number.time), c.read_moment.new.cursor) c.in_ok-passed.passed c.read_list.new.cursor c.in_ok-others.others c.read_list-2.new.cursor c.in_ok-number.ensures c.in_ok-passed.ensures (rw c.count-ends.ensures at c.in_ok-others.ensures))
