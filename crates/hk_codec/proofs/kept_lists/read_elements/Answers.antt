use Rattle.std.proofs.lemmas.Result.{err_from_is_err_and}
use Rattle.hk_codec.specs.Kept.{steps_at}
use Rattle.hk_codec.proofs.Steps.{steps_go_on, steps_end, steps_done}
use Rattle.hk_codec.proofs.kept_lists.read_elements.Goals as goal

pub returns-in_err-read_next : goal.returns-in_err-read_next
returns-in_err-read_next g c =
    let p = err_from_is_err_and c.from_residual.result c.from_residual.ensures.1 in
    rw (p.1, p.2) (steps_end (g.K.Keeps.kept.next c.args.time c.args.table) c.in_err-read_next.field-0.0 c.args.count c.loop.counter c.loop.kept c.loop.cursor (steps_at (g.K.Keeps.kept.next c.args.time c.args.table) c.args.count c.args.kept.now c.args.cursor.now) c.loop-test.true c.in_err-read_next.ensures c.loop.invariant)

pub loop-preserved : goal.loop-preserved
loop-preserved g c = steps_go_on (g.K.Keeps.kept.next c.args.time c.args.table) c.args.count c.loop.counter c.loop.kept c.loop.cursor c.read_next.new.self c.read_next.new.cursor (steps_at (g.K.Keeps.kept.next c.args.time c.args.table) c.args.count c.args.kept.now c.args.cursor.now) c.loop-test.true c.in_ok-read_next.ensures c.loop.invariant

pub returns : goal.returns
returns g c = steps_done (g.K.Keeps.kept.next c.args.time c.args.table) c.args.count c.loop.counter c.loop.kept c.loop.cursor (steps_at (g.K.Keeps.kept.next c.args.time c.args.table) c.args.count c.args.kept.now c.args.cursor.now) c.loop-test.false c.loop.invariant
