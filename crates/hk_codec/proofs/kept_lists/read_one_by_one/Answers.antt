use Rattle.std.proofs.lemmas.Result.{err_from_is_err_and}
use Rattle.hk_codec.specs.Kept.{steps_at, tabled_at}
use Rattle.hk_codec.proofs.Steps.{steps_go_on, steps_end, steps_done}
use Rattle.hk_codec.proofs.kept_lists.read_one_by_one.Goals as goal

pub returns-in_err-read_tabled : goal.returns-in_err-read_tabled
returns-in_err-read_tabled g c =
    let p = err_from_is_err_and c.from_residual-in_err-read_tabled.result c.from_residual-in_err-read_tabled.ensures.1 in
    rw (p.1, p.2) (steps_end (tabled_at g.K.Keeps.kept c.args.time) c.in_err-read_tabled.field-0.0 c.args.count c.loop.counter c.loop.kept c.loop.cursor (steps_at (tabled_at g.K.Keeps.kept c.args.time) c.args.count c.args.kept.now c.args.cursor.now) c.loop-test.true c.in_err-read_tabled.ensures c.loop.invariant)

pub loop-preserved : goal.loop-preserved
loop-preserved g c = steps_go_on (tabled_at g.K.Keeps.kept c.args.time) c.args.count c.loop.counter c.loop.kept c.loop.cursor c.read_tabled.new.kept c.read_tabled.new.cursor (steps_at (tabled_at g.K.Keeps.kept c.args.time) c.args.count c.args.kept.now c.args.cursor.now) c.loop-test.true c.in_ok-read_tabled.ensures c.loop.invariant

pub returns : goal.returns
returns g c = steps_done (tabled_at g.K.Keeps.kept c.args.time) c.args.count c.loop.counter c.loop.kept c.loop.cursor (steps_at (tabled_at g.K.Keeps.kept c.args.time) c.args.count c.args.kept.now c.args.cursor.now) c.loop-test.false c.loop.invariant
