use Rattle.std.proofs.lemmas.Result.{err_from_is_err_and}
use Rattle.hk_codec.specs.Kept.{steps_at, kept_group_at}
use Rattle.hk_codec.proofs.Steps.{steps_go_on, steps_end, steps_done}
use Rattle.hk_codec.proofs.kept_lists.read_groups.Goals as goal

pub returns-in_err-read_group : goal.returns-in_err-read_group
returns-in_err-read_group g c =
    let p = err_from_is_err_and c.from_residual.result c.from_residual.ensures.1 in
    rw (p.1, p.2) (steps_end (kept_group_at g.K.Keeps.kept c.args.time) c.in_err-read_group.field-0.0 c.args.groups c.loop-passed.passed c.loop-passed.kept c.loop-passed.cursor (steps_at (kept_group_at g.K.Keeps.kept c.args.time) c.args.groups c.args.kept.now c.args.cursor.now) c.loop-passed-test.true c.in_err-read_group.ensures c.loop-passed.invariant)

pub loop-passed-preserved : goal.loop-passed-preserved
loop-passed-preserved g c = steps_go_on (kept_group_at g.K.Keeps.kept c.args.time) c.args.groups c.loop-passed.passed c.loop-passed.kept c.loop-passed.cursor c.read_group.new.kept c.read_group.new.cursor (steps_at (kept_group_at g.K.Keeps.kept c.args.time) c.args.groups c.args.kept.now c.args.cursor.now) c.loop-passed-test.true c.in_ok-read_group.ensures c.loop-passed.invariant

pub returns : goal.returns
returns g c = steps_done (kept_group_at g.K.Keeps.kept c.args.time) c.args.groups c.loop-passed.passed c.loop-passed.kept c.loop-passed.cursor (steps_at (kept_group_at g.K.Keeps.kept c.args.time) c.args.groups c.args.kept.now c.args.cursor.now) c.loop-passed-test.false c.loop-passed.invariant
