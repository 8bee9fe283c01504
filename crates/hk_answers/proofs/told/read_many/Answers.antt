use Rattle.std.proofs.Common.{◌-◌, ◌+◌, [], ◌∷◌, ◌++◌, None, ap, ◌∙◌}
use Rattle.std.proofs.lemmas.Result.{err_from_is_err_and}
use Rattle.hk_frames.proofs.ReadingLoop.{with_front, goes_on, ends, is_done}
use Rattle.hk_answers.specs.Told.{no_place, told_at, told_list_at}
use Rattle.hk_answers.proofs.ToldReadAgain.{any_told_before}
use Rattle.hk_answers.proofs.told.read_many.Goals as goal

pub returns-in_err-told : goal.returns-in_err-told
returns-in_err-told c =
    let p = err_from_is_err_and c.from_residual-in_err-told.result c.from_residual-in_err-told.ensures.1 in
    rw (p.1, p.2) (ends no_place (λ _. told_at) c.in_err-told.field-0.0 c.loop.streams.items c.args.count c.loop.counter None c.loop.cursor (told_list_at c.args.count None c.args.cursor.now) c.loop-test.true c.in_err-told.ensures c.loop.invariant)

pub loop-preserved : goal.loop-preserved
loop-preserved c =
    rw c.in_ok-push.ensures.items (ap (with_front (c.loop.streams.items ++ c.in_ok-told.told ∷ [])) (any_told_before (c.args.count - (c.loop.counter + 1)) c.read_told.new.cursor) ∙ goes_on no_place (λ _. told_at) c.loop.streams.items c.args.count c.loop.counter None c.loop.cursor c.in_ok-told.told c.read_told.new.cursor (told_list_at c.args.count None c.args.cursor.now) c.loop-test.true c.in_ok-told.ensures c.loop.invariant)

pub returns : goal.returns
returns c = is_done no_place (λ _. told_at) c.loop.streams.items c.args.count c.loop.counter None c.loop.cursor (told_list_at c.args.count None c.args.cursor.now) c.loop-test.false c.loop.invariant
