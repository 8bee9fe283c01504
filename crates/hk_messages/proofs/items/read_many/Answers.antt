use Rattle.std.proofs.Common.{◌-◌, ◌+◌, [], ◌∷◌, ◌++◌, None, ap, ◌∙◌}
use Rattle.std.proofs.lemmas.Result.{err_from_is_err_and}
use Rattle.hk_frames.proofs.ReadingLoop.{with_front, goes_on, ends, is_done}
use Rattle.hk_messages.specs.Requests.{no_place, plain_frame_at, plain_frames_at}
use Rattle.hk_messages.proofs.PlainItems.{any_plain_before}
use Rattle.hk_messages.proofs.items.read_many.Goals as goal

pub returns-in_err-item : goal.returns-in_err-item
returns-in_err-item c =
    let p = err_from_is_err_and c.from_residual-in_err-item.result c.from_residual-in_err-item.ensures.1 in
    rw (p.1, p.2) (ends no_place (λ _. plain_frame_at) c.in_err-item.field-0.0 c.loop.items.items c.args.count c.loop.counter None c.loop.cursor (plain_frames_at c.args.count None c.args.cursor.now) c.loop-test.true c.in_err-item.ensures c.loop.invariant)

pub loop-preserved : goal.loop-preserved
loop-preserved c =
    rw c.in_ok-push.ensures.items (ap (with_front (c.loop.items.items ++ c.in_ok-item.item ∷ [])) (any_plain_before (c.args.count - (c.loop.counter + 1)) c.read_item_frame.new.cursor) ∙ goes_on no_place (λ _. plain_frame_at) c.loop.items.items c.args.count c.loop.counter None c.loop.cursor c.in_ok-item.item c.read_item_frame.new.cursor (plain_frames_at c.args.count None c.args.cursor.now) c.loop-test.true c.in_ok-item.ensures c.loop.invariant)

pub returns : goal.returns
returns c = is_done no_place (λ _. plain_frame_at) c.loop.items.items c.args.count c.loop.counter None c.loop.cursor (plain_frames_at c.args.count None c.args.cursor.now) c.loop-test.false c.loop.invariant
