use Rattle.std.proofs.Common.{◌≡◌, sym, ◌∙◌, nat_lt, false}
use Rattle.hk_model.specs.Replica.Content.{readable}
use Rattle.hk_state.proofs.PrunedState.{not_below}
use Rattle.hk_merge.specs.Sent.{fragment_sent}
use Rattle.hk_merge.proofs.JoinRefusals.{join_either, fits_by}
use Rattle.hk_merge.proofs.join.join_sent.Goals as goal

pub returns : goal.returns
returns c =
    let t = c.args.target.now in
    let f = fragment_sent c.args.sent.now in
    let streams = sym c.config.ensures.streams in
    let fit = fits_by t f c.config.result c.config.ensures.log streams (sym c.in_default.ensures) in
    let gap : nat_lt (readable t) f.base ≡ false = (λ i. nat_lt (sym c.readable-readable.ensures.value i) (sym c.base-base.ensures i)) ∙ sym (not_below c.readable-readable.result c.base-base.result) ∙ sym c.lt.ensures ∙ c.if-lt.false in
    let e = c.join_fitting.ensures in
    join_either t f c.config.result.streams streams fit gap c.join_fitting.result c.join_fitting.new.target e.ok e.agrees e.err e.kept
