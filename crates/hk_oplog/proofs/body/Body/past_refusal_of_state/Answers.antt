use Rattle.std.proofs.Common.{ap, ◌∙◌}
use Rattle.hk_model.specs.Replica.Fragments.{FragmentValue}
use Rattle.hk_model.specs.Replica.Touches.{join_touches_past}
use Rattle.hk_merge.proofs.JoinRefusals.{whole_is}
use Rattle.hk_oplog.specs.Replay.{past_refusal}
use Rattle.hk_oplog.proofs.body.Body.past_refusal_of_state.Goals as goal

pub returns : goal.returns
returns c =
    let now = c.args.self.now in
    c.past_refusal.ensures ∙ ap (λ (f : FragmentValue). past_refusal now (join_touches_past now.content f)) (whole_is c.args.state.now c.horizon-lawful.ensures.lawful)
