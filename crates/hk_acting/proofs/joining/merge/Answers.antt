use Rattle.std.proofs.Common.{refl}
use Rattle.hk_model.specs.Replica.Rules.{merge_result}
use Rattle.hk_model.specs.World.Worlds.{outcome_by}
use Rattle.hk_acting.proofs.OutOfMemory.{refusal_gives}
use Rattle.hk_acting.proofs.joining.merge.Goals as goal

pub returns-in-Err : goal.returns-in-Err
returns-in-Err c =
    let outcome = c.in-Err.ensures.gives in
    refusal_gives (outcome_by c.args.state.now) (merge_result c.args.state.now c.args.peer.now) c.args.state.now c.merge.new.target c.in-Err.why c.refused.result (λ w. refl) (λ d e. refl) outcome.0 outcome.1 c.refused.ensures
