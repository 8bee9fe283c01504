use Rattle.std.proofs.Common.{refl}
use Rattle.hk_model.specs.Replica.Rules.{join_result}
use Rattle.hk_model.specs.World.Worlds.{outcome_by}
use Rattle.hk_acting.proofs.OutOfMemory.{refusal_gives}
use Rattle.hk_acting.proofs.joining.join.Goals as goal

pub returns-in-Err : goal.returns-in-Err
returns-in-Err c =
    let outcome = c.in-Err.ensures.gives in
    refusal_gives (outcome_by c.args.state.now) (join_result c.args.state.now c.args.fragment.now) c.args.state.now c.join.new.target c.in-Err.why c.refused.result (λ w. refl) (λ d e. refl) outcome.0 outcome.1 c.refused.ensures
