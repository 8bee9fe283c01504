use Rattle.std.proofs.Common.{refl, sym, true≢false}
use Rattle.std.proofs.Math.Nat.{lt_of_not-le}
use Rattle.hk_model.specs.Replica.Rules.{prune_result}
use Rattle.hk_model.specs.World.Worlds.{outcome_by}
use Rattle.hk_acting.proofs.OutOfMemory.{on_err, refusal_gives}
use Rattle.hk_acting.proofs.acting.prune.Goals as goal

pub returns-in-Err-clause-gives : goal.returns-in-Err-clause-gives
returns-in-Err-clause-gives c =
    let outcome = c.in-Err.ensures.gives in
    refusal_gives (outcome_by c.args.state.now) (prune_result c.args.state.now c.args.horizon) c.args.state.now c.prune.new.self c.in-Err.why c.refused.result (λ w. refl) (λ d e. refl) outcome.0 outcome.1 c.refused.ensures

pub returns-in-Err-clause-above : goal.returns-in-Err-clause-above
returns-in-Err-clause-above c = on_err c.refused.result (lt_of_not-le (λ l. true≢false (sym (c.in-Err.ensures.below l))))
