use Rattle.std.proofs.Common.{refl, ap, sym, ◌∙◌}
use Rattle.hk_model.specs.Replica.Rules.{gather_result}
use Rattle.hk_model.specs.World.Worlds.{outcome_of_batch}
use Rattle.hk_acting.specs.Telling.{is_first_outcome}
use Rattle.hk_acting.proofs.OutOfMemory.{refusal_gives, batch_first}
use Rattle.hk_acting.proofs.joining.batch.Goals as goal

pub returns-in-Err : goal.returns-in-Err
returns-in-Err c =
    let state = c.args.state.now in
    let config = c.args.config in
    let items = c.args.items.now in
    refusal_gives (outcome_of_batch state) (gather_result config items) state state c.in-Err.why c.refused.result (λ w. refl) (λ f e. sym (ap (λ x. is_first_outcome (outcome_of_batch state x).0) e) ∙ batch_first state config items) refl c.in-Err.ensures.gives c.refused.ensures
