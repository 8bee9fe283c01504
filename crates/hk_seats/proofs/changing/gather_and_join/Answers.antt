use Rattle.std.proofs.Common.{sym, ap, subst, ◌∙◌, Err}
use Rattle.hk_types.specs.Values.{ConfigValue}
use Rattle.hk_model.specs.Replica.Rules.{gather_result}
use Rattle.hk_delta.specs.Gathers.{Gathers}
use Rattle.hk_seats.proofs.JoinRequests.{items_joined, items_refused}
use Rattle.hk_seats.proofs.changing.gather_and_join.Goals as goal

pub returns-in-Ok-clause-told : goal.returns-in-Ok-clause-told
returns-in-Ok-clause-told g c = items_joined g.J.NodeName.kind _ _ c.args.items.now c.in-Ok.fragment _ (ap (λ (config : ConfigValue). gather_result config c.args.items.now) (sym c.config.ensures.node) ∙ c.in-Ok.ensures) c.join_gathered.ensures.told

pub returns-in-Err-clause-told : goal.returns-in-Err-clause-told
returns-in-Err-clause-told g c = items_refused g.J.NodeName.kind _ c.args.items.now c.in-Err.why (subst (λ (config : ConfigValue). Gathers config c.args.items.now (Err c.in-Err.why)) c.config.ensures.node c.in-Err.ensures)
