use Rattle.std.proofs.Common.{sym, subst, List, []}
use Rattle.hk_model.specs.Replica.Content.{Content}
use Rattle.hk_model.specs.World.Worlds.{Agree, new_items}
use Rattle.hk_model.proofs.World.Runs.{new_agree}
use Rattle.hk_primary.specs.Log.{PrimaryValue}
use Rattle.hk_laws.proofs.world.World.new.Goals as goal

pub returns-clause-represents : goal.returns-clause-represents
returns-clause-represents c =
    let config = c.args.config in
    let n = c.args.replicas in
    let replicas = c.in_ok-replicas.replicas.items in
    subst (λ (p : PrimaryValue). Agree config (new_items n) (record { history = p.history; emitted = p.items; replicas = replicas })) (sym c.in_ok-primary.ensures.ok)
    (subst (λ (rs : List Content). Agree config (new_items n) (record { history = []; emitted = []; replicas = rs })) (sym c.in_ok-replicas.ensures.ok) (new_agree config n))
