use Rattle.std.proofs.Common.{◌≡◌, ap, ◌∙◌, subst, ◌&&◌, is_some}
use Rattle.std.specs.List.{list_any}
use Rattle.std.specs.FinMap as finmap
use Rattle.hk_types.specs.declared.version_key.VersionKey.{VersionKey}
use Rattle.hk_model.specs.Replica.Content.{Content, ended_by}
use Rattle.hk_model.specs.Replica.Touches.{uncovers}
use Rattle.hk_store.specs.Drops.{is_among}
use Rattle.hk_state.proofs.TouchedPast.{touches_by_ended}
use Rattle.hk_state.proofs.replica.ReplicaState.prune_touches_past.Goals as goal

pub returns-in-Ok : goal.returns-in-Ok
returns-in-Ok c =
    let now = c.args.self.now in
    c.one_lets_older_show.ensures
    ∙ ap (list_any (λ (v : VersionKey). is_some (finmap.get now.rows v) && uncovers now c.args.time v)) c.deref.ensures.value
    ∙ touches_by_ended now c.args.time c.in-Ok.ended.items (subst (λ (x : Content). (v : VersionKey) → is_among c.in-Ok.ended.items v ≡ ended_by x.ends c.args.time v) c.self.view_is c.in-Ok.ensures.ok)
