use Rattle.std.proofs.Common.{◌≡◌, refl, sym, ap, ◌∙◌, subst, ℕ, Ok}
use Rattle.hk_model.specs.declared.told.Told.TheVariants as tells
use Rattle.hk_model.specs.World.Worlds.EventValue.{Commit}
use Rattle.hk_laws.specs.Calls.{Turns}
use Rattle.hk_laws.proofs.TurnedCommits.{world_of, turned_committed, turned_refused}
use Rattle.hk_laws.proofs.world.World.build_and_commit.Goals.{in-Ok-commit, in-Err-commit}
use Rattle.hk_laws.proofs.world.World.build_and_commit.Goals as goal

pub returns : goal.returns
returns c =
    let a = c.self.inside in
    let p = a.primary in
    let q = c.commit.new.self in
    let rs = a.replicas.items in
    let ws = c.args.writes.items in
    elim c.match-commit.branch [
      | in-Ok-commit w ↦ rw (← c.self.view_is, w.result-is) (subst (λ (t : ℕ). Turns (world_of p rs) (world_of q rs) (Commit c.args.stream t ws) (Ok (tells.Committed w.in-Ok-commit.time))) c.in-Ok.ensures.0
          (turned_committed p q rs c.self.invariant c.in-Ok.txn c.args.stream ws c.in-Ok.ensures.1 w.in-Ok-commit.time (tells.Committed w.in-Ok-commit.time) refl w.in-Ok-commit.ensures.told w.in-Ok-commit.ensures.done))
      | in-Err-commit w ↦ rw (← c.self.view_is, w.result-is) (subst (λ (t : ℕ). Turns (world_of p rs) (world_of q rs) (Commit c.args.stream t ws) w.refused-in-Err-commit.result) c.in-Ok.ensures.0
          (turned_refused p q rs c.self.invariant c.in-Ok.txn c.args.stream ws c.in-Ok.ensures.1 (w.in-Err-commit._txn, w.in-Err-commit.why) w.refused-in-Err-commit.result w.in-Err-commit.ensures.told w.in-Err-commit.ensures.kept w.refused-in-Err-commit.ensures))
    ]
