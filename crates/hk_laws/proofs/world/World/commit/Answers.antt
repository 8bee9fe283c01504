use Rattle.std.proofs.Common.{◌≡◌, refl, sym, ap, ◌∙◌, subst, List, Option, Err, Result, MatchOption}
use Rattle.std.specs.FinMap as finmap
use Rattle.hk_types.specs.declared.faults.Refusal.{Refusal}
use Rattle.hk_model.specs.History.Commits.{writes_result, commit_result}
use Rattle.hk_model.specs.declared.write_op.WriteOp.{WriteOp}
use Rattle.hk_model.specs.History.Histories.{Transaction}
use Rattle.hk_model.specs.World.Worlds.{after_commit}
use Rattle.hk_model.specs.World.Worlds.EventValue.{Commit}
use Rattle.hk_acting.specs.Telling.{is_memory}
use Rattle.hk_laws.specs.Calls.{IsBuilt}
use Rattle.hk_laws.specs.Running.{Running}
use Rattle.hk_laws.proofs.RefusedCommits.{barred_tells, barred_hears, open_first, turned}
use Rattle.hk_laws.proofs.world.World.commit.Goals as goal

pub returns : goal.returns
returns c =
    let old = c.args.self.now in
    turned old c.build_and_commit.new.self (Commit c.args.stream c.args.read_at c.args.writes.items) c.build_and_commit.result c.build_and_commit.ensures (open_first old.config old.world c.args.stream c.args.read_at c.args.writes.items (sym c.in_default.ensures)) refl

pub returns-in-Some : goal.returns-in-Some
returns-in-Some c =
    let old = c.args.self.now in
    let ws = c.args.writes.items in
    let why = c.in-Some.why in
    let tested = subst (λ (xs : List WriteOp). MatchOption c.misbuilt.result (IsBuilt xs) (λ x. writes_result finmap.empty xs ≡ Err x)) c.deref.ensures.value c.misbuilt.ensures in
    let bar = sym c.in-Some.ensures in
    let tells : commit_result old.config old.world.history c.args.stream c.args.read_at ws ≡ Err c.unwrap_or.result =
    barred_tells old.config old.world c.args.stream c.args.read_at ws c.misbuilt.result why tested bar ∙ ap (λ (x : Refusal). Err x) (sym c.unwrap_or.ensures)
    in (
      sym (ap (λ (x : Result (Option Transaction) Refusal). (after_commit old.config old.world x).0) tells),
      sym (ap (λ (x : Result (Option Transaction) Refusal). let r : Running = record { config = old.config; world = (after_commit old.config old.world x).1 } in r) tells),
      ap is_memory c.unwrap_or.ensures ∙ barred_hears old.config old.world c.args.stream c.args.read_at ws c.misbuilt.result why tested bar,
    )
