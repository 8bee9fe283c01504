use Rattle.std.proofs.Common.{◌∷◌, ◌||◌, ◌&&◌, sym, ap, ◌∙◌, subst, Bool, is_some, map}
use Rattle.std.proofs.lemmas.List.Folds.{list_any-append}
use Rattle.std.specs.List.{list_any}
use Rattle.std.specs.FinMap as finmap
use Rattle.hk_types.specs.declared.version_key.VersionKey.{VersionKey}
use Rattle.hk_log.specs.Versions.{VersionValue}
use Rattle.hk_model.specs.Replica.Content.{Content}
use Rattle.hk_model.specs.Replica.Touches.{uncovers}
use Rattle.hk_store.specs.Reads.{facts_of_content}
use Rattle.hk_store.specs.Versions.{AreVersions, borrowed}
use Rattle.hk_store.proofs.WalkedChains.{all_taken, one_more_taken}
use Rattle.hk_state.proofs.TouchedPast.{touches_by_walk}
use Rattle.hk_state.proofs.replica.ReplicaState.some_lets_older_show.Goals as goal

pub returns-then-lets_older_show : goal.returns-then-lets_older_show
returns-then-lets_older_show c =
    let now = c.args.self.now in
    let p : VersionKey × VersionValue → Bool = λ e. is_some (finmap.get now.rows e.0) && uncovers now c.args.time e.0 in
    let l = c.loop-version in
    let whole = sym c.into_iter-version-iterator.ensures.into_iter_gives ∙ one_more_taken c.into_iter-version-iterator.result l.yielded l.version-iterator c.next.new.self c.next.result (c.in-Some.version, c.in-Some._known) l.yielded_by c.in-Some.is c.next.ensures.steps in
    sym (ap (list_any p) whole ∙ list_any-append p (map borrowed l.yielded) (borrowed (c.in-Some.version, c.in-Some._known) ∷ c.next.new.self)
    ∙ (λ i. l.invariant i || ((sym c.lets_older_show.ensures ∙ c.if-lets_older_show.true) i || list_any p c.next.new.self)))
    ∙ touches_by_walk now c.args.time c.walk-version-items.result (subst (λ (x : Content). AreVersions (facts_of_content x) c.walk-version-items.result) c.self.view_is c.walk-version-items.ensures)

pub returns : goal.returns
returns c =
    let now = c.args.self.now in
    let p : VersionKey × VersionValue → Bool = λ e. is_some (finmap.get now.rows e.0) && uncovers now c.args.time e.0 in
    let l = c.loop-version in
    let whole = sym c.into_iter-version-iterator.ensures.into_iter_gives ∙ all_taken c.into_iter-version-iterator.result l.yielded l.version-iterator c.next.new.self c.next.result l.yielded_by c.in-None.is c.next.ensures.steps in
    sym (ap (list_any p) whole ∙ l.invariant)
    ∙ touches_by_walk now c.args.time c.walk-version-items.result (subst (λ (x : Content). AreVersions (facts_of_content x) c.walk-version-items.result) c.self.view_is c.walk-version-items.ensures)
