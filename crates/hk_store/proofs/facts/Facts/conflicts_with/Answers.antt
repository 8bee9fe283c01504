use Rattle.std.proofs.Common.{◌∷◌, ◌||◌, sym, ap, ◌∙◌, Bool, map}
use Rattle.std.proofs.lemmas.List.Folds.{list_any-append}
use Rattle.std.specs.List.{list_any}
use Rattle.hk_types.specs.declared.version_key.VersionKey.{VersionKey}
use Rattle.hk_log.specs.Versions.{VersionValue}
use Rattle.hk_chains.specs.Versions.{borrowed, value_conflicts_at}
use Rattle.hk_store.proofs.ListedVersions.{conflict_listed}
use Rattle.hk_chains.proofs.WalkedChains.{all_taken, one_more_taken}
use Rattle.hk_store.proofs.facts.Facts.conflicts_with.Goals as goal

pub returns-then-value_conflicts_at : goal.returns-then-value_conflicts_at
returns-then-value_conflicts_at c =
    let p : VersionKey × VersionValue → Bool = λ e. value_conflicts_at c.args.self.now e.0 e.1 in
    let l = c.loop-version in
    let whole = sym c.into_iter-version-iterator.ensures.into_iter_gives ∙ one_more_taken c.into_iter-version-iterator.result l.yielded l.version-iterator c.next.new.self c.next.result (c.in-Some.version, c.in-Some.known) l.yielded_by c.in-Some.is c.next.ensures.steps in
    sym (ap (list_any p) whole ∙ list_any-append p (map borrowed l.yielded) (borrowed (c.in-Some.version, c.in-Some.known) ∷ c.next.new.self)
    ∙ (λ i. l.invariant i || ((sym c.value_conflicts_at.ensures ∙ c.if-value_conflicts_at.true) i || list_any p c.next.new.self)))
    ∙ conflict_listed c.args.self.now c.args.other.now c.walk-version-items.result c.walk-version-items.ensures

pub returns : goal.returns
returns c =
    let p : VersionKey × VersionValue → Bool = λ e. value_conflicts_at c.args.self.now e.0 e.1 in
    let l = c.loop-version in
    let whole = sym c.into_iter-version-iterator.ensures.into_iter_gives ∙ all_taken c.into_iter-version-iterator.result l.yielded l.version-iterator c.next.new.self c.next.result l.yielded_by c.in-None.is c.next.ensures.steps in
    sym (ap (list_any p) whole ∙ l.invariant) ∙ conflict_listed c.args.self.now c.args.other.now c.walk-version-items.result c.walk-version-items.ensures
