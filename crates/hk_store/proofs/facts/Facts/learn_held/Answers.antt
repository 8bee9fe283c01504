use Rattle.std.proofs.Common.{refl, sym, ap, ◌∙◌, map}
use Rattle.std.proofs.lemmas.List.{map_push}
use Rattle.std.specs.List.{list_any}
use Rattle.hk_store.specs.Learning.{RefusesTold}
use Rattle.hk_chains.specs.Versions.{borrowed, value_conflicts_at}
use Rattle.hk_store.proofs.EntryPut.{any_one_more}
use Rattle.hk_store.proofs.LearntFacts.{none_put, learnt, learnt_more, conflicts_as_before, all_learnt, none_conflict, refused_on, refused_told}
use Rattle.hk_chains.proofs.WalkedChains.{all_taken, one_more_taken}
use Rattle.hk_store.proofs.facts.Facts.learn_held.Goals as goal

pub loop-version-init : goal.loop-version-init
loop-version-init c = record { facts = none_put c.args.self.now; agrees = refl; back = refl }

pub loop-version-preserved : goal.loop-version-preserved
loop-version-preserved c =
    let old = c.args.coming.now.old in
    let h = c.args.coming.now.horizon in
    let f = c.args.self.now in
    let l = c.loop-version in
    let e = borrowed (c.in-Some.version, c.in-Some.known) in
    let whole = sym c.into_iter-version-iterator.ensures.into_iter_gives ∙ one_more_taken c.into_iter-version-iterator.result l.yielded l.version-iterator c.next.new.self c.next.result (c.in-Some.version, c.in-Some.known) l.yielded_by c.in-Some.is c.next.ensures.steps in
    let more = map_push borrowed l.yielded (c.in-Some.version, c.in-Some.known) in
    let learns = c.in_ok-learn_version.ensures in
    record {
      facts = learnt_more old h f l.self c.learn_version.new.self (map borrowed l.yielded) e l.invariant.facts learns.ok ∙ ap (learnt old h f) (sym more);
      agrees = ap (list_any (λ e. value_conflicts_at f e.0 e.1)) more ∙ any_one_more (λ e. value_conflicts_at f e.0 e.1) (map borrowed l.yielded) e l.invariant.agrees (conflicts_as_before old h f l.self c.walk-version-items.result (map borrowed l.yielded) c.next.new.self e c.walk-version-items.ensures.rising whole l.invariant.facts ∙ learns.agrees);
      back = learns.back ∙ l.invariant.back;
    }

pub returns-in_err-learn_version-clause-err : goal.returns-in_err-learn_version-clause-err
returns-in_err-learn_version-clause-err c =
    let f = c.args.self.now in
    let g = c.args.told.now in
    let l = c.loop-version in
    let e = borrowed (c.in-Some.version, c.in-Some.known) in
    let all = c.walk-version-items in
    let parted = sym c.into_iter-version-iterator.ensures.into_iter_gives ∙ one_more_taken c.into_iter-version-iterator.result l.yielded l.version-iterator c.next.new.self c.next.result (c.in-Some.version, c.in-Some.known) l.yielded_by c.in-Some.is c.next.ensures.steps in
    refused_on (RefusesTold f g) c.from_residual.result c.in_err-learn_version.field-0.0 c.from_residual.ensures.1
    (refused_told f l.self g all.result (map borrowed l.yielded) c.next.new.self e c.in_err-learn_version.field-0.0 all.ensures parted l.invariant.agrees
    (conflicts_as_before c.args.coming.now.old c.args.coming.now.horizon f l.self all.result (map borrowed l.yielded) c.next.new.self e all.ensures.rising parted l.invariant.facts) c.in_err-learn_version.ensures.err)

pub returns-clause-ok : goal.returns-clause-ok
returns-clause-ok c =
    let l = c.loop-version in
    let whole = sym c.into_iter-version-iterator.ensures.into_iter_gives ∙ all_taken c.into_iter-version-iterator.result l.yielded l.version-iterator c.next.new.self c.next.result l.yielded_by c.in-None.is c.next.ensures.steps in
    l.invariant.facts ∙ ap (learnt c.args.coming.now.old c.args.coming.now.horizon c.args.self.now) (sym whole) ∙ all_learnt c.args.coming.now.old c.args.coming.now.horizon c.args.self.now c.args.told.now c.walk-version-items.result c.walk-version-items.ensures

pub returns-clause-agrees : goal.returns-clause-agrees
returns-clause-agrees c =
    let l = c.loop-version in
    let whole = sym c.into_iter-version-iterator.ensures.into_iter_gives ∙ all_taken c.into_iter-version-iterator.result l.yielded l.version-iterator c.next.new.self c.next.result l.yielded_by c.in-None.is c.next.ensures.steps in
    none_conflict c.args.coming.now.old c.args.coming.now.horizon c.args.self.now c.args.told.now c.walk-version-items.result c.walk-version-items.ensures (ap (list_any (λ e. value_conflicts_at c.args.self.now e.0 e.1)) whole ∙ l.invariant.agrees)
