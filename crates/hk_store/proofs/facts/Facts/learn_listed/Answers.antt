use Rattle.std.proofs.Common.{refl, sym, ap, ◌∙◌, arith}
use Rattle.std.proofs.lemmas.List.{take_all}
use Rattle.std.specs.List.{list_any}
use Rattle.hk_store.specs.Learning.{RefusesTold, told_by}
use Rattle.hk_chains.specs.Versions.{value_conflicts_at}
use Rattle.hk_store.proofs.EntryPut.{any_one_more, walked, walked_more}
use Rattle.hk_store.proofs.LearntFacts.{none_put, learnt, learnt_more, conflicts_as_before, all_learnt, none_conflict, refused_on, refused_told}
use Rattle.hk_store.proofs.facts.Facts.learn_listed.Goals as goal

pub loop-version-init : goal.loop-version-init
loop-version-init c = record { facts = none_put c.args.self.now; agrees = refl; back = refl }

pub loop-version-preserved : goal.loop-version-preserved
loop-version-preserved c =
    let old = c.args.coming.now.old in
    let h = c.args.coming.now.horizon in
    let f = c.args.self.now in
    let all = c.args.told.now in
    let l = c.loop-version in
    let e = c.loop-version-item.result in
    let is = c.loop-version-item.is in
    let more = walked_more all l.version-index e is (omega arith) in
    let learns = c.in_ok-learn_version.ensures in
    record {
      facts = learnt_more old h f l.self c.learn_version.new.self _ e l.invariant.facts learns.ok ∙ ap (learnt old h f) (sym more);
      agrees = ap (list_any (λ e. value_conflicts_at f e.0 e.1)) more ∙ any_one_more (λ e. value_conflicts_at f e.0 e.1) _ e l.invariant.agrees (conflicts_as_before old h f l.self all _ _ e c.requires.told.rising (walked all l.version-index e is (omega arith)) l.invariant.facts ∙ learns.agrees);
      back = learns.back ∙ l.invariant.back;
    }

pub returns-in_err-learn_version-clause-err : goal.returns-in_err-learn_version-clause-err
returns-in_err-learn_version-clause-err c =
    let f = c.args.self.now in
    let all = c.args.told.now in
    let l = c.loop-version in
    let e = c.loop-version-item.result in
    let parted = walked all l.version-index e c.loop-version-item.is (omega arith) in
    refused_on (RefusesTold f (told_by all)) c.from_residual.result c.in_err-learn_version.field-0.0 c.from_residual.ensures.1
    (refused_told f l.self (told_by all) all _ _ e c.in_err-learn_version.field-0.0 c.requires.told parted l.invariant.agrees
    (conflicts_as_before c.args.coming.now.old c.args.coming.now.horizon f l.self all _ _ e c.requires.told.rising parted l.invariant.facts) c.in_err-learn_version.ensures.err)

pub returns-clause-ok : goal.returns-clause-ok
returns-clause-ok c =
    let whole = take_all c.loop-version.version-index c.args.told.now (omega (arith, c.loop-version-test.false)) in
    c.loop-version.invariant.facts ∙ ap (learnt c.args.coming.now.old c.args.coming.now.horizon c.args.self.now) whole ∙ all_learnt c.args.coming.now.old c.args.coming.now.horizon c.args.self.now (told_by c.args.told.now) c.args.told.now c.requires.told

pub returns-clause-agrees : goal.returns-clause-agrees
returns-clause-agrees c =
    let whole = take_all c.loop-version.version-index c.args.told.now (omega (arith, c.loop-version-test.false)) in
    none_conflict c.args.coming.now.old c.args.coming.now.horizon c.args.self.now (told_by c.args.told.now) c.args.told.now c.requires.told (ap (list_any (λ e. value_conflicts_at c.args.self.now e.0 e.1)) (sym whole) ∙ c.loop-version.invariant.agrees)
