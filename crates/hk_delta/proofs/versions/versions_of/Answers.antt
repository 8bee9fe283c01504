use Rattle.std.proofs.Common.{◌≡◌, sym, ap, ◌∙◌, subst, T, None, Ok, [], length, arith, rules, inl, inr}
use Rattle.std.proofs.lemmas.List.Sorted.{answers_always}
use Rattle.std.proofs.lemmas.Result.{err_from_is_err_and}
use Rattle.std.specs.FinMap.{is_sorted}
use Rattle.hk_model.specs.History.Rows.{version_key_cmp}
use Rattle.hk_delta.specs.Versions.{FactOn, last_version}
use Rattle.hk_delta.proofs.FactsInTurn.{all_joined}
use Rattle.hk_delta.proofs.JoinedFacts.{Follow, sorted_follow, still_rising, still_follow, still_joined, refused_here, used_up}
use Rattle.hk_delta.proofs.MovedFacts.{joined_ok, joined_err}
use Rattle.hk_delta.proofs.versions.versions_of.Goals as goal

pub loop-version-init : goal.loop-version-init
loop-version-init c =
    let rest = c.into_iter-version-iterator.result.rest.items in
    let given : rest ≡ c.sort_unstable_by_key.new.self.items = c.into_iter-version-iterator.ensures.into_iter_gives.0 in
    let sorted = c.sort_unstable_by_key.ensures.sorted (λ (e : FactOn). e.0) (answers_always _ (λ a r. r ≡ a.0.now.0) _ (λ f a r f' t. search rules)) in
    record {
      rising = subst (λ l. T (is_sorted version_key_cmp l)) (sym c.in_ok-versions.ensures.items) tt;
      follow = subst (λ l. Follow (last_version l) rest) (sym c.in_ok-versions.ensures.items) (subst (Follow None) (sym given) (sorted_follow c.sort_unstable_by_key.new.self.items sorted));
      joined = ap (λ l. all_joined (Ok l) rest) c.in_ok-versions.ensures.items;
    }

pub loop-version-preserved : goal.loop-version-preserved
loop-version-preserved c =
    let es = c.loop-version.versions.items in
    let s : FactOn = (c.in-Some.version, c.in-Some.fact) in
    let fs = c.add.new.versions.items in
    let rest = c.loop-version.version-iterator.rest.items in
    let more = c.next.new.self.rest.items in
    record {
      rising = still_rising es s fs c.loop-version.invariant.rising c.in_ok-add.ensures.ok;
      follow = still_follow es s fs rest more c.in-Some.ensures.steps.0 c.in_ok-add.ensures.last c.loop-version.invariant.follow;
      joined = still_joined es s fs rest more c.in-Some.ensures.steps.0 _ c.in_ok-add.ensures.ok c.loop-version.invariant.joined;
    }

pub returns-in_err-add-clause-err : goal.returns-in_err-add-clause-err
returns-in_err-add-clause-err c =
    let p = err_from_is_err_and c.from_residual-in_err-add.result c.from_residual-in_err-add.ensures.1 in
    let why = c.in_err-add.field-0.0 in
    let s : FactOn = (c.in-Some.version, c.in-Some.fact) in
    rw (p.1, p.2) (elim c.in_err-add.ensures.err [
      | inl e ↦ inr (joined_err c.args.facts.items c.sort_unstable_by_key.new.self.items c.sort_unstable_by_key.ensures.permutation why
          (ap (all_joined (Ok [])) (sym c.into_iter-version-iterator.ensures.into_iter_gives.0)
          ∙ refused_here c.loop-version.versions.items s c.loop-version.version-iterator.rest.items c.next.new.self.rest.items _ why c.in-Some.ensures.steps.0 e c.loop-version.invariant.joined))
      | inr m ↦ inl m
    ])

pub returns : goal.returns
returns c =
    let rest = c.loop-version.version-iterator.rest in
    let end : length rest.items ≡ 0 = omega (arith, rest.ok, c.in-None.ensures.steps.0) in
    let all = used_up c.loop-version.versions.items rest.items _ end c.loop-version.invariant.joined in
    let given = ap (all_joined (Ok [])) (sym c.into_iter-version-iterator.ensures.into_iter_gives.0) in
    let told = joined_ok c.args.facts.items c.sort_unstable_by_key.new.self.items c.sort_unstable_by_key.ensures.permutation c.loop-version.versions.items (given ∙ all) in
    record { versions = told.0; agree = told.1; err = tt }
