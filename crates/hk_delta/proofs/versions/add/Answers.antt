use Rattle.std.proofs.Common.{◌≡◌, refl, sym, ap, ◌∙◌, subst, inl, T, set, length, ◌+◌, ◌-◌, arith, Ok, ◌++◌, ◌∷◌, []}
use Rattle.std.proofs.lemmas.List.{set-get_or}
use Rattle.std.proofs.lemmas.Result.{err_from_is_err_and}
use Rattle.std.specs.FinMap.{is_sorted}
use Rattle.std.specs.Vec.{vec_len}
use Rattle.hk_model.specs.History.Rows.{version_key_cmp}
use Rattle.hk_index.proofs.StoredKeys.{tied_versions}
use Rattle.hk_delta.specs.Versions.{FactOn}
use Rattle.hk_delta.proofs.JoinedFacts.{same_keys, joined_last, refused_last, last_joined, joined_first, joined_behind, last_pushed, none_there}
use Rattle.hk_delta.proofs.versions.add.Goals.{in-Some+else-eq, in_default}
use Rattle.hk_delta.proofs.versions.add.Goals as goal

pub returns-then-eq : goal.returns-then-eq
returns-then-eq c =
    let es = c.args.versions.now.items in
    let e = c.in-Some.last.now in
    let s : FactOn = (c.args.version, c.args.fact) in
    let i = vec_len c.args.versions.now - 1 in
    let rising : T (is_sorted version_key_cmp es) = subst T (sym c.requires.rising) tt in
    let long : i + 1 ≡ length es = omega (arith, c.args.versions.now.ok, c.in-Some.ensures.variant.0 refl) in
    let same = tied_versions e.0 c.args.version (sym (same_keys e.0 c.args.version) ∙ sym c.eq.ensures ∙ c.if-eq.true) in
    record {
      ok = joined_last es i e s c.join.new.version rising long c.in-Some.ensures.value same c.in_ok-join.ensures.ok;
      last = last_joined es i e s c.join.new.version rising long c.in-Some.ensures.value same;
      err = tt;
    }

pub returns-clause-last : goal.returns-clause-last
returns-clause-last c = last_pushed c.match-last_mut.versions.items c.push.new.self.items c.args.version c.version_of.result c.in_ok-push.ensures.items

pub returns-clause-ok : goal.returns-clause-ok
returns-clause-ok c =
    let es = c.args.versions.now.items in
    let s : FactOn = (c.args.version, c.args.fact) in
    let x = c.version_of.result in
    let rising : T (is_sorted version_key_cmp es) = subst T (sym c.requires.rising) tt in
    elim c.match-last_mut.branch [
      | in-Some+else-eq w ↦
          let e = w.in-Some.last.now in
          let same : c.match-last_mut.versions.items ≡ es = (λ i. (w.versions-is i).items) ∙ ap (set es (vec_len c.args.versions.now - 1)) w.in-Some.ensures.value ∙ set-get_or es (vec_len c.args.versions.now - 1) e in
          let long : vec_len c.args.versions.now - 1 + 1 ≡ length es = omega (arith, c.args.versions.now.ok, w.in-Some.ensures.variant.0 refl) in
          let other = sym (same_keys e.0 c.args.version) ∙ sym w.eq.ensures ∙ w.if-eq.false in
          joined_behind s x c.version_of.ensures es (vec_len c.args.versions.now - 1) e rising long w.in-Some.ensures.value c.requires.next other ∙ ap Ok (sym (c.in_ok-push.ensures.items ∙ ap (λ l. l ++ (s.0, x) ∷ []) same))
      | in_default w ↦
          let none : length es ≡ 0 = omega (arith, c.args.versions.now.ok, none_there (vec_len c.args.versions.now) w.in_default.ensures.variant.1) in
          joined_first s x c.version_of.ensures es none ∙ ap Ok (sym (c.in_ok-push.ensures.items ∙ (λ i. (w.versions-is i).items ++ (s.0, x) ∷ [])))
    ]

pub returns-in_err-join-clause-err : goal.returns-in_err-join-clause-err
returns-in_err-join-clause-err c =
    let es = c.args.versions.now.items in
    let e = c.in-Some.last.now in
    let s : FactOn = (c.args.version, c.args.fact) in
    let i = vec_len c.args.versions.now - 1 in
    let rising : T (is_sorted version_key_cmp es) = subst T (sym c.requires.rising) tt in
    let long : i + 1 ≡ length es = omega (arith, c.args.versions.now.ok, c.in-Some.ensures.variant.0 refl) in
    let same = tied_versions e.0 c.args.version (sym (same_keys e.0 c.args.version) ∙ sym c.eq.ensures ∙ c.if-eq.true) in
    let p = err_from_is_err_and c.from_residual.result c.from_residual.ensures.1 in
    rw (p.1, p.2) (inl (refused_last es i e s c.join.new.version rising long c.in-Some.ensures.value same _ c.in_err-join.ensures.err))
