-- A write to a stored tree is a write to the map that it is seen as.
use Rattle.std.proofs.Common.{◌≡◌, refl, sym, ap, ◌∙◌, subst, ℕ, Bool, true, false, true≢false, cond, option_map, Option, Some, None, List, [], ◌∷◌, ◌&&◌, T, nat_cmp, is_eq, is_lt, length, not, Result, Ok, Err, IfErr, IfOk, IsSome, ◌⊎◌, inr, Ordering, Less, arith}
use Rattle.std.proofs.lemmas.Bool.Decides.{nat_tests}
use Rattle.std.specs.Option.{is_some}
use Rattle.std.specs.Cmp.{IsTotalOrder, nat_cmp_total, tied_itself, eq_by_cmp_equiv}
use Rattle.std.specs.Ordering.{eq_by_cmp}
use Rattle.std.specs.List.{AllByRecursion}
use Rattle.std.specs.List.Sorted.{IsStrictlySortedBy}
use Rattle.std.specs.BTreeMap.{BTreeMap}
use Rattle.std.specs.BTreeMap as tree
use Rattle.std.specs.Map.{lookup, keys_of}
use Rattle.std.specs.FinMap as finmap
use Rattle.std.specs.FinMap.{find}
use Rattle.std.specs.FinMap.Entries.{is_sorted, same_entries, below_all}
use Rattle.std.proofs.lemmas.Map.Keys.{sorted_head, sorted_tail}
use Rattle.std.specs.Result.{IsErrAnd}
use Rattle.hk_types.specs.declared.faults.Refusal.{Refusal}
use Rattle.hk_types.specs.declared.faults.Refusal.TheVariants.{Memory}
use Rattle.hk_log.specs.Versions.{VersionValue}
use Rattle.hk_facts.specs.declared.fact.Fact.{Fact}
use Rattle.hk_facts.specs.declared.fact.Fact.TheVariants.{Row, End}
use Rattle.hk_facts.specs.Facts.{has_like, row_of, died_of}
use Rattle.hk_facts.specs.Chains.{set_at, alter, put_at, put_by}

-- ---- equal keys

pub tied_same : (q k : ℕ) → eq_by_cmp nat_cmp q k ≡ true → q ≡ k
tied_same q k e = grind (arith, nat_tests)

pub tied_self : (k : ℕ) → eq_by_cmp nat_cmp k k ≡ true
tied_self k = ap is_eq (tied_itself nat_cmp_total k)

pub tied_flip : (q k : ℕ) → eq_by_cmp nat_cmp k q ≡ eq_by_cmp nat_cmp q k
tied_flip q k = (eq_by_cmp_equiv nat_cmp_total).symm k q

-- ---- outcomes

pub IfErr_map : {A E : Type 0} {P Q : E → Type 0} (r : Result A E) → ((e : E) → P e → Q e) → IfErr r P → IfErr r Q
IfErr_map (Ok a) f p = p
IfErr_map (Err e) f p = f e p

-- out of memory, where nothing stood
pub out_of_memory : {A N : Type 0} (P : Refusal → Type 0) (r : Result A Refusal) → IsErrAnd r (λ e. e ≡ Memory) → N → IfErr r (λ why. P why ⊎ ((why ≡ Memory) × N))
out_of_memory P (Ok a) e n = tt
out_of_memory P (Err why) e n = inr (e, n)

-- whether a fact was new is told of what stands at its key
pub new_as : (r : Result Bool Refusal) (x y : Option VersionValue) (fact : Fact) → x ≡ y → IfOk r (λ is. is ≡ not (has_like x fact)) → IfOk r (λ is. is ≡ not (has_like y fact))
new_as r x y fact same told = subst (λ v. IfOk r (λ is. is ≡ not (has_like v fact))) same told

pub new_at : (x : Option VersionValue) (fact : Fact) → x ≡ None → true ≡ not (has_like x fact)
new_at x (Row row) none = ap (λ v. not (is_some (row_of v))) (sym none)
new_at x (End died) none = ap (λ v. not (is_some (died_of v))) (sym none)

pub is_there : {X : Type 0} (x : Option X) (v : X) → Some v ≡ x → IsSome x
is_there x v e = subst IsSome e refl

pub none_at : {X Y : Type 0} (now : Y → X) (r : Option Y) (x : Option X) → option_map now r ≡ x → is_some r ≡ false → x ≡ None
none_at now None x is e = sym is
none_at now (Some v) x is e = absurd (true≢false e)

pub some_at : {X Y : Type 0} (now : Y → X) (r : Option Y) (x : Option X) → option_map now r ≡ x → is_some r ≡ true → is_some x ≡ true
some_at now None x is e = absurd (true≢false (sym e))
some_at now (Some v) x is e = ap is_some (sym is)

-- ---- entries in order

pub and_T : (a b : Bool) → T a → T b → T (a && b)
and_T true b p q = q
and_T false b p q = p

module _ {K X : Type 0} (R : K → K → Ordering) where
  below_from_sorted : (k : K) (es : List (K × X)) → AllByRecursion (λ y. R k y ≡ Less) (keys_of es) → T (below_all R k es)
  below_from_sorted k [] h = tt
  below_from_sorted k (e ∷ es) h = and_T _ _ (subst (λ r. T (is_lt r)) (sym h.0) tt) (below_from_sorted k es h.1)

  sorted_entries : (es : List (K × X)) → IsStrictlySortedBy R (keys_of es) → T (is_sorted R es)
  sorted_entries [] h = tt
  sorted_entries (e ∷ es) h = and_T _ _ (below_from_sorted e.0 es (sorted_head R e.0 (keys_of es) h)) (sorted_entries es (sorted_tail R e.0 (keys_of es) h))

  pub find_lookup : (q : K) (es : List (K × X)) → find R q es ≡ lookup (tree.is_at (R q)) es
  find_lookup q [] = refl
  find_lookup q (e ∷ es) = ap (cond (eq_by_cmp R q e.0) (Some e.1)) (find_lookup q es)

-- ---- the map that a tree is seen as, whatever its keys are

module _ {K X : Type 0} {R : K → K → Ordering} (total : IsTotalOrder R) where
  pub get_tree : (m : BTreeMap K X) (q : K) → finmap.get (finmap.from_entries {R = R} m.entries) q ≡ tree.get R m q
  get_tree m q = finmap.get-from_entries total m.entries q ∙ find_lookup R q m.entries

  pub get_updated : (m n : BTreeMap K X) (k : K) (w : Option X) → tree.Updates R m n k w → (q : K) → finmap.get (finmap.from_entries {R = R} n.entries) q ≡ cond (eq_by_cmp R q k) w (finmap.get (finmap.from_entries {R = R} m.entries) q)
  get_updated m n k w u q = get_tree n q ∙ u.0 q ∙ (λ i. cond ((eq_by_cmp_equiv total).symm k q i) w (sym (get_tree m q) i))

  pub entries_sorted : finmap.IsAntisymmetric R → (es : List (K × X)) → IsStrictlySortedBy R (keys_of es) → finmap.entries (finmap.from_entries {R = R} es) ≡ es
  entries_sorted same es h = same_entries R total same (finmap.entries (finmap.from_entries {R = R} es)) es (finmap.entries_sorted (finmap.from_entries {R = R} es)) (sorted_entries R es h)
      (λ q. sym (finmap.get-entries (finmap.from_entries {R = R} es) q) ∙ finmap.get-from_entries total es q)

  pub entries_tree : finmap.IsAntisymmetric R → (m : BTreeMap K X) → tree.IsOrdered R m → finmap.entries (finmap.from_entries {R = R} m.entries) ≡ m.entries
  entries_tree same m h = entries_sorted same m.entries h

module _ {X : Type 0} where
  pub get_entries : (es : List (ℕ × X)) (q : ℕ) → finmap.get (finmap.from_entries {R = nat_cmp} es) q ≡ lookup (tree.is_at (nat_cmp q)) es
  get_entries es q = finmap.get-from_entries nat_cmp_total es q ∙ find_lookup nat_cmp q es

  -- ---- what is changed at one key

  pub get-set_at : (m : finmap.FinMap nat_cmp X) (k : ℕ) (w : Option X) (q : ℕ) → finmap.get (set_at m k w) q ≡ cond (eq_by_cmp nat_cmp q k) w (finmap.get m q)
  get-set_at m k None q = finmap.get-remove nat_cmp_total m k q
  get-set_at m k (Some x) q = finmap.get-insert nat_cmp_total m k x q

  pub same_at_all : (m n : finmap.FinMap nat_cmp X) → ((q : ℕ) → finmap.get m q ≡ finmap.get n q) → m ≡ n
  same_at_all m n is = finmap.same_map nat_cmp_total finmap.nat_cmp-IsAntisymmetric m n is

  -- what stands there already
  pub set_at_same : (m : finmap.FinMap nat_cmp X) (k : ℕ) (w : Option X) → finmap.get m k ≡ w → set_at m k w ≡ m
  set_at_same m k w is = same_at_all _ _ (λ q.
      get-set_at m k w q
      ∙ elim (eq_by_cmp nat_cmp q k) as (λ b. eq_by_cmp nat_cmp q k ≡ b → cond b w (finmap.get m q) ≡ finmap.get m q) [
        | true ↦ λ e. sym (ap (finmap.get m) (tied_same q k e) ∙ is)
        | false ↦ λ e. refl
      ] refl)

  -- ---- the map that a tree is seen as

  abbrev pub seen : BTreeMap ℕ X → finmap.FinMap nat_cmp X
  seen m = finmap.from_entries m.entries

  pub get_seen : (m : BTreeMap ℕ X) (q : ℕ) → finmap.get (seen m) q ≡ tree.get nat_cmp m q
  get_seen m q = get_tree nat_cmp_total m q

  pub entries_seen : (m : BTreeMap ℕ X) → tree.IsOrdered nat_cmp m → finmap.entries (seen m) ≡ m.entries
  entries_seen m h = entries_tree nat_cmp_total finmap.nat_cmp-IsAntisymmetric m h

  pub seen_none : (m : BTreeMap ℕ X) → length m.entries ≡ 0 → seen m ≡ finmap.empty
  seen_none m h = none m.entries h
    where
      none : (es : List (ℕ × X)) → length es ≡ 0 → finmap.from_entries {R = nat_cmp} es ≡ finmap.empty
      none [] h = refl
      none (e ∷ es) h = absurd (omega arith)

  pub none_seen : (m : BTreeMap ℕ X) → seen m ≡ finmap.empty → length m.entries ≡ 0
  none_seen m h = none m.entries h
    where
      none : (es : List (ℕ × X)) → finmap.from_entries {R = nat_cmp} es ≡ finmap.empty → length es ≡ 0
      none [] h = refl
      none (e ∷ es) h = cc (sym (finmap.get-empty nat_cmp e.0) ∙ sym (ap (λ n. finmap.get n e.0) h) ∙ finmap.get-from_entries nat_cmp_total (e ∷ es) e.0 ∙ ap (λ b. cond b (Some e.1) (find nat_cmp e.0 es)) (tied_self e.0))

  pub seen_set : (m n : BTreeMap ℕ X) (k : ℕ) (w : Option X) → tree.Updates nat_cmp m n k w → seen n ≡ set_at (seen m) k w
  seen_set m n k w u = same_at_all _ _ (λ q. get_updated nat_cmp_total m n k w u q ∙ sym (get-set_at (seen m) k w q))

  pub found_seen : (m : BTreeMap ℕ X) (k : ℕ) (x : Option X) → x ≡ tree.get nat_cmp m k → x ≡ finmap.get (seen m) k
  found_seen m k x is = is ∙ sym (get_seen m k)

  -- ---- what is written through a loan, or put in where nothing was

  module _ (m n : BTreeMap ℕ X) (k : ℕ) where
    pub alter_there : (v w : X) (f : Option X → Option X) → Some v ≡ tree.get nat_cmp m k → (IsSome (tree.get nat_cmp m k) → tree.Updates nat_cmp m n k (Some w)) → f (Some v) ≡ Some w → seen n ≡ alter f (seen m) k
    alter_there v w f has u is =
        seen_set m n k (Some w) (u (is_there _ v has))
        ∙ ap (set_at (seen m) k) (sym is ∙ ap f (found_seen m k (Some v) has))

    -- what is left is taken out
    pub alter_gone : (r : BTreeMap ℕ X) (v w : X) (f : Option X → Option X) → Some v ≡ tree.get nat_cmp m k → (IsSome (tree.get nat_cmp m k) → tree.Updates nat_cmp m n k (Some w)) → tree.Updates nat_cmp n r k None → f (Some v) ≡ None → seen r ≡ alter f (seen m) k
    alter_gone r v w f has u gone is =
        seen_set n r k None gone
        ∙ ap (λ c. set_at c k None) (seen_set m n k (Some w) (u (is_there _ v has)))
        ∙ set_twice (seen m) (Some w) None
        ∙ ap (set_at (seen m) k) (sym is ∙ ap f (found_seen m k (Some v) has))
      where
        twice : (b : Bool) (x y z : Option X) → cond b x (cond b y z) ≡ cond b x z
        twice true x y z = refl
        twice false x y z = refl

        set_twice : (c : finmap.FinMap nat_cmp X) (x y : Option X) → set_at (set_at c k x) k y ≡ set_at c k y
        set_twice c x y = same_at_all _ _ (λ q. get-set_at _ k y q ∙ ap (cond (eq_by_cmp nat_cmp q k) y) (get-set_at c k x q) ∙ twice (eq_by_cmp nat_cmp q k) y x (finmap.get c q) ∙ sym (get-set_at c k y q))

    put_seen : (w : X) → tree.Updates nat_cmp m n k (Some w) → put_at (seen m) k (Ok w) ≡ Ok (seen n)
    put_seen w u = ap Ok (sym (seen_set m n k (Some w) u))

    pub put_there : (v w : X) (f : Option X → Result X Refusal) → Some v ≡ tree.get nat_cmp m k → (IsSome (tree.get nat_cmp m k) → tree.Updates nat_cmp m n k (Some w)) → f (Some v) ≡ Ok w → put_by f (seen m) k ≡ Ok (seen n)
    put_there v w f has u is = ap (λ x. put_at (seen m) k (f x)) (sym (found_seen m k (Some v) has)) ∙ ap (put_at (seen m) k) is ∙ put_seen w (u (is_there _ v has))

    -- what was there is written back
    pub write_back : (v w : X) → Some v ≡ tree.get nat_cmp m k → (IsSome (tree.get nat_cmp m k) → tree.Updates nat_cmp m n k (Some w)) → w ≡ v → seen n ≡ seen m
    write_back v w has u same =
        seen_set m n k (Some w) (u (is_there _ v has))
        ∙ set_at_same (seen m) k (Some w) (sym (found_seen m k (Some v) has) ∙ ap Some (sym same))

    pub put_new : (w : X) (f : Option X → Result X Refusal) → None ≡ tree.get nat_cmp m k → f None ≡ Ok w → tree.Updates nat_cmp m n k (Some w) → put_by f (seen m) k ≡ Ok (seen n)
    put_new w f none is u = ap (λ x. put_at (seen m) k (f x)) (sym (found_seen m k None none)) ∙ ap (put_at (seen m) k) is ∙ put_seen w u

  pub alter_absent : (m : BTreeMap ℕ X) (k : ℕ) (f : Option X → Option X) → None ≡ tree.get nat_cmp m k → f None ≡ None → seen m ≡ alter f (seen m) k
  alter_absent m k f none is = sym (set_at_same (seen m) k (f (finmap.get (seen m) k)) (sym (found_seen m k None none) ∙ sym is ∙ ap f (found_seen m k None none)))

  pub put_refused : (m : BTreeMap ℕ X) (k : ℕ) (v : X) (f : Option X → Result X Refusal) (why : Refusal) → Some v ≡ tree.get nat_cmp m k → f (Some v) ≡ Err why → put_by f (seen m) k ≡ Err why
  put_refused m k v f why has is = ap (λ x. put_at (seen m) k (f x)) (sym (found_seen m k (Some v) has)) ∙ ap (put_at (seen m) k) is
