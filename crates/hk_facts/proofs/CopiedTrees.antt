-- A tree that takes the entries of another, one after the other.
use Rattle.std.proofs.Common.{◌≡◌, refl, sym, ap, ◌∙◌, Option, Some, None, List, [], ◌∷◌, ◌++◌, map, Ordering}
use Rattle.std.specs.Cmp.{IsTotalOrder, eq_by_cmp_equiv}
use Rattle.std.specs.Ordering.{eq_by_cmp}
use Rattle.std.specs.BTreeMap.{BTreeMap}
use Rattle.std.specs.BTreeMap as tree
use Rattle.std.specs.FinMap as finmap
use Rattle.std.specs.Map.{keys_of, update_all}
use Rattle.std.proofs.lemmas.Map.{update_all_push}
use Rattle.std.proofs.lemmas.Map.Keys.{IsDistinct-from_sorted}
use Rattle.std.proofs.lemmas.Map.Made.{update_all_none}
use Rattle.std.proofs.lemmas.List.{map_push}
use Rattle.hk_facts.proofs.StoredTrees.{get_tree}

module _ {K X : Type 0} (R : K → K → Ordering) where
  abbrev filled : List (K × X) → K → Option X
  filled es q = update_all (eq_by_cmp R) (λ _. None) es q

  -- the tree has the entries that were shown
  abbrev pub Filled : {A : Type 0} → (A → K × X) → BTreeMap K X → List A → Type 0
  Filled shows m xs = (q : K) → tree.get R m q ≡ filled (map shows xs) q

  -- one more entry
  pub fill_more : {A : Type 0} (shows : A → K × X) (m n : BTreeMap K X) (xs : List A) (x : A) (k : K) (v : X) → (k, v) ≡ shows x → Filled shows m xs → tree.Updates R m n k (Some v) → Filled shows n (xs ++ x ∷ [])
  fill_more shows m n xs x k v is before u q =
      u.0 q
      ∙ update_all_push (eq_by_cmp R) (λ _. None) (tree.get R m) (map shows xs) (k, v) q (before q)
      ∙ ap (λ e. filled (map shows xs ++ e ∷ []) q) is
      ∙ ap (λ es. filled es q) (sym (map_push shows xs x))

  -- all of them
  pub filled_all : IsTotalOrder R → finmap.IsAntisymmetric R → (m n : BTreeMap K X) (es : List (K × X)) → tree.IsOrdered R m → es ≡ m.entries → ((q : K) → tree.get R n q ≡ filled es q) → finmap.from_entries {R = R} n.entries ≡ finmap.from_entries m.entries
  filled_all total same m n es ordered is each = finmap.same_map total same _ _ (λ q.
      get_tree total n q ∙ each q
      ∙ ap (λ fs. filled fs q) is
      ∙ update_all_none (eq_by_cmp_equiv total) (eq_by_cmp R) (λ x y. refl) m.entries q (IsDistinct-from_sorted R (keys_of m.entries) ordered)
      ∙ sym (get_tree total m q))
