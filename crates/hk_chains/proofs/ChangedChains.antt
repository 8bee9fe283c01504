-- A change of stored chains is a change of their facts.
use Rattle.std.proofs.Common.{◌≡◌, refl, sym, ap, ◌∙◌, ℕ, Bool, true, false, cond, ◌&&◌, ◌==◌, Option, Some, None, Result, Ok, Err, nat_cmp, ◌||◌}
use Rattle.std.specs.Cmp.{nat_cmp_total, Equal-is}
use Rattle.std.specs.Option.{option_and_then, is_some}
use Rattle.std.specs.Ordering.{eq_by_cmp}
use Rattle.std.specs.FinMap as finmap
use Rattle.hk_types.specs.Values.{same_row}
use Rattle.hk_types.specs.declared.version_key.VersionKey.{VersionKey}
use Rattle.hk_types.specs.declared.faults.Refusal.{Refusal}
use Rattle.hk_types.specs.declared.faults.Refusal.TheVariants.{Conflict}
use Rattle.hk_log.specs.Versions.{VersionValue, is_known}
use Rattle.hk_model.specs.History.Rows.{RowKey, row_key_cmp, row_key_of, version_key_cmp, version_of}
use Rattle.hk_model.specs.Replica.Maps.{or_else, values_conflict}
use Rattle.hk_model.proofs.Replica.Maps.{row_key_same, version_key_total, version_key_same}
use Rattle.hk_facts.specs.declared.fact.Fact.{Fact}
use Rattle.hk_facts.specs.declared.fact.Fact.TheVariants.{Row, End}
use Rattle.hk_facts.specs.declared.fact.Part.{Part}
use Rattle.hk_facts.specs.declared.fact.Part.TheVariants.{Row as RowPart, End as EndPart, Whole}
use Rattle.hk_facts.specs.Facts.{row_of, died_of, fact_conflicts, with_fact, put_result, without, if_known}
use Rattle.hk_facts.specs.Chains.{ChainValue, put_at, chain_put, chain_forget}
use Rattle.hk_facts.proofs.StoredTrees.{get-set_at, tied_self}
use Rattle.hk_chains.specs.Facts.{FactsValue, ChainsValue, stored_version, facts_of, AllKnown, with_added, conflicts_at, with_fact_at, facts_put, facts_without}
use Rattle.hk_chains.proofs.StoredFacts.{tied, key_tied, get_row, get_end, row_known, died_known}

-- ---- one chain that changes

-- the chain has what is stored of a row
abbrev pub IsChainOf : ChainsValue → RowKey → ChainValue → Type 0
IsChainOf m k c = (born : ℕ) → finmap.get c born ≡ stored_version m (version_of k born)

-- the chains with this one in the place of a row's chain, or with none there
abbrev pub IsChanged : ChainsValue → ChainsValue → RowKey → Option ChainValue → Type 0
IsChanged m n k w = (q : RowKey) → finmap.get n q ≡ cond (eq_by_cmp row_key_cmp q k) w (finmap.get m q)

pub row_is : (q k : RowKey) → eq_by_cmp row_key_cmp q k ≡ true → q ≡ k
row_is q k e = row_key_same q k ((Equal-is (row_key_cmp q k)).0 e)

-- where one version alone differs in what stands in the place of the chain
stored_changed : (m n : ChainsValue) (v : VersionKey) (w : Option ChainValue) (new : Option VersionValue) → IsChanged m n (row_key_of v) w
    → ((born : ℕ) → option_and_then (λ c. finmap.get c born) w ≡ cond (eq_by_cmp nat_cmp born v.born) new (stored_version m (version_of (row_key_of v) born)))
    → (q : VersionKey) → stored_version n q ≡ cond (tied q v) new (stored_version m q)
unfolding tied
stored_changed m n v w new is below q =
    ap (option_and_then (λ c. finmap.get c q.born)) (is (row_key_of q))
    ∙ cases (eq_by_cmp row_key_cmp (row_key_of q) (row_key_of v)) refl
  where
    cases : (b : Bool) → eq_by_cmp row_key_cmp (row_key_of q) (row_key_of v) ≡ b
        → option_and_then (λ c. finmap.get c q.born) (cond b w (finmap.get m (row_key_of q))) ≡ cond (b && eq_by_cmp nat_cmp q.born v.born) new (stored_version m q)
    cases true e = below q.born ∙ ap (λ k. cond (eq_by_cmp nat_cmp q.born v.born) new (stored_version m (version_of k q.born))) (sym (row_is (row_key_of q) (row_key_of v) e))
    cases false e = refl

-- ---- a fact that is put in

joined_ok : (fact : Fact) (x : Option VersionValue) (y : VersionValue) → put_result fact x ≡ Ok y → (fact_conflicts fact x ≡ false) × (y ≡ with_fact fact x)
joined_ok fact x y = cases (fact_conflicts fact x)
  where
    cases : (b : Bool) → cond b (Err Conflict) (Ok (with_fact fact x)) ≡ Ok y → (b ≡ false) × (y ≡ with_fact fact x)
    cases true e = cc
    cases false e = (refl, cc)

joined_err : (fact : Fact) (x : Option VersionValue) (why : Refusal) → put_result fact x ≡ Err why → (fact_conflicts fact x ≡ true) × (why ≡ Conflict)
joined_err fact x why = cases (fact_conflicts fact x)
  where
    cases : (b : Bool) → cond b (Err Conflict) (Ok (with_fact fact x)) ≡ Err why → (b ≡ true) × (why ≡ Conflict)
    cases true e = (refl, cc)
    cases false e = cc

put_ok : (c d : ChainValue) (born : ℕ) (r : Result VersionValue Refusal) → put_at c born r ≡ Ok d → (x : VersionValue) × ((r ≡ Ok x) × (d ≡ finmap.insert c born x))
put_ok c d born (Ok x) is = (x, (refl, cc))
put_ok c d born (Err why) is = cc

put_err : (c : ChainValue) (born : ℕ) (r : Result VersionValue Refusal) (why : Refusal) → put_at c born r ≡ Err why → r ≡ Err why
put_err c born (Ok x) why is = cc
put_err c born (Err w) why is = cc

module _ (fact : Fact) (m : ChainsValue) (v : VersionKey) (c : ChainValue) (of : IsChainOf m (row_key_of v) c) where
  chain_put_ok : (d : ChainValue) → chain_put c v.born fact ≡ Ok d
      → (fact_conflicts fact (stored_version m v) ≡ false) × ((born : ℕ) → finmap.get d born ≡ cond (eq_by_cmp nat_cmp born v.born) (Some (with_fact fact (stored_version m v))) (stored_version m (version_of (row_key_of v) born)))
  chain_put_ok d is =
      let put = put_ok c d v.born (put_result fact (finmap.get c v.born)) is in
      let new = joined_ok fact (finmap.get c v.born) put.0 put.1.0 in (
        ap (fact_conflicts fact) (sym (of v.born)) ∙ new.0,
        λ born. ap (λ x. finmap.get x born) put.1.1 ∙ finmap.get-insert nat_cmp_total c v.born put.0 born
            ∙ (λ i. cond (eq_by_cmp nat_cmp born v.born) (Some ((new.1 ∙ ap (with_fact fact) (of v.born)) i)) (of born i)),
      )

  put_stored : (n : ChainsValue) (d : ChainValue) → chain_put c v.born fact ≡ Ok d → IsChanged m n (row_key_of v) (Some d) → (q : VersionKey) → stored_version n q ≡ cond (tied q v) (Some (with_fact fact (stored_version m v))) (stored_version m q)
  put_stored n d put is = stored_changed m n v (Some d) (Some (with_fact fact (stored_version m v))) is (chain_put_ok d put).1

  chain_put_err : (why : Refusal) → chain_put c v.born fact ≡ Err why → (fact_conflicts fact (stored_version m v) ≡ true) × (why ≡ Conflict)
  chain_put_err why is =
      let at = joined_err fact (finmap.get c v.born) why (put_err c v.born (put_result fact (finmap.get c v.born)) why is) in
      (ap (fact_conflicts fact) (sym (of v.born)) ∙ at.0, at.1)

-- ---- a part that is taken back

-- what is left of the chain stands in its place, or nothing where nothing is left
forgotten_stored : (part : Part) (m n : ChainsValue) (v : VersionKey) (c : ChainValue) (w : Option ChainValue) → IsChainOf m (row_key_of v) c → IsChanged m n (row_key_of v) w
    → ((born : ℕ) → option_and_then (λ d. finmap.get d born) w ≡ finmap.get (chain_forget c v.born part) born)
    → (q : VersionKey) → stored_version n q ≡ cond (tied q v) (without part (stored_version m v)) (stored_version m q)
forgotten_stored part m n v c w of is left = stored_changed m n v w (without part (stored_version m v)) is (λ born.
    left born
    ∙ get-set_at c v.born (without part (finmap.get c v.born)) born
    ∙ (λ i. cond (eq_by_cmp nat_cmp born v.born) (without part (of v.born i)) (of born i)))

-- ---- in the words of facts

pub tied_is : (q v : VersionKey) → tied q v ≡ true → q ≡ v
tied_is q v e = version_key_same q v ((Equal-is (version_key_cmp q v)).0 (key_tied q v ∙ e))

pub same_facts : (f g : FactsValue) → ((q : VersionKey) → finmap.get f.rows q ≡ finmap.get g.rows q) → ((q : VersionKey) → finmap.get f.ends q ≡ finmap.get g.ends q) → f ≡ g
same_facts f g rows ends = λ i. record { rows = finmap.same_map version_key_total version_key_same f.rows g.rows rows i; ends = finmap.same_map version_key_total version_key_same f.ends g.ends ends i }

module _ {X : Type 0} where
  pub get-added : (m : finmap.FinMap version_key_cmp X) (v : VersionKey) (x : X) (q : VersionKey) → finmap.get (with_added m v x) q ≡ cond (tied q v) (or_else (finmap.get m v) (Some x)) (finmap.get m q)
  get-added m v x q = cases (finmap.get m v) refl
    where
      here : (y : X) → finmap.get m v ≡ Some y → (b : Bool) → tied q v ≡ b → finmap.get m q ≡ cond b (Some y) (finmap.get m q)
      here y is true t = ap (finmap.get m) (tied_is q v t) ∙ is
      here y is false t = refl

      cases : (o : Option X) → finmap.get m v ≡ o → finmap.get (cond (is_some o) m (finmap.insert m v x)) q ≡ cond (tied q v) (or_else o (Some x)) (finmap.get m q)
      cases None is = finmap.get-insert version_key_total m v x q ∙ ap (λ b. cond b (Some x) (finmap.get m q)) (key_tied q v)
      cases (Some y) is = here y is (tied q v) refl

  pub get-without : (m : finmap.FinMap version_key_cmp X) (v q : VersionKey) → finmap.get (finmap.remove m v) q ≡ cond (tied q v) None (finmap.get m q)
  get-without m v q = finmap.get-remove version_key_total m v q ∙ ap (λ b. cond b None (finmap.get m q)) (key_tied q v)

-- chains that differ in one version alone
module _ (m n : ChainsValue) (v : VersionKey) (new : Option VersionValue) (is : (q : VersionKey) → stored_version n q ≡ cond (tied q v) new (stored_version m q)) where
  row_changed : (q : VersionKey) → finmap.get (facts_of n).rows q ≡ cond (tied q v) (row_of new) (finmap.get (facts_of m).rows q)
  row_changed q = get_row n q ∙ ap row_of (is q) ∙ each (tied q v) new (stored_version m q) ∙ ap (cond (tied q v) (row_of new)) (sym (get_row m q))
    where
      each : (b : Bool) (x y : Option VersionValue) → row_of (cond b x y) ≡ cond b (row_of x) (row_of y)
      each true x y = refl
      each false x y = refl

  end_changed : (q : VersionKey) → finmap.get (facts_of n).ends q ≡ cond (tied q v) (died_of new) (finmap.get (facts_of m).ends q)
  end_changed q = get_end n q ∙ ap died_of (is q) ∙ each (tied q v) new (stored_version m q) ∙ ap (cond (tied q v) (died_of new)) (sym (get_end m q))
    where
      each : (b : Bool) (x y : Option VersionValue) → died_of (cond b x y) ≡ cond b (died_of x) (died_of y)
      each true x y = refl
      each false x y = refl

  row_stays : row_of new ≡ row_of (stored_version m v) → (q : VersionKey) → finmap.get (facts_of n).rows q ≡ finmap.get (facts_of m).rows q
  row_stays same q = row_changed q ∙ here (tied q v) refl
    where
      here : (b : Bool) → tied q v ≡ b → cond b (row_of new) (finmap.get (facts_of m).rows q) ≡ finmap.get (facts_of m).rows q
      here true t = same ∙ sym (get_row m v) ∙ ap (finmap.get (facts_of m).rows) (sym (tied_is q v t))
      here false t = refl

  end_stays : died_of new ≡ died_of (stored_version m v) → (q : VersionKey) → finmap.get (facts_of n).ends q ≡ finmap.get (facts_of m).ends q
  end_stays same q = end_changed q ∙ here (tied q v) refl
    where
      here : (b : Bool) → tied q v ≡ b → cond b (died_of new) (finmap.get (facts_of m).ends q) ≡ finmap.get (facts_of m).ends q
      here true t = same ∙ sym (get_end m v) ∙ ap (finmap.get (facts_of m).ends) (sym (tied_is q v t))
      here false t = refl

  known_changed : ((w : VersionValue) → new ≡ Some w → is_known w ≡ true) → AllKnown m → AllKnown n
  known_changed fresh known q w e = cases (tied q v) (sym (is q) ∙ e)
    where
      cases : (b : Bool) → cond b new (stored_version m q) ≡ Some w → is_known w ≡ true
      cases true f = fresh w f
      cases false f = known q w f

with_fact_is : (m n : ChainsValue) (v : VersionKey) (fact : Fact) → ((q : VersionKey) → stored_version n q ≡ cond (tied q v) (Some (with_fact fact (stored_version m v))) (stored_version m q)) → with_fact_at (facts_of m) v fact ≡ facts_of n
with_fact_is m n v (Row row) is =
    same_facts (with_fact_at (facts_of m) v (Row row)) (facts_of n)
    (λ q. get-added (facts_of m).rows v row q ∙ ap (λ x. cond (tied q v) (or_else x (Some row)) (finmap.get (facts_of m).rows q)) (get_row m v) ∙ sym (row_changed m n v (Some (with_fact (Row row) (stored_version m v))) is q))
    (λ q. sym (end_stays m n v (Some (with_fact (Row row) (stored_version m v))) is refl q))
with_fact_is m n v (End died) is =
    same_facts (with_fact_at (facts_of m) v (End died)) (facts_of n)
    (λ q. sym (row_stays m n v (Some (with_fact (End died) (stored_version m v))) is refl q))
    (λ q. get-added (facts_of m).ends v died q ∙ ap (λ x. cond (tied q v) (or_else x (Some died)) (finmap.get (facts_of m).ends q)) (get_end m v) ∙ sym (end_changed m n v (Some (with_fact (End died) (stored_version m v))) is q))

conflicts_is : (m : ChainsValue) (v : VersionKey) (fact : Fact) → conflicts_at (facts_of m) v fact ≡ fact_conflicts fact (stored_version m v)
conflicts_is m v (Row row) = ap (λ x. values_conflict same_row x (Some row)) (get_row m v)
conflicts_is m v (End died) = ap (λ x. values_conflict (λ a b. a == b) x (Some died)) (get_end m v)

module _ (fact : Fact) (m : ChainsValue) (v : VersionKey) (c : ChainValue) (of : IsChainOf m (row_key_of v) c) where
  pub facts_put_ok : (n : ChainsValue) (d : ChainValue) → chain_put c v.born fact ≡ Ok d → IsChanged m n (row_key_of v) (Some d) → facts_put (facts_of m) v fact ≡ Ok (facts_of n)
  facts_put_ok n d put is =
      ap (λ b. cond b (Err Conflict) (Ok (with_fact_at (facts_of m) v fact))) (conflicts_is m v fact ∙ (chain_put_ok fact m v c of d put).0) ∙ ap Ok (with_fact_is m n v fact (put_stored fact m v c of n d put is))

  -- the chain has something
  pub put_some : (d : ChainValue) → chain_put c v.born fact ≡ Ok d → d ≡ finmap.empty → ⊥
  put_some d put none = cc (sym (finmap.get-empty nat_cmp v.born) ∙ ap (λ x. finmap.get x v.born) (sym none) ∙ (chain_put_ok fact m v c of d put).1 v.born ∙ ap (λ b. cond b (Some (with_fact fact (stored_version m v))) (stored_version m v)) (tied_self v.born))

  pub facts_put_err : (why : Refusal) → chain_put c v.born fact ≡ Err why → facts_put (facts_of m) v fact ≡ Err why
  facts_put_err why is =
      let put = chain_put_err fact m v c of why is in
      ap (λ b. cond b (Err Conflict) (Ok (with_fact_at (facts_of m) v fact))) (conflicts_is m v fact ∙ put.0) ∙ ap Err (sym put.1)

  pub known_put : (n : ChainsValue) (d : ChainValue) → chain_put c v.born fact ≡ Ok d → IsChanged m n (row_key_of v) (Some d) → AllKnown m → AllKnown n
  known_put n d put is known = known_changed m n v (Some (with_fact fact (stored_version m v))) (put_stored fact m v c of n d put is) (λ w e. let same : with_fact fact (stored_version m v) ≡ w = cc in ap is_known (sym same) ∙ fresh fact (stored_version m v)) known
    where
      some : {X : Type 0} (o : Option X) (x : X) → is_some (or_else o (Some x)) ≡ true
      some None x = refl
      some (Some y) x = refl

      either : (b : Bool) → (b || true) ≡ true
      either true = refl
      either false = refl

      fresh : (fact : Fact) (x : Option VersionValue) → is_known (with_fact fact x) ≡ true
      fresh (Row row) x = ap (λ b. b || is_some (died_of x)) (some (row_of x) row)
      fresh (End died) x = ap (λ b. is_some (row_of x) || b) (some (died_of x) died) ∙ either (is_some (row_of x))

without_is : (part : Part) (m n : ChainsValue) (v : VersionKey) → ((q : VersionKey) → stored_version n q ≡ cond (tied q v) (without part (stored_version m v)) (stored_version m q)) → facts_of n ≡ facts_without (facts_of m) v part
without_is RowPart m n v is =
    same_facts (facts_of n) (facts_without (facts_of m) v RowPart)
    (λ q. row_changed m n v (without RowPart (stored_version m v)) is q ∙ ap (λ x. cond (tied q v) x (finmap.get (facts_of m).rows q)) (row_known (record { row = None; died = died_of (stored_version m v) })) ∙ sym (get-without (facts_of m).rows v q))
    (end_stays m n v (without RowPart (stored_version m v)) is (died_known (record { row = None; died = died_of (stored_version m v) })))
without_is EndPart m n v is =
    same_facts (facts_of n) (facts_without (facts_of m) v EndPart)
    (row_stays m n v (without EndPart (stored_version m v)) is (row_known (record { row = row_of (stored_version m v); died = None })))
    (λ q. end_changed m n v (without EndPart (stored_version m v)) is q ∙ ap (λ x. cond (tied q v) x (finmap.get (facts_of m).ends q)) (died_known (record { row = row_of (stored_version m v); died = None })) ∙ sym (get-without (facts_of m).ends v q))
without_is Whole m n v is =
    same_facts (facts_of n) (facts_without (facts_of m) v Whole)
    (λ q. row_changed m n v None is q ∙ sym (get-without (facts_of m).rows v q))
    (λ q. end_changed m n v None is q ∙ sym (get-without (facts_of m).ends v q))

module _ (part : Part) (m n : ChainsValue) (v : VersionKey) (c : ChainValue) (w : Option ChainValue) (of : IsChainOf m (row_key_of v) c) (is : IsChanged m n (row_key_of v) w)
    (left : (born : ℕ) → option_and_then (λ d. finmap.get d born) w ≡ finmap.get (chain_forget c v.born part) born) where
  pub facts_forgotten : facts_of n ≡ facts_without (facts_of m) v part
  facts_forgotten = without_is part m n v (forgotten_stored part m n v c w of is left)

  pub known_forgotten : AllKnown m → AllKnown n
  known_forgotten known = known_changed m n v (without part (stored_version m v)) (forgotten_stored part m n v c w of is left) (rest part) known
    where
      known_if : (w x : VersionValue) → if_known w ≡ Some x → is_known x ≡ true
      known_if w x = cases (is_known w) refl
        where
          cases : (b : Bool) → is_known w ≡ b → cond b (Some w) None ≡ Some x → is_known x ≡ true
          cases true k e = let same : w ≡ x = cc in ap is_known (sym same) ∙ k
          cases false k e = cc

      rest : (part : Part) (w : VersionValue) → without part (stored_version m v) ≡ Some w → is_known w ≡ true
      rest RowPart w e = known_if (record { row = None; died = died_of (stored_version m v) }) w e
      rest EndPart w e = known_if (record { row = row_of (stored_version m v); died = None }) w e
      rest Whole w e = cc
