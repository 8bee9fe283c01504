-- A fact that is put in a row's chain, which begins empty where there is none.
use Rattle.std.proofs.Common.{◌≡◌, refl, sym, ap, ◌∙◌, subst, ◌<◌, Bool, true, false, not, cond, Option, Some, None, Ok, inl, inr, nat_cmp, is_eq, arith}
use Rattle.std.specs.Cmp.{tied_itself}
use Rattle.std.specs.Bool.{OnTrue, OnFalse}
use Rattle.std.specs.Option.{unwrap_or}
use Rattle.std.specs.Ordering.{eq_by_cmp}
use Rattle.std.specs.FinMap as finmap
use Rattle.hk_types.specs.declared.version_key.VersionKey.{VersionKey}
use Rattle.hk_types.specs.declared.faults.Refusal.{Refusal}
use Rattle.hk_log.specs.Versions.{VersionValue}
use Rattle.hk_model.specs.History.Rows.{RowKey, row_key_cmp, row_key_of}
use Rattle.hk_model.proofs.Replica.Maps.{row_key_total, row_key_same}
use Rattle.hk_facts.specs.declared.fact.Fact.{Fact}
use Rattle.hk_facts.specs.Chains.{ChainValue, chain_put, RefusesPut}
use Rattle.hk_slots.specs.SlotMaps.{Slots}
use Rattle.hk_facts.specs.Facts.{has_like}
use Rattle.hk_chains.specs.Facts.{facts_of, facts_put, AreStored}
use Rattle.hk_chains.specs.Indexed.{IsNew, RefusesUnknown}
use Rattle.hk_chains.proofs.StoredFacts.{nothing_known}
use Rattle.hk_chains.proofs.ChangedChains.{IsChainOf, row_is, facts_put_ok, facts_put_err}
use Rattle.hk_chains.proofs.FactsByRow.{seen, changed, chain_absent, chain_there, put_stored}
use Rattle.hk_chains.proofs.NewFacts.{new_to, known_to, turned}
use Rattle.hk_chains.proofs.Indexed.{put_is}

tied_row : (k : RowKey) → eq_by_cmp row_key_cmp k k ≡ true
tied_row k = ap is_eq (tied_itself row_key_total k)

module _ (m n : Slots RowKey ChainValue) (k : RowKey) (v : VersionKey) (at : k ≡ row_key_of v) (fact : Fact) (c d : ChainValue) (is : c ≡ unwrap_or (finmap.get (seen m) k) finmap.empty) (u : seen n ≡ finmap.insert (seen m) k d) where
  of : IsChainOf (seen m) (row_key_of v) c
  of = by (finmap.get (seen m) k) refl
    where
      by : (o : Option ChainValue) → finmap.get (seen m) k ≡ o → IsChainOf (seen m) (row_key_of v) c
      by None e = subst (IsChainOf (seen m) (row_key_of v)) (sym (is ∙ ap (λ x. unwrap_or x finmap.empty) e)) (chain_absent m k v at (sym e))
      by (Some x) e = subst (IsChainOf (seen m) (row_key_of v)) (sym (is ∙ ap (λ x. unwrap_or x finmap.empty) e)) (chain_there m k v at x (sym e))

  -- ---- it is put in

  pub put_in_stored : chain_put c v.born fact ≡ Ok d → AreStored (seen m) → AreStored (seen n)
  put_in_stored put stored = put_stored m k v at fact n c d of put u stored

  pub put_in : chain_put c v.born fact ≡ Ok d → facts_put (facts_of (seen m)) v fact ≡ Ok (facts_of (seen n))
  put_in put = facts_put_ok fact (seen m) v c of (seen n) d put (changed m k v at n (Some d) u)

  pub put_in_new : (b : Bool) → b ≡ not (has_like (finmap.get c v.born) fact) → OnTrue b (IsNew (facts_of (seen m)) v fact)
  put_in_new true told = new_to (seen m) v (finmap.get c v.born) (of v.born) fact (turned true _ told)
  put_in_new false told = tt

  -- what agrees with what is known changes nothing
  pub put_in_known : (b : Bool) → b ≡ not (has_like (finmap.get c v.born) fact) → chain_put c v.born fact ≡ Ok d → OnFalse b (facts_of (seen n) ≡ facts_of (seen m))
  put_in_known true told put = tt
  put_in_known false told put =
      put_is (facts_of (seen m)) (facts_of (seen n)) v fact (put_in put)
      ∙ sym (known_to (seen m) v (finmap.get c v.born) (of v.born) fact (turned false _ told))

  -- ---- it is not put in

  -- a chain that was there stays as it was
  written_again : (x : ChainValue) → finmap.get (seen m) k ≡ Some x → d ≡ c → seen n ≡ seen m
  written_again x e same = u ∙ finmap.same_map row_key_total row_key_same (finmap.insert (seen m) k d) (seen m) (λ q. finmap.get-insert row_key_total (seen m) k d q ∙ here q (eq_by_cmp row_key_cmp q k) refl)
    where
      here : (q : RowKey) (b : Bool) → eq_by_cmp row_key_cmp q k ≡ b → cond b (Some d) (finmap.get (seen m) q) ≡ finmap.get (seen m) q
      here q true t = ap Some (same ∙ is ∙ ap (λ o. unwrap_or o finmap.empty) e) ∙ sym e ∙ ap (finmap.get (seen m)) (sym (row_is q k t))
      here q false t = refl

  pub refused_by_chain : (why : Refusal) → RefusesPut c v.born fact why → RefusesUnknown (facts_of (seen m)) v fact why
  refused_by_chain why (inl e) = inl (facts_put_err fact (seen m) v c of why e)
  refused_by_chain why (inr e) = inr (e.0, nothing_known (seen m) v (sym (of v.born) ∙ e.1))

  -- ---- an empty chain goes again

  module _ (r : Slots RowKey ChainValue) (stored : AreStored (seen m)) (same : d ≡ c) (kept : (x : ChainValue) → finmap.get (seen n) k ≡ Some x → 0 < finmap.len x → seen r ≡ seen n) (gone : finmap.get (seen n) k ≡ Some finmap.empty → seen r ≡ finmap.remove (seen n) k) where
    here_now : finmap.get (seen n) k ≡ Some d
    here_now = ap (λ x. finmap.get x k) u ∙ finmap.get-insert row_key_total (seen m) k d k ∙ ap (λ b. cond b (Some d) (finmap.get (seen m) k)) (tied_row k)

    pub undone : seen r ≡ seen m
    undone = by (finmap.get (seen m) k) refl
      where
        took_out : finmap.get (seen m) k ≡ None → (q : RowKey) (b : Bool) → eq_by_cmp row_key_cmp q k ≡ b → cond b None (cond b (Some d) (finmap.get (seen m) q)) ≡ finmap.get (seen m) q
        took_out e q true t = sym e ∙ ap (finmap.get (seen m)) (sym (row_is q k t))
        took_out e q false t = refl

        by : (o : Option ChainValue) → finmap.get (seen m) k ≡ o → seen r ≡ seen m
        by None e =
            gone (here_now ∙ ap Some (same ∙ is ∙ ap (λ x. unwrap_or x finmap.empty) e))
            ∙ finmap.same_map row_key_total row_key_same (finmap.remove (seen n) k) (seen m) (λ q.
            finmap.get-remove row_key_total (seen n) k q
            ∙ ap (λ x. cond (eq_by_cmp row_key_cmp q k) None (finmap.get x q)) u
            ∙ ap (cond (eq_by_cmp row_key_cmp q k) None) (finmap.get-insert row_key_total (seen m) k d q)
            ∙ took_out e q (eq_by_cmp row_key_cmp q k) refl)
        by (Some x) e =
            let itself : d ≡ x = same ∙ is ∙ ap (λ o. unwrap_or o finmap.empty) e in
            kept d here_now (subst (λ (y : ChainValue). 0 < finmap.len y) (sym itself) (stored.filled k x e)) ∙ written_again x e same

filled_not_empty : 0 < finmap.len (finmap.empty {X = VersionValue} {R = nat_cmp}) → ⊥
filled_not_empty some = let none = finmap.len-empty nat_cmp VersionValue in omega arith

-- an empty chain is not one that has something
pub no_empty_filled : (x c : ChainValue) → Some x ≡ Some c → c ≡ finmap.empty → 0 < finmap.len x → ⊥
no_empty_filled x c is none above =
    let same : x ≡ c = cc in
    filled_not_empty (subst (λ (y : ChainValue). 0 < finmap.len y) (same ∙ none) above)
