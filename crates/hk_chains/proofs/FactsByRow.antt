-- The facts of stored chains, and what becomes of them.
use Rattle.std.proofs.Common.{◌≡◌, refl, sym, ap, ◌∙◌, subst, ℕ, zero, suc, ◌<◌, Bool, true, false, cond, Option, Some, None, Ok, IfSome, IsSome, nat_cmp, Bor, arith}
use Rattle.std.specs.Option.{option_copied, option_and_then, IfNone}
use Rattle.std.specs.Ordering.{eq_by_cmp}
use Rattle.std.specs.FinMap as finmap
use Rattle.hk_types.specs.declared.version_key.VersionKey.{VersionKey}
use Rattle.hk_model.specs.History.Rows.{RowKey, row_key_cmp, row_key_of, version_key_cmp, version_of}
use Rattle.hk_model.proofs.Replica.Maps.{row_key_total}
use Rattle.hk_facts.specs.declared.fact.Fact.{Fact}
use Rattle.hk_facts.specs.declared.fact.Part.{Part}
use Rattle.hk_facts.specs.Facts.{row_of, died_of, without}
use Rattle.hk_facts.specs.Chains.{ChainValue, chain_put, chain_forget}
use Rattle.hk_facts.proofs.ForgottenParts.{nothing_left}
use Rattle.hk_facts.proofs.StoredTrees.{is_there, set_at_same}
use Rattle.hk_slots.specs.SlotMaps.{Slots, map_of, IsWritten}
use Rattle.hk_chains.specs.Facts.{ChainsValue, stored_version, facts_of, no_facts, known_at, AreStored, facts_without}
use Rattle.hk_chains.specs.Indexed.{}
use Rattle.hk_chains.proofs.StoredFacts.{get_row, get_end, known_stored, nothing_known}
use Rattle.hk_chains.proofs.ChangedChains.{IsChainOf, IsChanged, row_is, same_facts, put_some, known_put, facts_forgotten, known_forgotten}

abbrev pub seen : Slots RowKey ChainValue → ChainsValue
seen m = map_of row_key_cmp m

-- the chains with this one in the place of a row's chain, or with none there
abbrev pub Updates : Slots RowKey ChainValue → Slots RowKey ChainValue → RowKey → Option ChainValue → Type 0
Updates m n k (Some c) = seen n ≡ finmap.insert (seen m) k c
Updates m n k None = seen n ≡ finmap.remove (seen m) k

-- ---- no chains

stored_nothing : (q : VersionKey) → stored_version finmap.empty q ≡ None
stored_nothing q = ap (option_and_then (λ c. finmap.get c q.born)) (finmap.get-empty row_key_cmp (row_key_of q))

pub nothing_stored : AreStored finmap.empty
nothing_stored = record {
  filled = λ k c has. cc (sym (finmap.get-empty row_key_cmp k) ∙ has);
  known = λ q v e. cc (sym (stored_nothing q) ∙ e);
}

pub empty_facts : facts_of finmap.empty ≡ no_facts
empty_facts = same_facts (facts_of finmap.empty) no_facts
    (λ q. get_row finmap.empty q ∙ ap row_of (stored_nothing q) ∙ sym (finmap.get-empty version_key_cmp q))
    (λ q. get_end finmap.empty q ∙ ap died_of (stored_nothing q) ∙ sym (finmap.get-empty version_key_cmp q))

-- ---- what is looked up

pub get_updated : (m n : Slots RowKey ChainValue) (k : RowKey) (w : Option ChainValue) → Updates m n k w → IsChanged (seen m) (seen n) k w
get_updated m n k (Some c) u q = ap (λ x. finmap.get x q) u ∙ finmap.get-insert row_key_total (seen m) k c q
get_updated m n k None u q = ap (λ x. finmap.get x q) u ∙ finmap.get-remove row_key_total (seen m) k q

module _ (m : Slots RowKey ChainValue) (stored : AreStored (seen m)) (k : RowKey) where
  pub chain_some : (r : Option (Bor ChainValue)) → option_copied r ≡ finmap.get (seen m) k → IfSome r (λ c. (born : ℕ) → finmap.get c.now born ≡ known_at (facts_of (seen m)) (version_of k born))
  chain_some None has = tt
  chain_some (Some c) has = λ born. ap (option_and_then (λ d. finmap.get d born)) has ∙ sym (known_stored (seen m) stored.known (version_of k born))

  pub chain_none : (r : Option (Bor ChainValue)) → option_copied r ≡ finmap.get (seen m) k → IfNone r ((born : ℕ) → known_at (facts_of (seen m)) (version_of k born) ≡ None)
  chain_none None has = λ born. nothing_known (seen m) (version_of k born) (ap (option_and_then (λ d. finmap.get d born)) (sym has))
  chain_none (Some c) has = tt

  pub chain_filled : (r : Option (Bor ChainValue)) → option_copied r ≡ finmap.get (seen m) k → IfSome r (λ c. 0 < finmap.len c.now)
  chain_filled None has = tt
  chain_filled (Some c) has = stored.filled k c.now (sym has)

-- ---- chains that are not empty

pub filled_by : (c : ChainValue) → (c ≡ finmap.empty → ⊥) → 0 < finmap.len c
filled_by c some = size (finmap.len c) refl
  where
    size : (n : ℕ) → finmap.len c ≡ n → 0 < finmap.len c
    size zero e = absurd (some (finmap.empty_of_len c e))
    size (suc n) e = omega arith

pub filled_changed : (m n : ChainsValue) (k : RowKey) (w : Option ChainValue) → IsChanged m n k w → ((c : ChainValue) → w ≡ Some c → 0 < finmap.len c) → AreStored m → (q : RowKey) (c : ChainValue) → finmap.get n q ≡ Some c → 0 < finmap.len c
filled_changed m n k w is new stored q c has = cases (eq_by_cmp row_key_cmp q k) (sym (is q) ∙ has)
  where
    cases : (b : Bool) → cond b w (finmap.get m q) ≡ Some c → 0 < finmap.len c
    cases true e = new c e
    cases false e = stored.filled q c e

pub some_filled : (d : ChainValue) → 0 < finmap.len d → (c : ChainValue) → Some d ≡ Some c → 0 < finmap.len c
some_filled d above c e = let same : d ≡ c = cc in subst (λ (x : ChainValue). 0 < finmap.len x) same above

pub none_filled : (c : ChainValue) → None ≡ Some c → 0 < finmap.len c
none_filled c e = cc

module _ (m : Slots RowKey ChainValue) (k : RowKey) (v : VersionKey) (at : k ≡ row_key_of v) where
  pub chain_there : (c : ChainValue) → Some c ≡ finmap.get (seen m) k → IsChainOf (seen m) (row_key_of v) c
  chain_there c has born = ap (option_and_then (λ d. finmap.get d born)) (has ∙ ap (finmap.get (seen m)) at)

  pub chain_absent : None ≡ finmap.get (seen m) k → IsChainOf (seen m) (row_key_of v) finmap.empty
  chain_absent none born = finmap.get-empty nat_cmp born ∙ ap (option_and_then (λ d. finmap.get d born)) (none ∙ ap (finmap.get (seen m)) at)

  pub changed : (n : Slots RowKey ChainValue) (w : Option ChainValue) → Updates m n k w → IsChanged (seen m) (seen n) (row_key_of v) w
  changed n w u = subst (λ (r : RowKey). IsChanged (seen m) (seen n) r w) at (get_updated m n k w u)

  nothing_at : None ≡ finmap.get (seen m) k → None ≡ stored_version (seen m) v
  nothing_at none = sym (finmap.get-empty nat_cmp v.born) ∙ chain_absent none v.born

  pub absent_known : None ≡ finmap.get (seen m) k → known_at (facts_of (seen m)) v ≡ None
  absent_known none = nothing_known (seen m) v (sym (nothing_at none))

  -- ---- a fact that is put in

  module _ (fact : Fact) where
    pub put_stored : (n : Slots RowKey ChainValue) (c d : ChainValue) → IsChainOf (seen m) (row_key_of v) c → chain_put c v.born fact ≡ Ok d → Updates m n k (Some d) → AreStored (seen m) → AreStored (seen n)
    put_stored n c d of put u stored = record {
      filled = filled_changed (seen m) (seen n) (row_key_of v) (Some d) (changed n (Some d) u) (some_filled d (filled_by d (put_some fact (seen m) v c of d put))) stored;
      known = known_put fact (seen m) v c of (seen n) d put (changed n (Some d) u) stored.known;
    }

  -- ---- a chain that is there

  module _ (c : ChainValue) (has : Some c ≡ finmap.get (seen m) k) where
    module _ (n : Slots RowKey ChainValue) (d : ChainValue) (u : IsSome (finmap.get (seen m) k) → IsWritten row_key_cmp m k d n) where
      changed_there : IsChanged (seen m) (seen n) (row_key_of v) (Some d)
      changed_there = changed n (Some d) (u (is_there _ c has)).map

      module _ (part : Part) (is : d ≡ chain_forget c v.born part) where
        -- what is left stays
        pub forgot_there : facts_of (seen n) ≡ facts_without (facts_of (seen m)) v part
        forgot_there = facts_forgotten part (seen m) (seen n) v c (Some d) (chain_there c has) changed_there (λ born. ap (λ x. finmap.get x born) is)

        pub left_stored : (d ≡ finmap.empty → ⊥) → AreStored (seen m) → AreStored (seen n)
        left_stored some stored = record {
          filled = filled_changed (seen m) (seen n) (row_key_of v) (Some d) changed_there (some_filled d (filled_by d some)) stored;
          known = known_forgotten part (seen m) (seen n) v c (Some d) (chain_there c has) changed_there (λ born. ap (λ x. finmap.get x born) is) stored.known;
        }

        -- an empty chain goes
        module _ (r : Slots RowKey ChainValue) (gone : Updates n r k None) (none : d ≡ finmap.empty) where
          changed_gone : IsChanged (seen m) (seen r) (row_key_of v) None
          changed_gone q =
              subst (λ (s : RowKey). IsChanged (seen n) (seen r) s None) at (get_updated n r k None gone) q
              ∙ ap (cond (eq_by_cmp row_key_cmp q (row_key_of v)) None) (changed_there q)
              ∙ twice (eq_by_cmp row_key_cmp q (row_key_of v)) (finmap.get (seen m) q)
            where
              twice : (b : Bool) (z : Option ChainValue) → cond b None (cond b (Some d) z) ≡ cond b None z
              twice true z = refl
              twice false z = refl

          nothing_there : (born : ℕ) → None ≡ finmap.get (chain_forget c v.born part) born
          nothing_there born = sym (ap (λ x. finmap.get x born) (sym is ∙ none) ∙ finmap.get-empty nat_cmp born)

          pub forgot_gone : facts_of (seen r) ≡ facts_without (facts_of (seen m)) v part
          forgot_gone = facts_forgotten part (seen m) (seen r) v c None (chain_there c has) changed_gone nothing_there

          pub gone_stored : AreStored (seen m) → AreStored (seen r)
          gone_stored stored = record {
            filled = filled_changed (seen m) (seen r) (row_key_of v) None changed_gone none_filled stored;
            known = known_forgotten part (seen m) (seen r) v c None (chain_there c has) changed_gone nothing_there stored.known;
          }

  -- nothing is taken back of what is not there
  pub forgot_absent : (part : Part) → None ≡ finmap.get (seen m) k → facts_of (seen m) ≡ facts_without (facts_of (seen m)) v part
  forgot_absent part none =
      facts_forgotten part (seen m) (seen m) v finmap.empty None (chain_absent none)
      (λ q. here q (eq_by_cmp row_key_cmp q (row_key_of v)) refl)
      (λ born. sym (ap (λ x. finmap.get x born) (set_at_same finmap.empty v.born _ (finmap.get-empty nat_cmp v.born ∙ sym (ap (without part) (finmap.get-empty nat_cmp v.born) ∙ nothing_left part))) ∙ finmap.get-empty nat_cmp born))
    where
      here : (q : RowKey) (b : Bool) → eq_by_cmp row_key_cmp q (row_key_of v) ≡ b → finmap.get (seen m) q ≡ cond b None (finmap.get (seen m) q)
      here q true e = ap (finmap.get (seen m)) (row_is q (row_key_of v) e ∙ sym at) ∙ sym (none)
      here q false e = refl
