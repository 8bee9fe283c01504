-- Chains of which the ended versions are dropped, row by row.
use Rattle.std.proofs.Common.{◌≡◌, refl, sym, ap, ◌∙◌, subst, ℕ, ◌<◌, Bool, true, false, cond, not, ◌&&◌, Option, Some, None, is_some, IsSome, nat_cmp, ◌⊎◌, inl, inr, ◌≤◌, ◌+◌, ◌||◌, List, [], ◌∷◌, ◌++◌, true≢false, arith}
use Rattle.std.proofs.lemmas.Bool.{cases_lt}
use Rattle.std.proofs.lemmas.List.Folds.{list_any-append}
use Rattle.std.specs.Cmp.{nat_cmp_total}
use Rattle.std.specs.Option.{option_and_then}
use Rattle.std.specs.Ordering.{eq_by_cmp}
use Rattle.std.specs.FinMap as finmap
use Rattle.hk_types.specs.declared.version_key.VersionKey.{VersionKey}
use Rattle.hk_log.specs.Versions.{VersionValue, is_known}
use Rattle.hk_model.specs.History.Rows.{RowKey, row_key_cmp, row_key_of, version_of}
use Rattle.hk_model.specs.Replica.Content.{at_most, ended_by}
use Rattle.hk_model.proofs.Replica.Maps.{row_key_total, row_key_same, version_key_total, version_key_same, get-retain}
use Rattle.hk_facts.specs.Chains.{ChainValue, chain_until}
use Rattle.hk_facts.specs.Facts.{row_of, died_of}
use Rattle.hk_facts.proofs.StoredTrees.{is_there}
use Rattle.hk_slots.specs.SlotMaps.{Slots, slots_of, AreOwn, IsFree, IsWritten}
use Rattle.hk_slots.proofs.SeenSlots.{unmapped}
use Rattle.hk_slots.proofs.Tied.{tied_self}
use Rattle.hk_chains.specs.Drops.{pruned_facts}
use Rattle.hk_chains.specs.Facts.{ChainsValue, stored_version, facts_of, AllKnown, AreStored}
use Rattle.hk_index.specs.Timed.{is_among}
use Rattle.hk_chains.specs.Sweeps.{HasEnded, HasFewerSlots, IsSwept}
use Rattle.hk_chains.proofs.StoredFacts.{get_row, get_end}
use Rattle.hk_chains.proofs.ChangedChains.{IsChanged, row_is, same_facts}
use Rattle.hk_chains.proofs.FactsByRow.{seen, Updates, get_updated, filled_by, filled_changed, some_filled, none_filled}

-- whether what is stored of a version ended by h
abbrev has_ended : ChainsValue → ℕ → VersionKey → Bool
has_ended m h q = at_most h (died_of (stored_version m q))

-- nothing that is stored of a row ended by h
abbrev pub NoneEnded : ChainsValue → ℕ → RowKey → Type 0
NoneEnded m h row = (born : ℕ) → has_ended m h (version_of row born) ≡ false

-- ---- what is left of pruned chains

module _ (m : ChainsValue) (h : ℕ) (q : VersionKey) where
  pruned_row : finmap.get (pruned_facts (facts_of m) h).rows q ≡ cond (not (has_ended m h q)) (row_of (stored_version m q)) None
  pruned_row = get-retain version_key_total version_key_same (facts_of m).rows (λ v. not (ended_by (facts_of m).ends h v)) q ∙ (λ i. cond (not (at_most h (get_end m q i))) (get_row m q i) None)

  pruned_end : finmap.get (pruned_facts (facts_of m) h).ends q ≡ cond (not (has_ended m h q)) (died_of (stored_version m q)) None
  pruned_end = get-retain version_key_total version_key_same (facts_of m).ends (λ v. not (ended_by (facts_of m).ends h v)) q ∙ (λ i. cond (not (at_most h (get_end m q i))) (get_end m q i) None)

-- where nothing ended, all is left
pub all_left : (m : ChainsValue) (h : ℕ) → ((q : VersionKey) → has_ended m h q ≡ false) → facts_of m ≡ pruned_facts (facts_of m) h
all_left m h none =
    same_facts (facts_of m) (pruned_facts (facts_of m) h)
    (λ q. get_row m q ∙ sym (pruned_row m h q ∙ ap (λ b. cond (not b) (row_of (stored_version m q)) None) (none q)))
    (λ q. get_end m q ∙ sym (pruned_end m h q ∙ ap (λ b. cond (not b) (died_of (stored_version m q)) None) (none q)))

-- ---- one row is swept

module _ (m n : ChainsValue) (row : RowKey) (h : ℕ) (is : IsSwept m n row h) where
  pub swept_same : pruned_facts (facts_of n) h ≡ pruned_facts (facts_of m) h
  swept_same =
      same_facts (pruned_facts (facts_of n) h) (pruned_facts (facts_of m) h)
      (λ q. pruned_row n h q ∙ left row_of refl q ∙ sym (pruned_row m h q))
      (λ q. pruned_end n h q ∙ left died_of refl q ∙ sym (pruned_end m h q))
    where
      by : {Y : Type 0} (read : Option VersionValue → Option Y) → read None ≡ None → (x : Option VersionValue) (t a : Bool) → at_most h (died_of x) ≡ a
          → cond (not (at_most h (died_of (cond (t && a) None x)))) (read (cond (t && a) None x)) None ≡ cond (not a) (read x) None
      by read none x true true e = none
      by read none x true false e = ap (λ b. cond (not b) (read x) None) e
      by read none x false a e = ap (λ b. cond (not b) (read x) None) e

      left : {Y : Type 0} (read : Option VersionValue → Option Y) → read None ≡ None → (q : VersionKey) → cond (not (has_ended n h q)) (read (stored_version n q)) None ≡ cond (not (has_ended m h q)) (read (stored_version m q)) None
      left read none q = ap (λ x. cond (not (at_most h (died_of x))) (read x) None) (is q) ∙ by read none (stored_version m q) (eq_by_cmp row_key_cmp (row_key_of q) row) (has_ended m h q) refl

  -- what did not end stays so
  pub still_none : (q : VersionKey) → has_ended m h q ≡ false → has_ended n h q ≡ false
  still_none q none = ap (λ x. at_most h (died_of x)) (is q) ∙ by (eq_by_cmp row_key_cmp (row_key_of q) row)
    where
      by : (t : Bool) → at_most h (died_of (cond (t && has_ended m h q) None (stored_version m q))) ≡ false
      by true = ap (λ b. at_most h (died_of (cond b None (stored_version m q)))) none ∙ none
      by false = none

  -- nothing of the row that is left ended
  pub none_left : NoneEnded n h row
  none_left born =
      ap (λ x. at_most h (died_of x)) (is q)
      ∙ ap (λ b. at_most h (died_of (cond (b && has_ended m h q) None (stored_version m q)))) (tied_self row_key_total row_key_same row row refl)
      ∙ by (has_ended m h q) refl
    where
      q : VersionKey
      q = version_of row born

      by : (a : Bool) → has_ended m h q ≡ a → at_most h (died_of (cond a None (stored_version m q))) ≡ false
      by true e = refl
      by false e = e

  swept_known : AllKnown m → AllKnown n
  swept_known known q w e = by (eq_by_cmp row_key_cmp (row_key_of q) row && has_ended m h q) (sym (is q) ∙ e)
    where
      by : (b : Bool) → cond b None (stored_version m q) ≡ Some w → is_known w ≡ true
      by true f = cc
      by false f = known q w f

-- a row of which nothing is stored
pub absent_swept : (m : ChainsValue) (row : RowKey) (h : ℕ) → finmap.get m row ≡ None → IsSwept m m row h
absent_swept m row h none q = by (eq_by_cmp row_key_cmp (row_key_of q) row) refl
  where
    same : (b : Bool) (x : Option VersionValue) → x ≡ None → x ≡ cond b None x
    same true x e = e
    same false x e = refl

    by : (t : Bool) → eq_by_cmp row_key_cmp (row_key_of q) row ≡ t → stored_version m q ≡ cond (t && has_ended m h q) None (stored_version m q)
    by true e = same (has_ended m h q) (stored_version m q) (ap (λ k. option_and_then (λ c. finmap.get c q.born) (finmap.get m k)) (row_is (row_key_of q) row e) ∙ ap (option_and_then (λ c. finmap.get c q.born)) none)
    by false e = refl

-- what did not end stays in the place of the row's chain, or nothing where nothing is left
changed_swept : (m n : ChainsValue) (row : RowKey) (h : ℕ) (c : ChainValue) (w : Option ChainValue) → Some c ≡ finmap.get m row → IsChanged m n row w
    → ((born : ℕ) → option_and_then (λ d. finmap.get d born) w ≡ finmap.get (chain_until c h) born) → IsSwept m n row h
changed_swept m n row h c w has is left q =
    ap (option_and_then (λ d. finmap.get d q.born)) (is (row_key_of q))
    ∙ by (eq_by_cmp row_key_cmp (row_key_of q) row) refl
  where
    turned : (b : Bool) (x : Option VersionValue) → cond (not b) x None ≡ cond b None x
    turned true x = refl
    turned false x = refl

    here : eq_by_cmp row_key_cmp (row_key_of q) row ≡ true → finmap.get c q.born ≡ stored_version m q
    here e = ap (option_and_then (λ d. finmap.get d q.born)) (has ∙ ap (finmap.get m) (sym (row_is (row_key_of q) row e)))

    by : (t : Bool) → eq_by_cmp row_key_cmp (row_key_of q) row ≡ t
        → option_and_then (λ d. finmap.get d q.born) (cond t w (finmap.get m (row_key_of q))) ≡ cond (t && has_ended m h q) None (stored_version m q)
    by true e =
        left q.born
        ∙ get-retain nat_cmp_total finmap.nat_cmp-IsAntisymmetric c (λ born. not (at_most h (died_of (finmap.get c born)))) q.born
        ∙ ap (λ x. cond (not (at_most h (died_of x))) x None) (here e)
        ∙ turned (has_ended m h q) (stored_version m q)
    by false e = refl

-- ---- by a list of rows

-- each row of a list is passed
abbrev pub ArePassedRows : ChainsValue → ℕ → List RowKey → Type 0
ArePassedRows m h rows = (row : RowKey) → is_among rows row ≡ true → NoneEnded m h row

pub none_listed : (m : ChainsValue) (h : ℕ) → ArePassedRows m h []
none_listed m h row e = cc

module _ (m n : ChainsValue) (row : RowKey) (h : ℕ) (is : IsSwept m n row h) where
  -- what ended is still of one of the rows
  pub swept_listed : (rows : List RowKey) → HasEnded m h rows → HasEnded n h rows
  swept_listed rows listed q e = by (has_ended m h q) refl
    where
      by : (b : Bool) → has_ended m h q ≡ b → is_among rows (row_key_of q) ≡ true
      by true f = listed q f
      by false f = absurd (true≢false (sym e ∙ still_none m n row h is q f))

  pub swept_more : (rows more : List RowKey) → more ≡ rows ++ row ∷ [] → ArePassedRows m h rows → ArePassedRows n h more
  swept_more rows more is_more passed k e = by (is_among rows k) refl (eq_by_cmp row_key_cmp k row) refl (sym (ap (λ l. is_among l k) is_more ∙ list_any-append (eq_by_cmp row_key_cmp k) rows (row ∷ [])) ∙ e)
    where
      by : (a : Bool) → is_among rows k ≡ a → (b : Bool) → eq_by_cmp row_key_cmp k row ≡ b → (a || (b || false)) ≡ true → NoneEnded n h k
      by true f b g _ = λ born. still_none m n row h is (version_of k born) (passed k f born)
      by false f true g _ = subst (λ (r : RowKey). NoneEnded n h r) (sym (row_is k row g)) (none_left m n row h is)
      by false f false g e = cc

-- where all that ended is of rows that were passed, nothing ended
pub listed_left : (m : ChainsValue) (h : ℕ) (rows passed : List RowKey) → passed ≡ rows → HasEnded m h rows → ArePassedRows m h passed → (q : VersionKey) → has_ended m h q ≡ false
listed_left m h rows passed all listed done q = by (has_ended m h q) refl
  where
    by : (b : Bool) → has_ended m h q ≡ b → b ≡ false
    by true e = sym e ∙ done (row_key_of q) (ap (λ l. is_among l (row_key_of q)) all ∙ listed q e) q.born
    by false e = refl

-- ---- by the slots

module _ (m : Slots RowKey ChainValue) (own : AreOwn row_key_cmp m) where
  -- where each key's slot was passed, nothing ended
  pub ended_nowhere : (h : ℕ) → ((k : RowKey) (s : ℕ) → finmap.get (slots_of row_key_cmp m) k ≡ Some s → NoneEnded (seen m) h k) → (q : VersionKey) → has_ended (seen m) h q ≡ false
  ended_nowhere h done q = by (finmap.get (slots_of row_key_cmp m) (row_key_of q)) refl
    where
      by : (o : Option ℕ) → finmap.get (slots_of row_key_cmp m) (row_key_of q) ≡ o → has_ended (seen m) h q ≡ false
      by None e = ap (λ o. at_most h (died_of (option_and_then (λ c. finmap.get c q.born) o))) (unmapped _ _ (own.keys (row_key_of q)) e)
      by (Some s) e = done (row_key_of q) s e q.born

  module _ (row : RowKey) (h : ℕ) (c : ChainValue) (has : Some c ≡ finmap.get (seen m) row) (n : Slots RowKey ChainValue) (d : ChainValue) (put : IsSome (finmap.get (seen m) row) → IsWritten row_key_cmp m row d n) (is : d ≡ chain_until c h) where
    written : IsWritten row_key_cmp m row d n
    written = put (is_there _ c has)

    written_changed : IsChanged (seen m) (seen n) row (Some d)
    written_changed = get_updated m n row (Some d) written.map

    pub written_swept : IsSwept (seen m) (seen n) row h
    written_swept = changed_swept (seen m) (seen n) row h c (Some d) has written_changed (λ born. ap (λ x. finmap.get x born) is)

    pub written_stored : (d ≡ finmap.empty → ⊥) → AreStored (seen m) → AreStored (seen n)
    written_stored some stored = record {
      filled = filled_changed (seen m) (seen n) row (Some d) written_changed (some_filled d (filled_by d some)) stored;
      known = swept_known (seen m) (seen n) row h written_swept stored.known;
    }

    pub written_fewer : HasFewerSlots m n
    written_fewer k s at = ap (λ x. finmap.get (finmap.from_entries {R = row_key_cmp} x) k) (sym written.slots) ∙ at

    pub written_own : AreOwn row_key_cmp n
    written_own = record {
      keys = λ k. ap (λ x. is_some (finmap.get (finmap.from_entries {R = row_key_cmp} x) k)) written.slots ∙ own.keys k ∙ there k (eq_by_cmp row_key_cmp k row) refl ∙ sym (ap is_some (written_changed k));
      own = λ a b s at has. own.own a b s (written_fewer a s at) (written_fewer b s has);
    }
      where
        there : (k : RowKey) (t : Bool) → eq_by_cmp row_key_cmp k row ≡ t → is_some (finmap.get (seen m) k) ≡ is_some (cond t (Some d) (finmap.get (seen m) k))
        there k true e = ap (λ x. is_some (finmap.get (seen m) x)) (row_is k row e) ∙ ap is_some (sym has)
        there k false e = refl

    -- an empty chain goes
    module _ (r : Slots RowKey ChainValue) (map : Updates n r row None) (slots : slots_of row_key_cmp r ≡ finmap.remove (slots_of row_key_cmp n) row) (none : d ≡ finmap.empty) where
      gone_changed : IsChanged (seen m) (seen r) row None
      gone_changed q = get_updated n r row None map q ∙ ap (cond (eq_by_cmp row_key_cmp q row) None) (written_changed q) ∙ twice (eq_by_cmp row_key_cmp q row) (finmap.get (seen m) q)
        where
          twice : (b : Bool) (z : Option ChainValue) → cond b None (cond b (Some d) z) ≡ cond b None z
          twice true z = refl
          twice false z = refl

      pub gone_swept : IsSwept (seen m) (seen r) row h
      gone_swept = changed_swept (seen m) (seen r) row h c None has gone_changed (λ born. sym (ap (λ x. finmap.get x born) (sym is ∙ none) ∙ finmap.get-empty nat_cmp born))

      pub gone_stored : AreStored (seen m) → AreStored (seen r)
      gone_stored stored = record {
        filled = filled_changed (seen m) (seen r) row None gone_changed none_filled stored;
        known = swept_known (seen m) (seen r) row h gone_swept stored.known;
      }

      slot_left : (k : RowKey) → finmap.get (slots_of row_key_cmp r) k ≡ cond (eq_by_cmp row_key_cmp k row) None (finmap.get (slots_of row_key_cmp n) k)
      slot_left k = ap (λ x. finmap.get x k) slots ∙ finmap.get-remove row_key_total (slots_of row_key_cmp n) row k

      pub gone_fewer : HasFewerSlots m r
      gone_fewer k s at = written_fewer k s (still (eq_by_cmp row_key_cmp k row) (finmap.get (slots_of row_key_cmp n) k) (sym (slot_left k) ∙ at))
        where
          still : (b : Bool) (o : Option ℕ) → cond b None o ≡ Some s → o ≡ Some s
          still true o e = cc
          still false o e = e

      pub gone_own : AreOwn row_key_cmp r
      gone_own = record {
        keys = λ k. ap is_some (slot_left k) ∙ both k (eq_by_cmp row_key_cmp k row) ∙ sym (ap is_some (get_updated n r row None map k));
        own = λ a b s at has. own.own a b s (gone_fewer a s at) (gone_fewer b s has);
      }
        where
          both : (k : RowKey) (t : Bool) → is_some (cond t None (finmap.get (slots_of row_key_cmp n) k)) ≡ is_some (cond t None (finmap.get (seen n) k))
          both k true = refl
          both k false = written_own.keys k

-- ---- one slot after the other

-- the rows whose slots are below this one have nothing that ended
abbrev pub ArePassed : Slots RowKey ChainValue → ℕ → ℕ → Type 0
ArePassed m h slot = (k : RowKey) (s : ℕ) → finmap.get (slots_of row_key_cmp m) k ≡ Some s → s < slot → NoneEnded (seen m) h k

module _ (m : Slots RowKey ChainValue) (h slot : ℕ) (passed : ArePassed m h slot) where
  pub free_passed : IsFree row_key_cmp m slot → ArePassed m h (slot + 1)
  free_passed free k s at low = by (cases_lt s slot)
    where
      by : (s < slot) ⊎ (slot ≤ s) → NoneEnded (seen m) h k
      by (inl less) = passed k s at less
      by (inr more) = let same : s ≡ slot = omega arith in absurd (free k (at ∙ ap Some same))

  pub swept_passed : AreOwn row_key_cmp m → (n : Slots RowKey ChainValue) (row : RowKey) → finmap.get (slots_of row_key_cmp m) row ≡ Some slot → IsSwept (seen m) (seen n) row h → HasFewerSlots m n → ArePassed n h (slot + 1)
  swept_passed own n row here swept fewer k s at low = by (cases_lt s slot)
    where
      by : (s < slot) ⊎ (slot ≤ s) → NoneEnded (seen n) h k
      by (inl less) = λ born. still_none (seen m) (seen n) row h swept (version_of k born) (passed k s (fewer k s at) less born)
      by (inr more) = let same : s ≡ slot = omega arith in subst (λ (r : RowKey). NoneEnded (seen n) h r) (own.own row k slot here (fewer k s at ∙ ap Some same)) (none_left (seen m) (seen n) row h swept)
