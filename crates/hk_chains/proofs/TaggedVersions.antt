-- The versions that are listed by tag.
use Rattle.std.proofs.Common.{◌≡◌, refl, sym, ap, ◌∙◌, ℕ, Bool, true, false, cond, ◌&&◌, ◌||◌, ◌==◌, Option, Some, None, List, [], ◌∷◌, ◌++◌, filter, nat_le, eqb-true, arith}
use Rattle.std.proofs.lemmas.Bool.Decides.{nat_tests}
use Rattle.std.proofs.lemmas.List.Folds.{list_any-append}
use Rattle.std.specs.Option.{is_some}
use Rattle.std.specs.List.{list_any}
use Rattle.std.specs.Ordering.{eq_by_cmp}
use Rattle.std.specs.FinMap as finmap
use Rattle.std.specs.FinSet as set
use Rattle.hk_types.specs.Values.{RowValue}
use Rattle.hk_types.specs.declared.version_key.VersionKey.{VersionKey}
use Rattle.hk_model.specs.History.Rows.{version_key_cmp}
use Rattle.hk_model.proofs.Replica.Maps.{version_key_total, version_key_same}
use Rattle.hk_index.specs.Listed.{Lists, with_keys}
use Rattle.hk_index.specs.Tags.{TagKeysValue, ListsKeys, is_one_of, is_listed}
use Rattle.hk_index.proofs.StoredKeys.{any-filter}
use Rattle.hk_index.proofs.TagsListed.{one_of_push}
use Rattle.hk_chains.specs.Facts.{FactsValue}
use Rattle.hk_chains.specs.Indexed.{AllListed, AreTaggedOf, has_fact, has_tag, is_tagged, keys_of, with_tag}
use Rattle.hk_chains.proofs.WalkedRows.{keys_have}

abbrev is_in : List VersionKey → VersionKey → Bool
is_in vs v = list_any (eq_by_cmp version_key_cmp v) vs

one_number : (a b : ℕ) → (nat_le a b && nat_le b a) ≡ (a == b)
one_number a b = grind (arith, nat_tests)

tagged_known : (f : FactsValue) (tag : ℕ) (v : VersionKey) → has_tag f tag v ≡ true → has_fact f v ≡ true
tagged_known f tag v e = by (finmap.get f.rows v) e
  where
    by : (o : Option RowValue) → is_tagged tag o ≡ true → (is_some o || is_some (finmap.get f.ends v)) ≡ true
    by None e = cc
    by (Some r) e = refl

module _ (f : FactsValue) (table tag : ℕ) where
  -- the versions of one key more
  pub more_tagged : (found new versions : List VersionKey) (done more : List ℕ) (key : ℕ) → more ≡ done ++ key ∷ [] → new ≡ found ++ filter (has_tag f tag) versions → Lists versions (with_keys (keys_of f) table key key)
      → AreTaggedOf f table tag done found → AreTaggedOf f table tag more new
  more_tagged found new versions done more key keys is lists before v =
      ap (λ l. is_in l v) is
      ∙ list_any-append (eq_by_cmp version_key_cmp v) found (filter (has_tag f tag) versions)
      ∙ (λ i. before v i || (any-filter (has_tag f tag) versions v ∙ ap (λ b. b && has_tag f tag v) listed) i)
      ∙ regroup (is_one_of done v.key) (has_tag f tag v) (v.table == table) (has_fact f v) (key == v.key) (tagged_known f tag v)
      ∙ sym (ap (λ b. b && (has_tag f tag v && v.table == table)) (ap (λ l. is_one_of l v.key) keys ∙ one_of_push done key v.key))
    where
      between : VersionKey → Bool
      between w = (w.table == table) && (nat_le key w.key && nat_le w.key key)

      listed : is_in versions v ≡ (has_fact f v && ((v.table == table) && (key == v.key)))
      listed =
          sym (set.contains-from_list version_key_total versions v) ∙ ap (λ s. set.contains s v) lists.same
          ∙ set.contains-retain (keys_of f) between v (λ x t. ap between (sym (version_key_same v x t)))
          ∙ (λ i. keys_have f v i && ((v.table == table) && one_number key v.key i))

      regroup : (d t b k e : Bool) → (t ≡ true → k ≡ true) → ((d && (t && b)) || ((k && (b && e)) && t)) ≡ ((d || e) && (t && b))
      regroup true true true k e if = refl
      regroup true true false true e if = refl
      regroup true true false false e if = refl
      regroup true false b k e if = off (k && (b && e))
        where
          off : (a : Bool) → (false || (a && false)) ≡ false
          off true = refl
          off false = refl
      regroup false true b true e if = flip b e
        where
          flip : (b e : Bool) → ((b && e) && true) ≡ (e && b)
          flip true true = refl
          flip true false = refl
          flip false true = refl
          flip false false = refl
      regroup false true b false e if = cc (if refl)
      regroup false false b k e if = off (k && (b && e)) e
        where
          off : (a e : Bool) → (false || (a && false)) ≡ (e && false)
          off true true = refl
          off true false = refl
          off false true = refl
          off false false = refl

  -- those of all keys that are listed are all versions with the tag
  pub all_tagged : (m : TagKeysValue) (keys : List ℕ) (found : List VersionKey) → AllListed f m → ListsKeys m table tag keys → AreTaggedOf f table tag keys found → set.from_list found ≡ with_tag f.rows table tag
  all_tagged m keys found all lists are = set.same_set version_key_total version_key_same (set.from_list found) (with_tag f.rows table tag) (λ v.
      set.contains-from_list version_key_total found v ∙ are v
      ∙ by v (finmap.get f.rows v) refl
      ∙ ap is_some (sym (finmap.get-retain_keys f.rows wanted v (λ x t. ap wanted (sym (version_key_same v x t)))))
      ∙ finmap.contains_key-keys (finmap.retain_keys f.rows wanted) v
      ∙ sym (set.contains-from_list version_key_total (finmap.keys (finmap.retain_keys f.rows wanted)) v))
    where
      wanted : VersionKey → Bool
      wanted v = is_tagged tag (finmap.get f.rows v) && (v.table == table)

      there : (v : VersionKey) (r : RowValue) (a b : Bool) → finmap.get f.rows v ≡ Some r → (r.tag == tag) ≡ a → (v.table == table) ≡ b → (is_one_of keys v.key && (a && b)) ≡ is_some (cond (a && b) (Some r) None)
      there v r true true at tagged of =
          ap (λ b. b && true) (lists.same v.key ∙ (λ i. is_listed m (sym (eqb-true v.table table of) i) (sym (eqb-true r.tag tag tagged) i) v.key) ∙ all v r at)
      there v r true false at tagged of = no (is_one_of keys v.key)
        where
          no : (b : Bool) → (b && false) ≡ false
          no true = refl
          no false = refl
      there v r false b at tagged of = no (is_one_of keys v.key)
        where
          no : (b : Bool) → (b && false) ≡ false
          no true = refl
          no false = refl

      by : (v : VersionKey) (o : Option RowValue) → finmap.get f.rows v ≡ o → (is_one_of keys v.key && (is_tagged tag o && v.table == table)) ≡ is_some (cond (is_tagged tag o && (v.table == table)) o None)
      by v None at = no (is_one_of keys v.key)
        where
          no : (b : Bool) → (b && false) ≡ false
          no true = refl
          no false = refl
      by v (Some r) at = there v r (r.tag == tag) (v.table == table) at refl refl
