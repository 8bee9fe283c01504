-- The writes of an entry are put in one after the other, and each is compared with what was known before.
use Rattle.std.proofs.Common.{◌≡◌, refl, sym, ap, ◌∙◌, append_assoc, append-nil, arith, ℕ, Bool, true, false, cond, ◌||◌, ◌==◌, ◌+◌, ◌-◌, ◌<◌, T, Option, Some, None, Result, Ok, Err, IfErr, List, [], ◌∷◌, ◌++◌, map, take, drop, length, get_or, is_lt}
use Rattle.std.proofs.lemmas.Bool.{OnTrue_at}
use Rattle.std.proofs.lemmas.List.{take-append-drop, drop_more, take_more, map-append, length-drop, nil_from_length}
use Rattle.std.proofs.lemmas.List.Folds.{list_any-append}
use Rattle.std.specs.Bool.{OnTrue, OnFalse}
use Rattle.std.specs.List.{list_any}
use Rattle.std.specs.Result.{IsErrAnd}
use Rattle.std.specs.Ordering.{eq_by_cmp, ordering_reverse, is_eq}
use Rattle.std.specs.FinMap as finmap
use Rattle.std.specs.FinMap.{find, is_sorted}
use Rattle.std.specs.FinMap.Entries.{below_all}
use Rattle.hk_types.specs.Values.{RowValue, same_row}
use Rattle.hk_types.specs.declared.version_key.VersionKey.{VersionKey}
use Rattle.hk_types.specs.declared.faults.Refusal.{Refusal}
use Rattle.hk_types.specs.declared.faults.Refusal.TheVariants.{Conflict, Memory}
use Rattle.hk_log.specs.Items.{EntryValue}
use Rattle.hk_log.specs.declared.item.Item.TheVariants.{Commit}
use Rattle.hk_model.specs.History.Facts.{rows_of, ends_of}
use Rattle.hk_model.specs.History.Rows.{version_key_cmp}
use Rattle.hk_model.specs.Replica.Maps.{or_else, union, maps_conflict}
use Rattle.hk_model.proofs.Replica.Maps.{version_key_total, find-append}
use Rattle.hk_model.proofs.Replica.Visible.{T_both, less}
use Rattle.hk_facts.specs.declared.fact.Fact.{Fact}
use Rattle.hk_facts.specs.declared.fact.Fact.TheVariants.{Row, End}
use Rattle.hk_chains.specs.Facts.{FactsValue, with_added, with_fact_at, conflicts_with_entry}
use Rattle.hk_chains.proofs.StoredFacts.{tied, key_tied}
use Rattle.hk_chains.proofs.ChangedChains.{get-added}
use Rattle.hk_store.proofs.RolledBack.{union_push}

-- ---- what holds where a test passes, or fails

pub on_true_to : {P Q : Type 0} (b : Bool) → (P → Q) → OnTrue b P → OnTrue b Q
on_true_to true f p = f p
on_true_to false f p = tt

on_false_to : {P Q : Type 0} (b : Bool) → (P → Q) → OnFalse b P → OnFalse b Q
on_false_to true f p = tt
on_false_to false f p = f p

pub itself : (b : Bool) → OnTrue b (b ≡ true)
itself true = refl
itself false = tt

pub through : (P : Type 0) (a b : Bool) → OnTrue b (a ≡ true) → OnTrue a P → OnTrue b P
through P a true is p = OnTrue_at is p
through P a false is p = tt

either : {P : Type 0} (b : Bool) → OnTrue b P → OnFalse b P → P
either true p q = p
either false p q = q

-- ---- what rises has no key twice

module _ {X : Type 0} where
  before_it : (k : VersionKey) (xs ys : List (VersionKey × X)) (e : VersionKey × X) → T (below_all version_key_cmp k (xs ++ e ∷ ys)) → T (is_lt (version_key_cmp k e.0))
  before_it k [] ys e h = (T_both (is_lt (version_key_cmp k e.0)) (below_all version_key_cmp k ys) h).0
  before_it k (x ∷ xs) ys e h = before_it k xs ys e (T_both (is_lt (version_key_cmp k x.0)) (below_all version_key_cmp k (xs ++ e ∷ ys)) h).1

  pub none_before : (xs ys : List (VersionKey × X)) (e : VersionKey × X) → T (is_sorted version_key_cmp (xs ++ e ∷ ys)) → find version_key_cmp e.0 xs ≡ None
  none_before [] ys e s = refl
  none_before (x ∷ xs) ys e s =
      let both = T_both (below_all version_key_cmp x.0 (xs ++ e ∷ ys)) (is_sorted version_key_cmp (xs ++ e ∷ ys)) s in
      let apart : eq_by_cmp version_key_cmp e.0 x.0 ≡ false = ap is_eq (version_key_total.antisymm e.0 x.0 ∙ ap ordering_reverse (less (version_key_cmp x.0 e.0) (before_it x.0 xs ys e both.0))) in
      ap (λ b. cond b (Some x.1) (find version_key_cmp e.0 xs)) apart ∙ none_before xs ys e both.1

-- ---- a list by what was walked

pub walked : {A : Type 0} (xs : List A) (i : ℕ) (x : A) → x ≡ get_or xs i x → i < length xs → xs ≡ take i xs ++ x ∷ drop (i + 1) xs
walked xs i x is below = sym (take-append-drop i xs) ∙ ap (λ l. take i xs ++ l) (drop_more xs i x below ∙ ap (λ y. y ∷ drop (i + 1) xs) (sym is))

pub walked_more : {A : Type 0} (xs : List A) (i : ℕ) (x : A) → x ≡ get_or xs i x → i < length xs → take (i + 1) xs ≡ take i xs ++ x ∷ []
walked_more xs i x is below = take_more xs i x below ∙ ap (λ y. take i xs ++ y ∷ []) (sym is)

-- one more was moved out of a list
pub one_moved : {A : Type 0} {whole : List A} (xs ys : List A) (x : A) → whole ≡ xs ++ x ∷ ys → whole ≡ (xs ++ x ∷ []) ++ ys
one_moved xs ys x is = is ∙ sym (append_assoc xs (x ∷ []) ys)

-- where none is left, all were moved out
pub all_moved : {A : Type 0} {whole : List A} (xs ys : List A) → whole ≡ xs ++ ys → ys ≡ drop 1 ys → xs ≡ whole
all_moved xs ys is none =
    let n : length ys ≡ length ys - 1 = ap length none ∙ length-drop 1 ys in
    sym (is ∙ ap (λ zs. xs ++ zs) (nil_from_length ys (omega (arith, n))) ∙ append-nil xs)

-- ---- a test that passes nowhere before

module _ {A : Type 0} (p : A → Bool) where
  pub any_one_more : (xs : List A) (x : A) → list_any p xs ≡ false → p x ≡ false → list_any p (xs ++ x ∷ []) ≡ false
  any_one_more xs x e f = list_any-append p xs (x ∷ []) ∙ (λ i. e i || (f i || false))

  pub any_found : (whole xs ys : List A) (x : A) → whole ≡ xs ++ x ∷ ys → list_any p xs ≡ false → p x ≡ true → list_any p whole ≡ true
  any_found whole xs ys x is e f = ap (list_any p) is ∙ list_any-append p xs (x ∷ ys) ∙ (λ i. e i || (f i || list_any p ys))

-- ---- a map that only keys of a list were put in

module _ {A X : Type 0} (f : A → VersionKey × X) (m : finmap.FinMap version_key_cmp X) where
  abbrev pub IsOutside : finmap.FinMap version_key_cmp X → List A → Type 0
  IsOutside now xs = (q : VersionKey) → find version_key_cmp q (map f xs) ≡ None → finmap.get now q ≡ finmap.get m q

  pub outside_none : IsOutside m []
  outside_none q none = refl

  -- where the key of the next one is new, it is compared with what was there before
  pub outside_at : (now : finmap.FinMap version_key_cmp X) (whole xs ys : List A) (x : A) → whole ≡ xs ++ x ∷ ys → T (is_sorted version_key_cmp (map f whole)) → IsOutside now xs → finmap.get now (f x).0 ≡ finmap.get m (f x).0
  outside_at now whole xs ys x is s same = same (f x).0 (none_before (map f xs) (map f ys) (f x) (rw (← map-append f xs (x ∷ ys), ← is) s))

  pub outside_more : (now new : finmap.FinMap version_key_cmp X) (xs : List A) (x : A) (b : Bool) → OnTrue b (new ≡ with_added now (f x).0 (f x).1) → OnFalse b (new ≡ now) → IsOutside now xs → IsOutside new (xs ++ x ∷ [])
  outside_more now new xs x b put kept same q none =
      let parts = apart (tied q (f x).0) (find version_key_cmp q (map f xs)) (
      sym (find-append version_key_cmp q (map f xs) (f x ∷ []) ∙ ap (λ t. or_else (find version_key_cmp q (map f xs)) (cond t (Some (f x).1) None)) (key_tied q (f x).0))
      ∙ ap (find version_key_cmp q) (sym (map-append f xs (x ∷ []))) ∙ none
      ) in
      stays b put kept parts.0 ∙ same q parts.1
    where
      apart : (t : Bool) (o : Option X) → or_else o (cond t (Some (f x).1) None) ≡ None → (t ≡ false) × (o ≡ None)
      apart true None e = cc
      apart true (Some y) e = cc
      apart false None e = (refl, refl)
      apart false (Some y) e = cc

      stays : (b : Bool) → OnTrue b (new ≡ with_added now (f x).0 (f x).1) → OnFalse b (new ≡ now) → tied q (f x).0 ≡ false → finmap.get new q ≡ finmap.get now q
      stays true put kept t = ap (λ n. finmap.get n q) put ∙ get-added now (f x).0 (f x).1 q ∙ ap (λ b. cond b (or_else (finmap.get now (f x).0) (Some (f x).1)) (finmap.get now q)) t
      stays false put kept t = ap (λ n. finmap.get n q) kept

  -- where it was put in, all so far are in
  pub put_more : (now new : finmap.FinMap version_key_cmp X) (xs : List A) (x : A) → new ≡ with_added now (f x).0 (f x).1 → now ≡ union m (finmap.from_entries (map f xs)) → new ≡ union m (finmap.from_entries (map f (xs ++ x ∷ [])))
  put_more now new xs x put all = put ∙ ap (λ n. with_added n (f x).0 (f x).1) all ∙ union_push m (map f xs) (f x).0 (f x).1 ∙ ap (λ es. union m (finmap.from_entries es)) (sym (map-append f xs (x ∷ [])))

  -- all so far are in, where memory lasted
  pub all_put : (now new : finmap.FinMap version_key_cmp X) (xs : List A) (x : A) (room b : Bool) → OnTrue b (room ≡ true) → OnTrue b (new ≡ with_added now (f x).0 (f x).1) → OnTrue room (now ≡ union m (finmap.from_entries (map f xs))) → OnTrue b (new ≡ union m (finmap.from_entries (map f (xs ++ x ∷ []))))
  all_put now new xs x room true lasted put all = put_more now new xs x put (OnTrue_at lasted all)
  all_put now new xs x room false lasted put all = tt

-- ---- what a fact that is put in leaves

module _ (now new : FactsValue) (v : VersionKey) (room b : Bool) where
  pub lasted : (fact : Fact) → OnTrue b ((room ≡ true) × (new ≡ with_fact_at now v fact)) → OnTrue b (room ≡ true)
  lasted fact = on_true_to b (λ p. p.0)

  pub row_put : (row : RowValue) → OnTrue b ((room ≡ true) × (new ≡ with_fact_at now v (Row row))) → OnTrue b (new.rows ≡ with_added now.rows v row)
  row_put row = on_true_to b (λ p. ap (λ (f : FactsValue). f.rows) p.1)

  pub end_put : (died : ℕ) → OnTrue b ((room ≡ true) × (new ≡ with_fact_at now v (End died))) → OnTrue b (new.ends ≡ with_added now.ends v died)
  end_put died = on_true_to b (λ p. ap (λ (f : FactsValue). f.ends) p.1)

  pub rows_kept : OnFalse b (new ≡ now) → OnFalse b (new.rows ≡ now.rows)
  rows_kept = on_false_to b (ap (λ (f : FactsValue). f.rows))

  pub ends_kept : OnFalse b (new ≡ now) → OnFalse b (new.ends ≡ now.ends)
  ends_kept = on_false_to b (ap (λ (f : FactsValue). f.ends))

  pub ends_stay : (row : RowValue) → OnTrue b ((room ≡ true) × (new ≡ with_fact_at now v (Row row))) → OnFalse b (new ≡ now) → new.ends ≡ now.ends
  ends_stay row put kept = either b (on_true_to b (λ p. ap (λ (f : FactsValue). f.ends) p.1) put) (ends_kept kept)

  pub rows_stay : (died : ℕ) → OnTrue b ((room ≡ true) × (new ≡ with_fact_at now v (End died))) → OnFalse b (new ≡ now) → new.rows ≡ now.rows
  rows_stay died put kept = either b (on_true_to b (λ p. ap (λ (f : FactsValue). f.rows) p.1) put) (rows_kept kept)

-- ---- a refusal that is passed on

pub passed_on : {A : Type 0} (r : Result A Refusal) (w : Refusal) (P : Type 0) → IsErrAnd r (λ e. e ≡ w) → w ≡ Conflict → P → IfErr r (λ why. (why ≡ Conflict) × P)
passed_on (Ok a) w P is conflict p = tt
passed_on (Err why) w P is conflict p = (is ∙ conflict, p)

pub refused_so : {A : Type 0} (r : Result A Refusal) (w : Refusal) (b : Bool) → IsErrAnd r (λ e. e ≡ w) → w ≡ cond b Conflict Memory → IfErr r (λ why. why ≡ cond b Conflict Memory)
refused_so (Ok a) w b is so = tt
refused_so (Err why) w b is so = is ∙ so

pub a_conflict : (w : Refusal) (b : Bool) → w ≡ Conflict → b ≡ true → w ≡ cond b Conflict Memory
a_conflict w b is e = is ∙ ap (λ x. cond x Conflict Memory) (sym e)

pub no_memory : (b : Bool) → b ≡ false → Memory ≡ cond b Conflict Memory
no_memory b e = ap (λ x. cond x Conflict Memory) (sym e)

-- ---- an entry by its rows and its ends

module _ (f : FactsValue) (e : EntryValue) where
  pub agree_both : false ≡ maps_conflict same_row f.rows (rows_of (Commit e ∷ [])) → false ≡ maps_conflict (λ a b. a == b) f.ends (ends_of (Commit e ∷ [])) → conflicts_with_entry f e ≡ false
  agree_both rows ends = λ i. sym rows i || sym ends i

  pub rows_differ : true ≡ maps_conflict same_row f.rows (rows_of (Commit e ∷ [])) → conflicts_with_entry f e ≡ true
  rows_differ rows = λ i. sym rows i || maps_conflict (λ a b. a == b) f.ends (ends_of (Commit e ∷ []))

  pub ends_differ : false ≡ maps_conflict same_row f.rows (rows_of (Commit e ∷ [])) → true ≡ maps_conflict (λ a b. a == b) f.ends (ends_of (Commit e ∷ [])) → conflicts_with_entry f e ≡ true
  ends_differ rows ends = λ i. sym rows i || sym ends i
