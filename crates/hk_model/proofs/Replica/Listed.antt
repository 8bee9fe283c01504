-- The rows of the versions that show, of a rising list of versions, are the visible rows in their order.
use Rattle.std.proofs.Common.{◌≡◌, refl, sym, ap, ◌∙◌, subst, ℕ, Bool, true, false, cond, Option, Some, None, List, [], ◌∷◌, map, filter, filter_map, ◌⊎◌, inl, inr, T, ◌&&◌, Ordering, nat_cmp}
use Rattle.std.specs.declared.cmp.Ordering.TheVariants.{Less, Equal, Greater}
use Rattle.std.specs.List.{cons_option}
use Rattle.std.specs.Ordering.{is_lt, ordering_then, eq_by_cmp, is_eq}
use Rattle.std.specs.Option.{option_map}
use Rattle.std.specs.Cmp.{IsTotalOrder, tied_itself, Equal-is}
use Rattle.std.specs.List.{AllByRecursion}
use Rattle.std.specs.List.Sorted.{IsStrictlySortedBy}
use Rattle.std.specs.FinMap as finmap
use Rattle.std.specs.FinSet as set
use Rattle.std.specs.FinMap.Entries.{find, is_sorted, below_all, same_entries}
use Rattle.hk_types.specs.Values.{RowValue}
use Rattle.hk_types.specs.declared.version_key.VersionKey.{VersionKey}
use Rattle.hk_model.specs.History.Rows.{RowKey, version_key_cmp, row_key_cmp, row_key_of}
use Rattle.hk_model.specs.Replica.Content.{Content}
use Rattle.hk_model.specs.Replica.Answers.{shows, visible}
use Rattle.hk_model.proofs.Replica.Maps.{version_key_total, row_key_total, row_key_same, version_key_same}
use Rattle.hk_model.proofs.Replica.Members.{In, In-find}
use Rattle.hk_model.proofs.Replica.Same.{same_option}
use Rattle.hk_model.proofs.History.Writes.{In_filter, filter_In}
use Rattle.hk_model.proofs.Replica.Visible.{T_both, find_sorted, get_entry, any_where}
use Rattle.hk_model.proofs.Replica.Shown.{shows_parts, one_shows, visible_row, visible_version, any_In}

-- each is below all that follow it
abbrev pub Rises : {K : Type 0} → (K → K → Ordering) → List K → Type 0
Rises R [] = Unit {0}
Rises {K} R (x ∷ xs) = ((y : K) → In y xs → R x y ≡ Less) × Rises R xs

T_and : (a b : Bool) → T a → T b → T (a && b)
T_and true b p q = q
T_and false b p q = absurd p

T_less : (o : Ordering) → o ≡ Less → T (is_lt o)
T_less o e = subst (λ r. T (is_lt r)) (sym e) tt

module _ {K X : Type 0} (R : K → K → Ordering) where
  below_each : (x : K) (es : List (K × X)) → ((y : K) → In y (map (λ e. e.0) es) → R x y ≡ Less) → T (below_all R x es)
  below_each x [] each = tt
  below_each x (e ∷ es) each = T_and _ _ (T_less (R x e.0) (each e.0 (inl refl))) (below_each x es (λ y i. each y (inr i)))

  pub sorted_from : (es : List (K × X)) → Rises R (map (λ e. e.0) es) → T (is_sorted R es)
  sorted_from [] r = tt
  sorted_from (e ∷ es) r = T_and _ _ (below_each e.0 es r.0) (sorted_from es r.1)

  below_filter : (p : K × X → Bool) (x : K) (es : List (K × X)) → T (below_all R x es) → T (below_all R x (filter p es))
  below_filter p x [] b = tt
  below_filter p x (e ∷ es) b =
      let both = T_both (is_lt (R x e.0)) (below_all R x es) b in
      elim (p e) as (λ q. T (below_all R x (cond q (e ∷ filter p es) (filter p es)))) [ true ↦ T_and _ _ both.0 (below_filter p x es both.1) | false ↦ below_filter p x es both.1 ]

  pub sorted_filter : (p : K × X → Bool) (es : List (K × X)) → T (is_sorted R es) → T (is_sorted R (filter p es))
  sorted_filter p [] s = tt
  sorted_filter p (e ∷ es) s =
      let both = T_both (below_all R e.0 es) (is_sorted R es) s in
      elim (p e) as (λ q. T (is_sorted R (cond q (e ∷ filter p es) (filter p es)))) [ true ↦ T_and _ _ (below_filter p e.0 es both.0) (sorted_filter p es both.1) | false ↦ sorted_filter p es both.1 ]

  -- two sorted lists with the same members are one
  pub same_sorted : (o : IsTotalOrder R) (same : finmap.IsAntisymmetric R) (es fs : List (K × X)) → T (is_sorted R es) → T (is_sorted R fs) → ((k : K) (x : X) → In (k, x) es → In (k, x) fs) → ((k : K) (x : X) → In (k, x) fs → In (k, x) es) → es ≡ fs
  same_sorted o same es fs s r there back =
      same_entries R o same es fs s r (λ q. same_option (find R q es) (find R q fs)
      (λ x e. find_sorted R o q x fs r (there q x (In-find R o same q x es e)))
      (λ x e. find_sorted R o q x es s (back q x (In-find R o same q x fs e))))

-- the row of a version with its key, where the version shows
abbrev pub shown_of : Content → ℕ → VersionKey → Option (RowKey × RowValue)
shown_of c t v = cond (shows c t v) (option_map (λ r. (row_key_of v, r)) (finmap.get c.rows v)) None

-- a version and the row that it shows
pub record IsShown (c : Content) (t : ℕ) (k : RowKey) (r : RowValue) (v : VersionKey) : Type 0 where
  pub key : k ≡ row_key_of v
  pub row : finmap.get c.rows v ≡ Some r
  pub shown : shows c t v ≡ true

pair_is : (x y : RowKey × RowValue) → Some x ≡ Some y → x ≡ y
pair_is x y e = cc

shown_is : (c : Content) (t : ℕ) (v : VersionKey) (k : RowKey) (r : RowValue) → shown_of c t v ≡ Some (k, r) → IsShown c t k r v
shown_is c t v k r e = by (shows c t v) (finmap.get c.rows v) refl refl e
  where
    by : (b : Bool) (x : Option RowValue) → shows c t v ≡ b → finmap.get c.rows v ≡ x → cond b (option_map {U = RowKey × RowValue} (λ s. (row_key_of v, s)) x) None ≡ Some (k, r) → IsShown c t k r v
    by true (Some s) h g f =
        let e = pair_is (row_key_of v, s) (k, r) f in
        record { key = sym (ap (λ (z : RowKey × RowValue). z.0) e); row = g ∙ ap (λ (z : RowKey × RowValue). Some z.1) e; shown = h }
    by true None h g f = absurd cc
    by false x h g f = absurd cc

-- an element that stands among those that a function gives was given for some element
cons_In : {Y : Type 0} (o : Option Y) (y : Y) (ys : List Y) → In y (cons_option o ys) → (o ≡ Some y) ⊎ In y ys
cons_In None y ys i = inr i
cons_In (Some z) y ys (inl e) = inl (ap Some (sym e))
cons_In (Some z) y ys (inr i) = inr i

In_cons : {Y : Type 0} (o : Option Y) (y : Y) (ys : List Y) → In y ys → In y (cons_option o ys)
In_cons None y ys i = i
In_cons (Some z) y ys i = inr i

cons_here : {Y : Type 0} (o : Option Y) (y : Y) (ys : List Y) → o ≡ Some y → In y (cons_option o ys)
cons_here None y ys e = absurd cc
cons_here (Some z) y ys e = let f : y ≡ z = cc in inl f

pub In-filter_map : {X Y : Type 0} (f : X → Option Y) (y : Y) (xs : List X) → In y (filter_map f xs) → (x : X) × In x xs × (f x ≡ Some y)
In-filter_map f y [] i = elim i [ ]
In-filter_map f y (x ∷ xs) i =
    elim (cons_In (f x) y (filter_map f xs) i) [
      | inl e ↦ (x, inl refl, e)
      | inr j ↦ let rest = In-filter_map f y xs j in (rest.0, inr rest.1, rest.2)
    ]

pub filter_map-In : {X Y : Type 0} (f : X → Option Y) (x : X) (y : Y) (xs : List X) → In x xs → f x ≡ Some y → In y (filter_map f xs)
filter_map-In f x y [] i e = elim i [ ]
filter_map-In f x y (z ∷ xs) (inl s) e = cons_here (f z) y (filter_map f xs) (ap f (sym s) ∙ e)
filter_map-In f x y (z ∷ xs) (inr i) e = In_cons (f z) y (filter_map f xs) (filter_map-In f x y xs i e)

pub map_In_pair : {K X : Type 0} (k : K) (es : List (K × X)) → In k (map (λ e. e.0) es) → (x : X) × In (k, x) es
map_In_pair k [] i = elim i [ ]
map_In_pair k (e ∷ es) (inl s) = (e.1, inl (λ i. (s i, e.1)))
map_In_pair k (e ∷ es) (inr i) = let rest = map_In_pair k es i in (rest.0, inr rest.1)

-- ---- rising keys

first_two : (a b c : Ordering) → ordering_then a (ordering_then b c) ≡ Less → (ordering_then a b ≡ Less) ⊎ (ordering_then a b ≡ Equal)
first_two Less b c e = inl refl
first_two Equal Less c e = inl refl
first_two Equal Equal c e = inr refl
first_two Equal Greater c e = absurd cc
first_two Greater b c e = absurd cc

module _ (c : Content) (t : ℕ) where
  keys_rise_one : (v : VersionKey) (r : RowValue) (vs : List VersionKey) → ((w : VersionKey) → In w vs → version_key_cmp v w ≡ Less) → finmap.get c.rows v ≡ Some r → shows c t v ≡ true → (k : RowKey) → In k (map (λ e. e.0) (filter_map (shown_of c t) vs)) → row_key_cmp (row_key_of v) k ≡ Less
  keys_rise_one v r vs above here shown k i =
      let p = map_In_pair k (filter_map (shown_of c t) vs) i in
      let w = In-filter_map (shown_of c t) (k, p.0) vs p.1 in
      let s = shown_is c t w.0 k p.0 w.2 in
      let less = above w.0 w.1 in
      elim (first_two (nat_cmp v.table w.0.table) (nat_cmp v.key w.0.key) (nat_cmp v.born w.0.born) less) [
        | inl l ↦ subst (λ q. row_key_cmp (row_key_of v) q ≡ Less) (sym s.key) l
        | inr tied ↦
            let same : row_key_of v ≡ row_key_of w.0 = row_key_same (row_key_of v) (row_key_of w.0) tied in
            let one : v ≡ w.0 = one_shows c t v w.0 r p.0 (shows_parts c t v shown) (shows_parts c t w.0 s.shown) here s.row same in
            let equal : version_key_cmp v w.0 ≡ Equal = subst (λ z. version_key_cmp v z ≡ Equal) one (tied_itself version_key_total v) in
            absurd (let x : Less ≡ Equal = sym less ∙ equal in cc)
      ]

  pub keys_rise : (vs : List VersionKey) → Rises version_key_cmp vs → Rises row_key_cmp (map (λ e. e.0) (filter_map (shown_of c t) vs))
  keys_rise [] r = tt
  keys_rise (v ∷ vs) r = by (keys_rise vs r.1) (shown_of c t v) refl
    where
      by : Rises row_key_cmp (map (λ e. e.0) (filter_map (shown_of c t) vs)) → (o : Option (RowKey × RowValue)) → shown_of c t v ≡ o → Rises row_key_cmp (map (λ e. e.0) (cons_option o (filter_map (shown_of c t) vs)))
      by rest None e = rest
      by rest (Some x) e =
          let s = shown_is c t v x.0 x.1 e in
          (λ k i. subst (λ q. row_key_cmp q k ≡ Less) (sym s.key) (keys_rise_one v x.1 vs r.0 s.row s.shown k i), rest)

  -- what a rising list of versions shows, where it has every version that shows and passes
  pub listed : (test : RowKey → RowValue → Bool) (vs : List VersionKey) → Rises version_key_cmp vs → ((v : VersionKey) (r : RowValue) → finmap.get c.rows v ≡ Some r → shows c t v ≡ true → test (row_key_of v) r ≡ true → In v vs) → ((v : VersionKey) (r : RowValue) → In v vs → finmap.get c.rows v ≡ Some r → shows c t v ≡ true → test (row_key_of v) r ≡ true) →
      filter_map (shown_of c t) vs ≡ filter (λ e. test e.0 e.1) (finmap.entries (visible c t))
  listed test vs rise complete sound =
      same_sorted row_key_cmp row_key_total row_key_same (filter_map (shown_of c t) vs) (filter (λ e. test e.0 e.1) (finmap.entries (visible c t)))
      (sorted_from row_key_cmp (filter_map (shown_of c t) vs) (keys_rise vs rise))
      (sorted_filter row_key_cmp (λ e. test e.0 e.1) (finmap.entries (visible c t)) (finmap.entries_sorted (visible c t)))
      (λ k r i.
      let w = In-filter_map (shown_of c t) (k, r) vs i in
      let s = shown_is c t w.0 k r w.2 in
      let seen : finmap.get (visible c t) k ≡ Some r = ap (finmap.get (visible c t)) s.key ∙ visible_row c t w.0 r s.row s.shown in
      filter_In (λ e. test e.0 e.1) (k, r) (finmap.entries (visible c t)) (In-find row_key_cmp row_key_total row_key_same k r (finmap.entries (visible c t)) (sym (finmap.get-entries (visible c t) k) ∙ seen))
      (subst (λ q. test q r ≡ true) (sym s.key) (sound w.0 r w.1 s.row s.shown)))
      (λ k r i.
      let f = In_filter (λ e. test e.0 e.1) (k, r) (finmap.entries (visible c t)) i in
      let l = visible_version c t k r (get_entry row_key_cmp row_key_total (visible c t) k r f.0) in
      let there = complete l.version r l.row l.shown (subst (λ q. test q r ≡ true) l.of_key f.1) in
      filter_map-In (shown_of c t) l.version (k, r) vs there
      (ap (λ b. cond b (option_map {U = RowKey × RowValue} (λ s. (row_key_of l.version, s)) (finmap.get c.rows l.version)) None) l.shown
      ∙ ap (option_map {U = RowKey × RowValue} (λ s. (row_key_of l.version, s))) l.row
      ∙ ap (λ (q : RowKey). Some (q, r)) (sym l.of_key)))

-- ---- lists of an index

all_In : {X : Type 0} (P : X → Type 0) (xs : List X) → AllByRecursion P xs → (x : X) → In x xs → P x
all_In P [] all x i = elim i [ ]
all_In P (y ∷ ys) all x (inl e) = subst P (sym e) all.0
all_In P (y ∷ ys) all x (inr i) = all_In P ys all.1 x i

-- a strictly sorted list rises
pub rises_from : {K : Type 0} (R : K → K → Ordering) (ks : List K) → IsStrictlySortedBy R ks → Rises R ks
unfolding IsStrictlySortedBy
rises_from R [] s = tt
rises_from R (k ∷ ks) s = (all_In (λ y. R k y ≡ Less) ks s.0, rises_from R ks s.1)

-- what stands in a list is in its set, and the other way round
pub set_In : (vs : List VersionKey) (v : VersionKey) → In v vs → set.contains (set.from_list {R = version_key_cmp} vs) v ≡ true
set_In vs v i = set.contains-from_list version_key_total vs v ∙ any_In (eq_by_cmp version_key_cmp v) v vs i (ap is_eq (tied_itself version_key_total v))

pub In_set : (vs : List VersionKey) (v : VersionKey) → set.contains (set.from_list {R = version_key_cmp} vs) v ≡ true → In v vs
In_set vs v c =
    let w = any_where (eq_by_cmp version_key_cmp v) vs (sym (set.contains-from_list version_key_total vs v) ∙ c) in
    subst (λ z. In z vs) (sym (version_key_same v w.0 ((Equal-is (version_key_cmp v w.0)).0 w.2))) w.1
