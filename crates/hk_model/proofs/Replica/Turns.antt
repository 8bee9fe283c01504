-- What a content shows of a key changes at the turns of its chain alone.
use Rattle.std.proofs.Common.{◌≡◌, ◌↔◌, refl, sym, ap, ◌∙◌, subst, ℕ, Bool, true, false, Option, Some, None, List, [], ◌∷◌, ◌++◌, map, inl, inr, ◌==◌, ◌&&◌, ◌≤◌, arith, nat_le, le-leb, leb-true, eqb-true, true≢false}
use Rattle.std.proofs.lemmas.Bool.{and_parts, cases_Bool, cases_lt}
use Rattle.std.proofs.lemmas.Bool.Decides.{nat_tests}
use Rattle.std.specs.List.{list_all, list_any, filter_map}
use Rattle.std.specs.Ordering.{eq_by_cmp, is_eq}
use Rattle.std.specs.Cmp.{tied_itself, Equal-is}
use Rattle.std.specs.Cmp.Lexicographic.{pointwise}
use Rattle.std.specs.FinMap as finmap
use Rattle.hk_model.proofs.Replica.Maps.{row_key_total, row_key_same}
use Rattle.hk_model.proofs.Replica.Members.{In, In-left, In-right, map-In}
use Rattle.hk_model.proofs.History.Writes.{In_filter, filter_In}
use Rattle.hk_model.proofs.Replica.Listed.{filter_map-In}
use Rattle.hk_model.proofs.Replica.Joins.{same_row_if}
use Rattle.hk_model.proofs.Replica.Shown.{any_In, get-key}
use Rattle.hk_model.proofs.Replica.Visible.{any_where}
use Rattle.hk_model.proofs.Replica.Chains.{alike_shows}
use Rattle.hk_types.specs.Values.{RowValue, same_row}
use Rattle.hk_types.specs.declared.version_key.VersionKey.{VersionKey}
use Rattle.hk_model.specs.History.Rows.{RowKey, row_key_cmp, row_key_of}
use Rattle.hk_model.specs.Replica.Content.{Content, readable, at_most}
use Rattle.hk_model.specs.Replica.Answers.{visible}
use Rattle.hk_model.specs.Replica.Past.{KeyKeeps, chain, turns, times_to_see, same_shown, KeepsPast, key_keeps}
use Rattle.hk_model.specs.Laws.{KeyDecided, PastDecided}

-- ---- tests of lists and rows

pub all_passed : {X : Type 0} (p : X → Bool) (xs : List X) → list_all p xs ≡ true → (x : X) → In x xs → p x ≡ true
all_passed p [] e x h = elim h [ ]
all_passed p (y ∷ ys) e x (inl s) = ap p s ∙ (and_parts (p y) (list_all p ys) e).0
all_passed p (y ∷ ys) e x (inr h) = all_passed p ys (and_parts (p y) (list_all p ys) e).1 x h

pub all_from : {X : Type 0} (p : X → Bool) (xs : List X) → ((x : X) → In x xs → p x ≡ true) → list_all p xs ≡ true
all_from p [] f = refl
all_from p (y ∷ ys) f = λ i. f y (inl refl) i && all_from p ys (λ x h. f x (inr h)) i

pub tied_keys : (k l : RowKey) → eq_by_cmp row_key_cmp k l ≡ true → k ≡ l
tied_keys k l e = row_key_same k l ((Equal-is (row_key_cmp k l)).0 e)

pub tied_key : (k l : RowKey) → k ≡ l → eq_by_cmp row_key_cmp k l ≡ true
tied_key k l e = subst (λ x. eq_by_cmp row_key_cmp k x ≡ true) e (ap is_eq (tied_itself row_key_total k))

same_bodies : (xs ys : List ℕ) → pointwise (λ x y. x == y) xs ys ≡ true → xs ≡ ys
same_bodies [] [] e = refl
same_bodies [] (y ∷ ys) e = absurd (true≢false (sym e))
same_bodies (x ∷ xs) [] e = absurd (true≢false (sym e))
same_bodies (x ∷ xs) (y ∷ ys) e =
    let p = and_parts (x == y) (pointwise (λ a b. a == b) xs ys) e in
    λ i. eqb-true x y p.0 i ∷ same_bodies xs ys p.1 i

pub same_rows_are : (a b : RowValue) → same_row a b ≡ true → a ≡ b
same_rows_are a b e =
    let p = and_parts (a.tag == b.tag) (pointwise (λ x y. x == y) a.body b.body) e in
    λ i. record { tag = eqb-true a.tag b.tag p.0 i; body = same_bodies a.body b.body p.1 i }

pub shown_same : (x y : Option RowValue) → same_shown x y ≡ true → x ≡ y
shown_same None None e = refl
shown_same None (Some s) e = absurd (true≢false (sym e))
shown_same (Some r) None e = absurd (true≢false (sym e))
shown_same (Some r) (Some s) e = ap Some (same_rows_are r s e)

pub same_itself : (x : Option RowValue) → same_shown x x ≡ true
same_itself None = refl
same_itself (Some r) = same_row_if r r refl

-- ---- the greatest of some times up to a time

pub record IsGreatest (t : ℕ) (xs : List ℕ) (s : ℕ) : Type 0 where
  pub one : In s xs
  pub upto : s ≤ t
  pub greatest : (x : ℕ) → In x xs → x ≤ t → x ≤ s

greatest_with : (t : ℕ) (x : ℕ) (xs : List ℕ) → x ≤ t → (s : ℕ) × IsGreatest t (x ∷ xs) s
greatest_with t x [] l = (x, record { one = inl refl; upto = l; greatest = λ y i m. elim i [ inl e ↦ omega arith | inr z ↦ elim z [ ] ] })
greatest_with t x (y ∷ ys) l =
    elim (cases_lt t y) [
      | inl late ↦
          let g = greatest_with t x ys l in
          let more : (z : ℕ) → In z (x ∷ y ∷ ys) → z ≤ t → z ≤ g.0 = λ z i m. elim i [
            | inl e ↦ g.1.greatest z (inl e) m
            | inr j ↦ elim j [ inl e ↦ absurd (omega arith) | inr k ↦ g.1.greatest z (inr k) m ]
          ] in
          (g.0, record { one = elim g.1.one [ inl e ↦ inl e | inr j ↦ inr (inr j) ]; upto = g.1.upto; greatest = more })
      | inr soon ↦
          let g = greatest_with t y ys soon in
          let up = g.1.upto in
          elim (cases_lt g.0 x) [
            | inl less ↦ (
              x,
              record {
                one = inl refl;
                upto = l;
                greatest = λ z i m. elim i [ inl e ↦ omega arith | inr j ↦ let b = g.1.greatest z j m in omega arith ];
              },
            )
            | inr more ↦ (
              g.0,
              record {
                one = inr g.1.one;
                upto = up;
                greatest = λ z i m. elim i [ inl e ↦ omega arith | inr j ↦ g.1.greatest z j m ];
              },
            )
          ]
    ]

greatest_of : (t h : ℕ) (xs : List ℕ) → In h xs → h ≤ t → (s : ℕ) × IsGreatest t xs s
greatest_of t h [] i l = elim i [ ]
greatest_of t h (x ∷ xs) (inl e) l = greatest_with t x xs (subst (λ y. y ≤ t) e l)
greatest_of t h (x ∷ xs) (inr i) l =
    let g = greatest_of t h xs i l in
    elim (cases_lt t x) [
      | inl late ↦ (g.0, record { one = inr g.1.one; upto = g.1.upto; greatest = λ y j m. elim j [ inl e ↦ absurd (omega arith) | inr k ↦ g.1.greatest y k m ] })
      | inr soon ↦ greatest_with t x xs soon
    ]

-- ---- turns

born_turn : (c : Content) (k : RowKey) (v : VersionKey) (r : RowValue) → k ≡ row_key_of v → finmap.get c.rows v ≡ Some r → In v.born (turns c k)
born_turn c k v r of e =
    In-left v.born (map (λ v. v.born) (chain c k)) (filter_map (finmap.get c.ends) (chain c k))
    (map-In (λ (v : VersionKey). v.born) v (chain c k) (filter_In (λ v. eq_by_cmp row_key_cmp k (row_key_of v)) v (finmap.keys c.rows) (get-key c.rows v r e) (tied_key k (row_key_of v) of)))

end_turn : (c : Content) (k : RowKey) (v : VersionKey) (r : RowValue) (d : ℕ) → k ≡ row_key_of v → finmap.get c.rows v ≡ Some r → finmap.get c.ends v ≡ Some d → In d (turns c k)
end_turn c k v r d of e f =
    In-right d (map (λ v. v.born) (chain c k)) (filter_map (finmap.get c.ends) (chain c k))
    (filter_map-In (finmap.get c.ends) v d (chain c k) (filter_In (λ v. eq_by_cmp row_key_cmp k (row_key_of v)) v (finmap.keys c.rows) (get-key c.rows v r e) (tied_key k (row_key_of v) of)) f)

-- with no turn between two times, a key shows the same row at both
still : (c : Content) (k : RowKey) (s t : ℕ) → s ≤ t → ((x : ℕ) → In x (turns c k) → x ≤ t → x ≤ s) → finmap.get (visible c t) k ≡ finmap.get (visible c s) k
still c k s t l none = alike_shows c s c t k (record {
  rows_to = λ v r of e m. (e, omega arith);
  rows_from = λ v r of e m. (e, none v.born (born_turn c k v r of e) m);
  ends = λ v r of e m. ended (finmap.get c.ends v) (λ d f. none d (end_turn c k v r d of e f));
})
  where
    ended : (x : Option ℕ) → ((d : ℕ) → x ≡ Some d → d ≤ t → d ≤ s) → at_most t x ≡ at_most s x
    ended x up = grind (arith, nat_tests)

module _ (c d : Content) (k : RowKey) where
  within : ℕ → Bool
  within t = nat_le d.horizon t && nat_le t (readable c)

  seen : (t x : ℕ) → In x (d.horizon ∷ turns c k ++ turns d k) → d.horizon ≤ x → x ≤ readable c → In x (times_to_see c d k)
  seen t x i a b = filter_In (λ t. nat_le d.horizon t && nat_le t (readable c)) x (d.horizon ∷ turns c k ++ turns d k) i (λ j. le-leb d.horizon x a j && le-leb x (readable c) b j)

  pub key_kept : key_keeps c d k ≡ true → KeyKeeps c d k
  key_kept e t old soon =
      let near : d.horizon ≤ readable c = omega arith in
      let g = greatest_of t d.horizon (times_to_see c d k) (seen t d.horizon (inl refl) (omega arith) near) old in
      let up = g.1.upto in
      let first : d.horizon ≤ g.0 = g.1.greatest d.horizon (seen t d.horizon (inl refl) (omega arith) near) old in
      let none : (x : ℕ) → In x (turns c k ++ turns d k) → x ≤ t → x ≤ g.0 = λ x i m. elim (cases_lt x d.horizon) [
        | inl before ↦ omega arith
        | inr after ↦ g.1.greatest x (seen t x (inr i) after (omega arith)) m
      ] in
      still d k g.0 t up (λ x i m. none x (In-right x (turns c k) (turns d k) i) m)
      ∙ shown_same _ _ (all_passed (λ t. same_shown (finmap.get (visible d t) k) (finmap.get (visible c t) k)) (times_to_see c d k) e g.0 g.1.one)
      ∙ sym (still c k g.0 t up (λ x i m. none x (In-left x (turns c k) (turns d k) i) m))

  pub kept_key : KeyKeeps c d k → key_keeps c d k ≡ true
  kept_key keeps = all_from (λ t. same_shown (finmap.get (visible d t) k) (finmap.get (visible c t) k)) (times_to_see c d k) (λ t i.
      let f = In_filter (λ t. nat_le d.horizon t && nat_le t (readable c)) t (d.horizon ∷ turns c k ++ turns d k) i in
      let b = and_parts (nat_le d.horizon t) (nat_le t (readable c)) f.1 in
      subst (λ x. same_shown x (finmap.get (visible c t) k) ≡ true) (sym (keeps t (leb-true d.horizon t b.0) (leb-true t (readable c) b.1))) (same_itself (finmap.get (visible c t) k)))

pub key_decided : KeyDecided
key_decided c d k = (key_kept c d k, kept_key c d k)

-- ---- touched keys

-- whether a key is one of these
abbrev is_touched : List RowKey → RowKey → Bool
is_touched touched k = list_any (eq_by_cmp row_key_cmp k) touched

-- up to c's readable mark the two have the same rows of a key, and the same ends of the versions that have one
record IsUntouched (c d : Content) (k : RowKey) : Type 0 where
  rows : (v : VersionKey) → k ≡ row_key_of v → v.born ≤ readable c → finmap.get d.rows v ≡ finmap.get c.rows v
  ends : (v : VersionKey) (r : RowValue) → k ≡ row_key_of v → finmap.get c.rows v ≡ Some r → (t : ℕ) → t ≤ readable c → at_most t (finmap.get d.ends v) ≡ at_most t (finmap.get c.ends v)

-- an untouched key keeps its past
untouched_keeps : (c d : Content) (k : RowKey) → IsUntouched c d k → KeyKeeps c d k
untouched_keeps c d k same t old soon = alike_shows c t d t k (record {
  rows_to = λ v r of e l. (same.rows v of (omega arith) ∙ e, l);
  rows_from = λ v r of e l. (sym (same.rows v of (omega arith)) ∙ e, l);
  ends = λ v r of e l. same.ends v r of e t soon;
})

touched_decided : (c d : Content) (touched : List RowKey) → ((k : RowKey) → is_touched touched k ≡ false → IsUntouched c d k) → (list_all (key_keeps c d) touched ≡ true) ↔ KeepsPast c d
touched_decided c d touched others = (
  λ e k. elim (cases_Bool (is_touched touched k)) [
    | inl y ↦
        let w = any_where (eq_by_cmp row_key_cmp k) touched y in
        let same = tied_keys k w.0 w.2 in
        subst (KeyKeeps c d) (sym same) (key_kept c d w.0 (all_passed (key_keeps c d) touched e w.0 w.1))
    | inr n ↦ untouched_keeps c d k (others k n)
  ],
  λ keeps. all_from (key_keeps c d) touched (λ k i. kept_key c d k (keeps k)),
)

-- the keys of all rows
keys_of_both : Content → Content → List RowKey
keys_of_both c d = map row_key_of (finmap.keys c.rows ++ finmap.keys d.rows)

no_row : {X : Type 0} (x : Option X) → ((r : X) → x ≡ Some r → ⊥) → x ≡ None
no_row None f = refl
no_row (Some r) f = absurd (f r refl)

pub past_decided : PastDecided
past_decided c d = touched_decided c d (map row_key_of (finmap.keys c.rows ++ finmap.keys d.rows)) (λ k n.
    let there : (v : VersionKey) → k ≡ row_key_of v → In v (finmap.keys c.rows ++ finmap.keys d.rows) → ⊥ = λ v of i.
    true≢false (sym (any_In (eq_by_cmp row_key_cmp k) (row_key_of v) (map row_key_of (finmap.keys c.rows ++ finmap.keys d.rows)) (map-In row_key_of v (finmap.keys c.rows ++ finmap.keys d.rows) i) (tied_key k (row_key_of v) of)) ∙ n) in
    let old : (v : VersionKey) → k ≡ row_key_of v → finmap.get c.rows v ≡ None = λ v of. no_row (finmap.get c.rows v) (λ r e. there v of (In-left v (finmap.keys c.rows) (finmap.keys d.rows) (get-key c.rows v r e))) in
    let new : (v : VersionKey) → k ≡ row_key_of v → finmap.get d.rows v ≡ None = λ v of. no_row (finmap.get d.rows v) (λ r e. there v of (In-right v (finmap.keys c.rows) (finmap.keys d.rows) (get-key d.rows v r e))) in
    record {
      rows = λ v of l. new v of ∙ sym (old v of);
      ends = λ v r of e t l. absurd (there v of (In-left v (finmap.keys c.rows) (finmap.keys d.rows) (get-key c.rows v r e)));
    })
