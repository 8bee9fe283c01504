-- Two rising lists of versions, merged from their ends.
use Rattle.std.proofs.Common.{◌≡◌, refl, sym, ap, subst, ◌∙◌, ℕ, ◌+◌, ◌-◌, ◌<◌, Bool, true, false, cond, ◌&&◌, Option, Some, None, List, [], ◌∷◌, ◌++◌, take, length, inl, inr, T, arith, append_assoc, nat_lt}
use Rattle.std.proofs.lemmas.Bool.Decides.{nat_tests}
use Rattle.std.specs.declared.cmp.Ordering.{Ordering}
use Rattle.std.specs.declared.cmp.Ordering.TheVariants.{Less, Equal, Greater}
use Rattle.std.specs.Cmp.{Equal-is, tied_itself}
use Rattle.std.specs.FinMap.Entries.{find, is_sorted, below_all}
use Rattle.std.specs.List.{slice_get}
use Rattle.std.specs.Ordering.{eq_by_cmp, is_eq, is_lt, ordering_reverse}
use Rattle.std.proofs.lemmas.Option.{slice_get_within, get_or_from_slice_get, slice_get-get_or}
use Rattle.std.proofs.lemmas.List.{take_more, take_all, length-append, append-nil}
use Rattle.hk_types.specs.Values.{RowValue}
use Rattle.hk_types.specs.declared.version_key.VersionKey.{VersionKey}
use Rattle.hk_log.specs.Versions.{VersionValue, is_known}
use Rattle.hk_model.specs.Replica.Maps.{or_else}
use Rattle.hk_model.specs.History.Rows.{version_key_cmp}
use Rattle.hk_model.proofs.Replica.Maps.{version_key_total, version_key_same, find-append}
use Rattle.hk_model.proofs.Replica.Members.{In, In-left, In-right, In-append}
use Rattle.hk_model.proofs.Replica.Visible.{T_both}
use Rattle.hk_fragment.specs.Parts.{Known, follows, is_valid_row, is_valid_end, is_valid_fact, facts_fault}
use Rattle.hk_fragment.specs.Merging.{both_known, known_in_either, EndsBefore, ComparesLast, TakesGreatest}
use Rattle.hk_fragment.proofs.FragmentRules.{AllFollow, AreValidFacts, are_facts, parts_of}
use Rattle.hk_fragment.proofs.FoundVersions.{below_In}
use Rattle.hk_facts.proofs.StoredTrees.{and_T}

-- ---- the last of a list

pub last_is : (xs : List Known) (x : Known) → Some x ≡ slice_get xs (length xs - 1) → xs ≡ take (length xs - 1) xs ++ x ∷ []
last_is xs x e =
    let i = length xs - 1 in
    let within : i < length xs = slice_get_within xs i x (sym e) in
    let whole : length xs ≡ i + 1 = omega (arith, within) in
    sym (ap (λ (n : ℕ). take n xs) (sym whole) ∙ take_all (length xs) xs (omega arith)) ∙ take_more xs i x within ∙ ap (λ y. take i xs ++ y ∷ []) (get_or_from_slice_get xs i x x (sym e))

pub none_last : (xs : List Known) → None ≡ slice_get xs (length xs - 1) → xs ≡ []
none_last [] e = refl
none_last (x ∷ xs) e = absurd (values_conflict (e ∙ slice_get-get_or (x ∷ xs) (length (x ∷ xs) - 1) x (omega arith)))
  where
    values_conflict : {y : Known} → None ≡ Some y → ⊥
    values_conflict e = cc

pub compared : (own coming : List Known) (x y : Known) (o : Ordering) → o ≡ version_key_cmp x.0 y.0 → Some x ≡ slice_get own (length own - 1) → Some y ≡ slice_get coming (length coming - 1) → ComparesLast own coming (Some o)
compared own coming x y Less o e f = (take (length coming - 1) coming, y, last_is coming y f, inr (take (length own - 1) own, x, last_is own x e, sym o))
compared own coming x y Greater o e f =
    (take (length own - 1) own, x, last_is own x e, inr (take (length coming - 1) coming, y, last_is coming y f, version_key_total.antisymm y.0 x.0 ∙ ap ordering_reverse (sym o)))
compared own coming x y Equal o e f =
    let same = version_key_same x.0 y.0 (sym o) in (
      x.0,
      take (length own - 1) own,
      x.1,
      take (length coming - 1) coming,
      y.1,
      last_is own x e,
      last_is coming y f ∙ ap (λ v. take (length coming - 1) coming ++ (v, y.1) ∷ []) (sym same),
    )

-- ---- rising lists

abbrev pub Rising : List Known → Type 0
Rising [] = Unit {0}
Rising (e ∷ es) = ((f : Known) → In f es → version_key_cmp e.0 f.0 ≡ Less) × Rising es

pub rising : (es : List Known) → T (is_sorted version_key_cmp es) → Rising es
rising [] s = tt
rising (e ∷ es) s = let both = T_both (below_all version_key_cmp e.0 es) (is_sorted version_key_cmp es) s in (below_In e.0 es both.0, rising es both.1)

below_from : (v : VersionKey) (es : List Known) → ((f : Known) → In f es → version_key_cmp v f.0 ≡ Less) → T (below_all version_key_cmp v es)
below_from v [] b = tt
below_from v (e ∷ es) b = and_T (is_lt (version_key_cmp v e.0)) (below_all version_key_cmp v es) (subst (λ r. T (is_lt r)) (sym (b e (inl refl))) tt) (below_from v es (λ f i. b f (inr i)))

sorted : (es : List Known) → Rising es → T (is_sorted version_key_cmp es)
sorted [] r = tt
sorted (e ∷ es) r = and_T (below_all version_key_cmp e.0 es) (is_sorted version_key_cmp es) (below_from e.0 es r.0) (sorted es r.1)

abbrev Across : List Known → List Known → Type 0
Across xs ys = (x y : Known) → In x xs → In y ys → version_key_cmp x.0 y.0 ≡ Less

rising_split : (xs ys : List Known) → Rising (xs ++ ys) → Rising xs × Rising ys × Across xs ys
rising_split [] ys r = (tt, r, λ x y i j. elim i [ ])
rising_split (z ∷ xs) ys r =
    let rest = rising_split xs ys r.1 in (
      (λ f i. r.0 f (In-left f xs ys i), rest.0),
      rest.1,
      λ x y i j. elim i [ inl s ↦ ap (λ (w : Known). version_key_cmp w.0 y.0) s ∙ r.0 y (In-right y xs ys j) | inr k ↦ rest.2 x y k j ],
    )

rising_join : (xs ys : List Known) → Rising xs → Rising ys → Across xs ys → Rising (xs ++ ys)
rising_join [] ys r s a = s
rising_join (z ∷ xs) ys r s a = (
  λ f i. elim (In-append f xs ys i) [ inl j ↦ r.0 f j | inr j ↦ a z f (inl refl) j ],
  rising_join xs ys r.1 s (λ x y i j. a x y (inr i) j),
)

-- all of a rising list come before what its last comes before
ends_before : (xs : List Known) (v : VersionKey) → Rising xs → EndsBefore xs v → (f : Known) → In f xs → version_key_cmp f.0 v ≡ Less
ends_before xs v r (inl e) f i = elim (subst (In f) e i) [ ]
ends_before xs v r (inr h) f i =
    let split = rising_split h.0 (h.1 ∷ []) (subst Rising h.2 r) in
    elim (In-append f h.0 (h.1 ∷ []) (subst (In f) h.2 i)) [
      | inl j ↦ version_key_total.trans f.0 h.1.0 v (split.2 f h.1 j (inl refl)) h.3
      | inr j ↦ elim j [ inl s ↦ ap (λ (w : Known). version_key_cmp w.0 v) s ∙ h.3 | inr k ↦ elim k [ ] ]
    ]

-- ---- look-ups

not_less : (v w : VersionKey) → v ≡ w → version_key_cmp v w ≡ Less → ⊥
not_less v w s l = values_conflict (sym l ∙ ap (version_key_cmp v) (sym s) ∙ tied_itself version_key_total v)
  where
    values_conflict : ◌≡◌ {A = Ordering} Less Equal → ⊥
    values_conflict e = cc

pub none_equal : (v : VersionKey) (es : List Known) → ((f : Known) → In f es → f.0 ≡ v → ⊥) → find version_key_cmp v es ≡ None
none_equal v [] n = refl
none_equal v (e ∷ es) n = by (none_equal v es (λ f i. n f (inr i))) (eq_by_cmp version_key_cmp v e.0) refl
  where
    by : find version_key_cmp v es ≡ None → (b : Bool) → eq_by_cmp version_key_cmp v e.0 ≡ b → cond b (Some e.1) (find version_key_cmp v es) ≡ None
    by rest true t = absurd (n e (inl refl) (sym (version_key_same v e.0 ((Equal-is (version_key_cmp v e.0)).0 t))))
    by rest false t = rest

-- beside a version that rises with the list, the version is found; another is found as without it
found_mid : (v : VersionKey) (xs : List Known) (e : Known) (ys : List Known) → Rising (xs ++ e ∷ ys) → find version_key_cmp v (xs ++ e ∷ ys) ≡ cond (eq_by_cmp version_key_cmp v e.0) (Some e.1) (find version_key_cmp v (xs ++ ys))
found_mid v xs e ys r = find-append version_key_cmp v xs (e ∷ ys) ∙ by (eq_by_cmp version_key_cmp v e.0) refl
  where
    by : (b : Bool) → eq_by_cmp version_key_cmp v e.0 ≡ b → or_else (find version_key_cmp v xs) (cond b (Some e.1) (find version_key_cmp v ys)) ≡ cond b (Some e.1) (find version_key_cmp v (xs ++ ys))
    by true t =
        let same = version_key_same v e.0 ((Equal-is (version_key_cmp v e.0)).0 t) in
        let none = none_equal v xs (λ f i s. not_less f.0 e.0 (s ∙ same) ((rising_split xs (e ∷ ys) r).2 f e i (inl refl))) in
        ap (λ o. or_else o (Some e.1)) none
    by false t = sym (find-append version_key_cmp v xs ys)

-- a version that all before come before, and that comes before all after, is not found
none_between : (e : Known) (xs ys : List Known) → Rising (xs ++ e ∷ ys) → find version_key_cmp e.0 (xs ++ ys) ≡ None
none_between e xs ys r =
    let split = rising_split xs (e ∷ ys) r in
    none_equal e.0 (xs ++ ys) (λ f i s. elim (In-append f xs ys i) [
      | inl j ↦ not_less f.0 e.0 s (split.2 f e j (inl refl))
      | inr j ↦ not_less e.0 f.0 (sym s) (split.1.0 f j)
    ])

-- where a version stands in a rising list, and where it does not
module _ (v : VersionKey) (xs : List Known) (e : Known) (ys : List Known) (r : Rising (xs ++ e ∷ ys)) where
  here : eq_by_cmp version_key_cmp v e.0 ≡ true → find version_key_cmp v (xs ++ e ∷ ys) ≡ Some e.1
  here t = found_mid v xs e ys r ∙ ap (λ b. cond b (Some e.1) (find version_key_cmp v (xs ++ ys))) t

  elsewhere : eq_by_cmp version_key_cmp v e.0 ≡ false → find version_key_cmp v (xs ++ e ∷ ys) ≡ find version_key_cmp v (xs ++ ys)
  elsewhere t = found_mid v xs e ys r ∙ ap (λ b. cond b (Some e.1) (find version_key_cmp v (xs ++ ys))) t

  nowhere : eq_by_cmp version_key_cmp v e.0 ≡ true → find version_key_cmp v (xs ++ ys) ≡ None
  nowhere t = ap (λ w. find version_key_cmp w (xs ++ ys)) (version_key_same v e.0 ((Equal-is (version_key_cmp v e.0)).0 t)) ∙ none_between e xs ys r

-- ---- one more version merged

or_itself : {X : Type 0} (o : Option X) → or_else o o ≡ o
or_itself None = refl
or_itself (Some x) = refl

both_itself : (x : VersionValue) → both_known x x ≡ x
both_itself x = λ i. record { row = or_itself x.row i; died = or_itself x.died i }

either_itself : (o : Option VersionValue) → known_in_either o o ≡ o
either_itself None = refl
either_itself (Some x) = ap Some (both_itself x)

-- so far the versions of `out`, each greater than all that are left, are merged
pub record Halfway (own coming left waiting out : List Known) : Type 0 where
  pub own_rise : Rising (left ++ out)
  pub coming_rise : Rising (waiting ++ out)
  pub own_stand : AreValidFacts 0 0 (left ++ out)
  pub coming_stand : AreValidFacts 0 0 (waiting ++ out)
  pub found : (v : VersionKey) → known_in_either (find version_key_cmp v (left ++ out)) (find version_key_cmp v (waiting ++ out)) ≡ known_in_either (find version_key_cmp v own) (find version_key_cmp v coming)

shift : (xs : List Known) (e : Known) (ys : List Known) → (xs ++ e ∷ []) ++ ys ≡ xs ++ e ∷ ys
shift xs e ys = append_assoc xs (e ∷ []) ys

stand_mid : (xs : List Known) (e : Known) (ys : List Known) → is_valid_fact 0 0 e ≡ true → AreValidFacts 0 0 (xs ++ ys) → AreValidFacts 0 0 (xs ++ e ∷ ys)
stand_mid xs e ys s each v x i =
    elim (In-append (v, x) xs (e ∷ ys) i) [
      | inl j ↦ each v x (In-left (v, x) xs ys j)
      | inr j ↦ elim j [ inl t ↦ ap (is_valid_fact 0 0) t ∙ s | inr k ↦ each v x (In-right (v, x) xs ys k) ]
    ]

stand_less : (xs : List Known) (e : Known) (ys : List Known) → AreValidFacts 0 0 (xs ++ e ∷ ys) → AreValidFacts 0 0 (xs ++ ys)
stand_less xs e ys each v x i = elim (In-append (v, x) xs ys i) [ inl j ↦ each v x (In-left (v, x) xs (e ∷ ys) j) | inr j ↦ each v x (In-right (v, x) xs (e ∷ ys) (inr j)) ]

-- a version goes between the lists that it parts
rising_mid : (xs : List Known) (e : Known) (ys : List Known) → Rising (xs ++ ys) → ((f : Known) → In f xs → version_key_cmp f.0 e.0 ≡ Less) → ((f : Known) → In f ys → version_key_cmp e.0 f.0 ≡ Less) → Rising (xs ++ e ∷ ys)
rising_mid xs e ys r before after =
    let split = rising_split xs ys r in
    rising_join xs (e ∷ ys) split.0 (after, split.1) (λ x y i j. elim j [ inl s ↦ ap (λ (w : Known). version_key_cmp x.0 w.0) s ∙ before x i | inr k ↦ split.2 x y i k ])

-- only the version key tells where a version goes
renamed : (xs : List Known) (k : VersionKey) (x z : VersionValue) (ys : List Known) → Rising (xs ++ (k, x) ∷ ys) → Rising (xs ++ (k, z) ∷ ys)
renamed xs k x z ys r =
    let split = rising_split xs ((k, x) ∷ ys) r in
    rising_join xs ((k, z) ∷ ys) split.0 (split.1.0, split.1.1) (λ w y i j. elim j [ inl s ↦ ap (λ (u : Known). version_key_cmp w.0 u.0) s ∙ split.2 w (k, x) i (inl refl) | inr m ↦ split.2 w y i (inr m) ])

both_stand : (k : VersionKey) (x y : VersionValue) → is_valid_fact 0 0 (k, x) ≡ true → is_valid_fact 0 0 (k, y) ≡ true → is_valid_fact 0 0 (k, both_known x y) ≡ true
both_stand k x y s t =
    let p = parts_of 0 0 k x s in
    let q = parts_of 0 0 k y t in
    all_true (ltb_true 0 k.born p.born) (known x.row x.died y.row y.died p.known) (row x.row y.row p.row q.row) (died x.died y.died p.died q.died)
  where
    ltb_true : (a b : ℕ) → a < b → nat_lt a b ≡ true
    ltb_true a b l = grind (arith, nat_tests)

    all_true : {a b c d : Bool} → a ≡ true → b ≡ true → c ≡ true → d ≡ true → (a && b && c && d) ≡ true
    all_true a b c d = rw (a, b, c, d) refl

    row : (r o : Option RowValue) → is_valid_row 0 k.born r ≡ true → is_valid_row 0 k.born o ≡ true → is_valid_row 0 k.born (or_else r o) ≡ true
    row None o a b = b
    row (Some r) o a b = a

    died : (d o : Option ℕ) → is_valid_end 0 0 k.born d ≡ true → is_valid_end 0 0 k.born o ≡ true → is_valid_end 0 0 k.born (or_else d o) ≡ true
    died None o a b = b
    died (Some d) o a b = a

    known : (r : Option RowValue) (d : Option ℕ) (s : Option RowValue) (o : Option ℕ) → is_known (record { row = r; died = d }) ≡ true → is_known (record { row = or_else r s; died = or_else d o }) ≡ true
    known (Some r) d s o e = refl
    known None (Some d) None o e = refl
    known None (Some d) (Some r) o e = refl
    known None None s o e = absurd cc

faults_none : (before : Option VersionKey) (es : List Known) → Rising es → AllFollow before es → AreValidFacts 0 0 es → facts_fault 0 0 before es ≡ None
faults_none before [] r f s = refl
faults_none before (e ∷ es) r f s = rw (next before f, s e.0 e.1 (inl refl)) (faults_none (Some e.0) es r.1 (below_from e.0 es r.0) (λ v x i. s v x (inr i)))
  where
    next : (before : Option VersionKey) → AllFollow before (e ∷ es) → follows before e.0 ≡ true
    next None f = refl
    next (Some last) f = T_true (is_lt (version_key_cmp last e.0)) (T_both (is_lt (version_key_cmp last e.0)) (below_all version_key_cmp last es) f).0
      where
        T_true : (b : Bool) → T b → b ≡ true
        T_true true t = refl
        T_true false t = absurd t

module _ (own coming : List Known) where
  -- the first list's last is greater than all of the second
  off_own : (left waiting out : List Known) (e : Known) → Halfway own coming (left ++ e ∷ []) waiting out → EndsBefore waiting e.0 → Halfway own coming left waiting (e ∷ out)
  off_own left waiting out e h b =
      let rise = subst Rising (shift left e out) h.own_rise in
      let waits = rising_split waiting out h.coming_rise in
      let mid = rising_mid waiting e out h.coming_rise (ends_before waiting e.0 waits.0 b) (rising_split left (e ∷ out) rise).1.0 in
      let stand = subst (AreValidFacts 0 0) (shift left e out) h.own_stand in
      record {
        own_rise = rise;
        coming_rise = mid;
        own_stand = stand;
        coming_stand = stand_mid waiting e out (stand e.0 e.1 (In-right e left (e ∷ out) (inl refl))) h.coming_stand;
        found = λ v. by v rise mid (eq_by_cmp version_key_cmp v e.0) refl ∙ ap (λ l. known_in_either (find version_key_cmp v l) (find version_key_cmp v (waiting ++ out))) (sym (shift left e out)) ∙ h.found v;
      }
    where
      by : (v : VersionKey) → Rising (left ++ e ∷ out) → Rising (waiting ++ e ∷ out) → (b : Bool) → eq_by_cmp version_key_cmp v e.0 ≡ b
          → known_in_either (find version_key_cmp v (left ++ e ∷ out)) (find version_key_cmp v (waiting ++ e ∷ out)) ≡ known_in_either (find version_key_cmp v (left ++ e ∷ out)) (find version_key_cmp v (waiting ++ out))
      by v rise mid false t = ap (known_in_either (find version_key_cmp v (left ++ e ∷ out))) (elsewhere v waiting e out mid t)
      by v rise mid true t =
          ap (λ o. known_in_either o (find version_key_cmp v (waiting ++ e ∷ out))) (here v left e out rise t)
          ∙ ap (known_in_either (Some e.1)) (here v waiting e out mid t) ∙ either_itself (Some e.1)
          ∙ sym (ap (λ o. known_in_either o (find version_key_cmp v (waiting ++ out))) (here v left e out rise t) ∙ ap (known_in_either (Some e.1)) (nowhere v waiting e out mid t))

  -- the second list's last is greater than all of the first
  off_coming : (left waiting out : List Known) (e : Known) → Halfway own coming left (waiting ++ e ∷ []) out → EndsBefore left e.0 → Halfway own coming left waiting (e ∷ out)
  off_coming left waiting out e h b =
      let rise = subst Rising (shift waiting e out) h.coming_rise in
      let stays = rising_split left out h.own_rise in
      let mid = rising_mid left e out h.own_rise (ends_before left e.0 stays.0 b) (rising_split waiting (e ∷ out) rise).1.0 in
      let stand = subst (AreValidFacts 0 0) (shift waiting e out) h.coming_stand in
      record {
        own_rise = mid;
        coming_rise = rise;
        own_stand = stand_mid left e out (stand e.0 e.1 (In-right e waiting (e ∷ out) (inl refl))) h.own_stand;
        coming_stand = stand;
        found = λ v. by v rise mid (eq_by_cmp version_key_cmp v e.0) refl ∙ ap (λ l. known_in_either (find version_key_cmp v (left ++ out)) (find version_key_cmp v l)) (sym (shift waiting e out)) ∙ h.found v;
      }
    where
      by : (v : VersionKey) → Rising (waiting ++ e ∷ out) → Rising (left ++ e ∷ out) → (b : Bool) → eq_by_cmp version_key_cmp v e.0 ≡ b
          → known_in_either (find version_key_cmp v (left ++ e ∷ out)) (find version_key_cmp v (waiting ++ e ∷ out)) ≡ known_in_either (find version_key_cmp v (left ++ out)) (find version_key_cmp v (waiting ++ e ∷ out))
      by v rise mid false t = ap (λ o. known_in_either o (find version_key_cmp v (waiting ++ e ∷ out))) (elsewhere v left e out mid t)
      by v rise mid true t =
          ap (known_in_either (find version_key_cmp v (left ++ e ∷ out))) (here v waiting e out rise t)
          ∙ ap (λ o. known_in_either o (Some e.1)) (here v left e out mid t) ∙ either_itself (Some e.1)
          ∙ sym (ap (known_in_either (find version_key_cmp v (left ++ out))) (here v waiting e out rise t) ∙ ap (λ o. known_in_either o (Some e.1)) (nowhere v left e out mid t))

  -- both lists end with the version
  off_both : (left waiting out : List Known) (k : VersionKey) (x y z : VersionValue) → z ≡ both_known x y → Halfway own coming (left ++ (k, x) ∷ []) (waiting ++ (k, y) ∷ []) out → Halfway own coming left waiting ((k, z) ∷ out)
  off_both left waiting out k x y z is h =
      let own_rise = subst Rising (shift left (k, x) out) h.own_rise in
      let coming_rise = subst Rising (shift waiting (k, y) out) h.coming_rise in
      let own_mid = renamed left k x z out own_rise in
      let coming_mid = renamed waiting k y z out coming_rise in
      let own_stand = subst (AreValidFacts 0 0) (shift left (k, x) out) h.own_stand in
      let coming_stand = subst (AreValidFacts 0 0) (shift waiting (k, y) out) h.coming_stand in
      let stand : is_valid_fact 0 0 (k, z) ≡ true = ap (λ w. is_valid_fact 0 0 (k, w)) is ∙ both_stand k x y (own_stand k x (In-right (k, x) left ((k, x) ∷ out) (inl refl))) (coming_stand k y (In-right (k, y) waiting ((k, y) ∷ out) (inl refl))) in
      record {
        own_rise = own_mid;
        coming_rise = coming_mid;
        own_stand = stand_mid left (k, z) out stand (stand_less left (k, x) out own_stand);
        coming_stand = stand_mid waiting (k, z) out stand (stand_less waiting (k, y) out coming_stand);
        found = λ v. by v own_rise coming_rise own_mid coming_mid (eq_by_cmp version_key_cmp v k) refl
            ∙ (λ i. known_in_either (find version_key_cmp v (sym (shift left (k, x) out) i)) (find version_key_cmp v (sym (shift waiting (k, y) out) i))) ∙ h.found v;
      }
    where
      by : (v : VersionKey) → Rising (left ++ (k, x) ∷ out) → Rising (waiting ++ (k, y) ∷ out) → Rising (left ++ (k, z) ∷ out) → Rising (waiting ++ (k, z) ∷ out) → (b : Bool) → eq_by_cmp version_key_cmp v k ≡ b
          → known_in_either (find version_key_cmp v (left ++ (k, z) ∷ out)) (find version_key_cmp v (waiting ++ (k, z) ∷ out)) ≡ known_in_either (find version_key_cmp v (left ++ (k, x) ∷ out)) (find version_key_cmp v (waiting ++ (k, y) ∷ out))
      by v p q r s false t =
          (λ i. known_in_either (elsewhere v left (k, z) out r t i) (elsewhere v waiting (k, z) out s t i))
          ∙ sym (λ i. known_in_either (elsewhere v left (k, x) out p t i) (elsewhere v waiting (k, y) out q t i))
      by v p q r s true t =
          (λ i. known_in_either (here v left (k, z) out r t i) (here v waiting (k, z) out s t i))
          ∙ either_itself (Some z) ∙ ap Some is
          ∙ sym (λ i. known_in_either (here v left (k, x) out p t i) (here v waiting (k, y) out q t i))

  pub begun : facts_fault 0 0 None own ≡ None → facts_fault 0 0 None coming ≡ None → Halfway own coming own coming []
  begun f g =
      let a = are_facts 0 0 None own f in
      let b = are_facts 0 0 None coming g in
      record {
        own_rise = subst Rising (sym (append-nil own)) (rising own a.sorted);
        coming_rise = subst Rising (sym (append-nil coming)) (rising coming b.sorted);
        own_stand = subst (AreValidFacts 0 0) (sym (append-nil own)) a.each;
        coming_stand = subst (AreValidFacts 0 0) (sym (append-nil coming)) b.each;
        found = λ v. (λ i. known_in_either (find version_key_cmp v (append-nil own i)) (find version_key_cmp v (append-nil coming i)));
      }

  pub further : (left waiting out left_after waiting_after : List Known) (e : Known) → Halfway own coming left waiting out → TakesGreatest left left_after waiting waiting_after (Some e) → Halfway own coming left_after waiting_after (e ∷ out)
  further left waiting out left_after waiting_after e h (inl t) =
      subst (λ l. Halfway own coming left_after l (e ∷ out)) t.1 (off_own left_after waiting out e (subst (λ l. Halfway own coming l waiting out) t.0 h) t.2)
  further left waiting out left_after waiting_after e h (inr (inl t)) =
      subst (λ l. Halfway own coming l waiting_after (e ∷ out)) t.0 (off_coming left waiting_after out e (subst (λ l. Halfway own coming left l out) t.1 h) t.2)
  further left waiting out left_after waiting_after e h (inr (inr t)) =
      off_both left_after waiting_after out e.0 t.0 t.1 e.1 t.4 (subst (λ l. Halfway own coming (left_after ++ (e.0, t.0) ∷ []) l out) t.3 (subst (λ l. Halfway own coming l waiting out) t.2 h))

  module _ (left waiting out : List Known) (h : Halfway own coming left waiting out) (none : TakesGreatest left left waiting waiting None) where
    own_all : left ++ out ≡ out
    own_all = ap (λ l. l ++ out) none.0

    coming_all : waiting ++ out ≡ out
    coming_all = ap (λ l. l ++ out) none.1

    pub ended_faultless : facts_fault 0 0 None out ≡ None
    ended_faultless = faults_none None out (subst Rising own_all h.own_rise) tt (subst (AreValidFacts 0 0) own_all h.own_stand)

    pub ended_found : (v : VersionKey) → find version_key_cmp v out ≡ known_in_either (find version_key_cmp v own) (find version_key_cmp v coming)
    ended_found v =
        sym (either_itself (find version_key_cmp v out))
        ∙ sym (λ i. known_in_either (find version_key_cmp v (own_all i)) (find version_key_cmp v (coming_all i)))
        ∙ h.found v

-- what is taken off is gone
pub fewer : (left left_after waiting waiting_after : List Known) (e : Known) → TakesGreatest left left_after waiting waiting_after (Some e) → length left_after + length waiting_after < length left + length waiting
fewer left left_after waiting waiting_after e (inl t) = omega (arith, ap length t.0, length-append left_after (e ∷ []), ap length t.1)
fewer left left_after waiting waiting_after e (inr (inl t)) = omega (arith, ap length t.0, ap length t.1, length-append waiting_after (e ∷ []))
fewer left left_after waiting waiting_after e (inr (inr t)) = omega (arith, ap length t.2, length-append left_after ((e.0, t.0) ∷ []), ap length t.3, length-append waiting_after ((e.0, t.1) ∷ []))
