-- A walk over the versions of a chain, in the order of their births.
use Rattle.std.proofs.Common.{◌≡◌, refl, sym, ap, ◌∙◌, subst, ℕ, ◌+◌, ◌<◌, ◌≤◌, Bool, true, false, cond, T, Option, Some, None, List, [], ◌∷◌, ◌++◌, map, filter, length, nat_cmp, nat_lt, is_lt, Bor, arith}
use Rattle.std.proofs.lemmas.Bool.Decides.{nat_tests}
use Rattle.std.proofs.lemmas.List.{append-nil, map-append, map_push}
use Rattle.std.proofs.lemmas.List.Sums.{take_while-cons}
use Rattle.std.specs.List.{take_while}
use Rattle.std.specs.Option.{is_some, option_map}
use Rattle.std.specs.Ordering.{eq_by_cmp}
use Rattle.std.specs.Cmp.{Equal-is}
use Rattle.std.specs.Map.Iter.{TakesFirst, deref_pair}
use Rattle.std.specs.Iterator.{YieldsFirstBy, Yields}
use Rattle.std.specs.FinMap as finmap
use Rattle.std.specs.FinMap.{find, is_sorted}
use Rattle.std.specs.FinMap.Entries.{below_all}
use Rattle.std.specs.declared.cmp.Ordering.{Ordering}
use Rattle.std.specs.declared.cmp.Ordering.TheVariants.{Less, Equal, Greater}
use Rattle.hk_log.specs.Versions.{VersionValue}
use Rattle.hk_types.specs.declared.version_key.VersionKey.{VersionKey}
use Rattle.hk_model.specs.History.Rows.{RowKey, version_of}
use Rattle.hk_model.proofs.Replica.Visible.{T_both}
use Rattle.hk_facts.specs.Chains.{ChainValue, FirstBorn, is_after}
use Rattle.hk_chains.specs.Versions.{NextOf, borrowed, left_of_walk, versions_of_row, versions_of_rows}

abbrev Born : Type 0
Born = ℕ × VersionValue

-- how many rows are left of a walk
abbrev pub rows_left : Option (Bor RowKey × Bor ChainValue) → List (RowKey × ChainValue) → ℕ
rows_left None rows = 0
rows_left (Some here) rows = 1 + length rows

-- those born after a time
abbrev pub born_after : Option ℕ → List Born → List Born
born_after after es = filter (λ e. is_after after e.0) es

-- ---- times

lt_cmp : (a b : ℕ) → T (is_lt (nat_cmp a b)) → nat_lt a b ≡ true
lt_cmp a b t = by (nat_cmp a b) refl t
  where
    less_is : (a b : ℕ) → nat_cmp a b ≡ Less → nat_lt a b ≡ true
    less_is a b e = grind (arith, nat_tests)

    by : (o : Ordering) → nat_cmp a b ≡ o → T (is_lt o) → nat_lt a b ≡ true
    by Less e t = less_is a b e
    by Equal e t = absurd t
    by Greater e t = absurd t

after_both : (after : Option ℕ) (b t : ℕ) → is_after after b ≡ true → nat_lt b t ≡ true → is_after after t ≡ true
after_both None b t p l = refl
after_both (Some a) b t p l = grind (arith, nat_tests)

not_lt : (a b : ℕ) → nat_lt a b ≡ true → nat_lt b a ≡ false
not_lt a b l = grind (arith, nat_tests)

not_itself : (a : ℕ) → nat_lt a a ≡ false
not_itself a = grind (arith, nat_tests)

above_le : (a b : ℕ) → nat_lt a b ≡ true → b ≤ a → ⊥
above_le a b l le = grind (arith, nat_tests)

same_cmp : (a b : ℕ) → eq_by_cmp nat_cmp a b ≡ true → a ≡ b
same_cmp a b e = finmap.nat_cmp-IsAntisymmetric a b ((Equal-is (nat_cmp a b)).0 e)

-- ---- what is found

pub found_above : (k b : ℕ) (v : VersionValue) (es : List Born) → T (below_all nat_cmp k es) → find nat_cmp b es ≡ Some v → nat_lt k b ≡ true
found_above k b v [] below is = cc is
found_above k b v (e ∷ es) below is = by (found_above k b v es both.1) (eq_by_cmp nat_cmp b e.0) refl is
  where
    both : T (is_lt (nat_cmp k e.0)) × T (below_all nat_cmp k es)
    both = T_both (is_lt (nat_cmp k e.0)) (below_all nat_cmp k es) below

    by : (find nat_cmp b es ≡ Some v → nat_lt k b ≡ true) → (t : Bool) → eq_by_cmp nat_cmp b e.0 ≡ t → cond t (Some e.1) (find nat_cmp b es) ≡ Some v → nat_lt k b ≡ true
    by later true t is = ap (nat_lt k) (same_cmp b e.0 t) ∙ lt_cmp k e.0 both.0
    by later false t is = later is

some_later : (b : ℕ) (e : Born) (es : List Born) → is_some (find nat_cmp b es) ≡ true → is_some (find nat_cmp b (e ∷ es)) ≡ true
some_later b e es s = by (eq_by_cmp nat_cmp b e.0)
  where
    by : (t : Bool) → is_some (cond t (Some e.1) (find nat_cmp b es)) ≡ true
    by true = refl
    by false = s

pub itself : (b : ℕ) → eq_by_cmp nat_cmp b b ≡ true
itself b = grind (arith, nat_tests)

none_born : (after : Option ℕ) (es : List Born) → ((b : ℕ) → is_after after b ≡ true → find nat_cmp b es ≡ None) → born_after after es ≡ []
none_born after [] none = refl
none_born after (e ∷ es) none = by (none_born after es rest) (is_after after e.0) refl
  where
    rest : (b : ℕ) → is_after after b ≡ true → find nat_cmp b es ≡ None
    rest b p = in_rest (eq_by_cmp nat_cmp b e.0) (none b p)
      where
        in_rest : (t : Bool) → cond t (Some e.1) (find nat_cmp b es) ≡ None → find nat_cmp b es ≡ None
        in_rest true is = cc is
        in_rest false is = is

    by : born_after after es ≡ [] → (t : Bool) → is_after after e.0 ≡ t → cond t (e ∷ born_after after es) (born_after after es) ≡ []
    by others true p = cc (sym (none e.0 p) ∙ ap (λ t. cond t (Some e.1) (find nat_cmp e.0 es)) (itself e.0))
    by others false p = others

-- behind a birth that is after the time nothing more is left out
all_later : (after : Option ℕ) (b : ℕ) (es : List Born) → is_after after b ≡ true → T (below_all nat_cmp b es) → born_after after es ≡ born_after (Some b) es
all_later after b [] p below = refl
all_later after b (e ∷ es) p below =
    let both = T_both (is_lt (nat_cmp b e.0)) (below_all nat_cmp b es) below in
    let later = lt_cmp b e.0 both.0 in
    let rest = all_later after b es p both.1 in
    ap (λ t. cond t (e ∷ born_after after es) (born_after after es)) (after_both after b e.0 p later)
    ∙ ap (λ l. e ∷ l) rest
    ∙ ap (λ t. cond t (e ∷ born_after (Some b) es) (born_after (Some b) es)) (sym later)

first_born : (after : Option ℕ) (b : ℕ) (v : VersionValue) (es : List Born) → T (is_sorted nat_cmp es) → find nat_cmp b es ≡ Some v → is_after after b ≡ true
    → ((t : ℕ) → is_after after t ≡ true → is_some (find nat_cmp t es) ≡ true → b ≤ t) → born_after after es ≡ (b, v) ∷ born_after (Some b) es
first_born after b v [] sorted known passes earliest = cc known
first_born after b v (e ∷ es) sorted known passes earliest = by (λ is. first_born after b v es both.1 is passes (λ t p s. earliest t p (some_later t e es s))) (eq_by_cmp nat_cmp b e.0) refl known
  where
    both : T (below_all nat_cmp e.0 es) × T (is_sorted nat_cmp es)
    both = T_both (below_all nat_cmp e.0 es) (is_sorted nat_cmp es) sorted

    by : (find nat_cmp b es ≡ Some v → born_after after es ≡ (b, v) ∷ born_after (Some b) es) → (t : Bool) → eq_by_cmp nat_cmp b e.0 ≡ t → cond t (Some e.1) (find nat_cmp b es) ≡ Some v → born_after after (e ∷ es) ≡ (b, v) ∷ born_after (Some b) (e ∷ es)
    by later true t is =
        let same = same_cmp b e.0 t in
        let value : e.1 ≡ v = cc is in
        let here : is_after after e.0 ≡ true = ap (is_after after) (sym same) ∙ passes in
        ap (λ x. cond x (e ∷ born_after after es) (born_after after es)) here
        ∙ ap (λ l. e ∷ l) (all_later after e.0 es here both.0)
        ∙ (λ i. (sym same i, value i) ∷ born_after (Some (sym same i)) es)
        ∙ ap (λ x. (b, v) ∷ cond x (e ∷ born_after (Some b) es) (born_after (Some b) es)) (sym (ap (nat_lt b) (sym same) ∙ not_itself b))
    by later false t is =
        let above = found_above e.0 b v es both.0 is in
        ap (λ x. cond x (e ∷ born_after after es) (born_after after es)) (out (is_after after e.0) refl above)
        ∙ later is
        ∙ ap (λ x. (b, v) ∷ cond x (e ∷ born_after (Some b) es) (born_after (Some b) es)) (sym (not_lt e.0 b above))
      where
        out : (x : Bool) → is_after after e.0 ≡ x → nat_lt e.0 b ≡ true → is_after after e.0 ≡ false
        out true p above = absurd (above_le e.0 b above (earliest e.0 p (ap (λ t. is_some (cond t (Some e.1) (find nat_cmp e.0 es))) (itself e.0))))
        out false p above = p

-- ---- the next of a chain

pub chain_done : (c : ChainValue) (after : Option ℕ) → FirstBorn c (is_after after) None → born_after after (finmap.entries c) ≡ []
chain_done c after none = none_born after (finmap.entries c) (λ b p. sym (finmap.get-entries c b) ∙ none b p)

pub chain_next : (c : ChainValue) (after : Option ℕ) (e : Born) → FirstBorn c (is_after after) (Some e) → born_after after (finmap.entries c) ≡ e ∷ born_after (Some e.0) (finmap.entries c)
chain_next c after e is =
    first_born after e.0 e.1 (finmap.entries c) (finmap.entries_sorted c) (sym (finmap.get-entries c e.0) ∙ is.known) is.passes
    (λ t p s. is.earliest t p (ap is_some (finmap.get-entries c t) ∙ s))

-- a whole chain is left where no time is passed
pub whole_chain : (es : List Born) → born_after None es ≡ es
whole_chain [] = refl
whole_chain (e ∷ es) = ap (λ l. e ∷ l) (whole_chain es)

-- ---- the walk

abbrev Here : Type 0
Here = Option (Bor RowKey × Bor ChainValue)

-- at the first of some rows all of their versions are left
pub begun : (rows : List (RowKey × ChainValue)) (here : Here) (new : List (RowKey × ChainValue)) → TakesFirst deref_pair rows here new → left_of_walk here None new ≡ versions_of_rows rows
begun rows None new takes = ap versions_of_rows (sym takes.0)
begun rows (Some n) new takes = ap (λ l. versions_of_row n.0.now l ++ versions_of_rows new) (whole_chain (finmap.entries n.1.now)) ∙ ap versions_of_rows (sym takes)

module _ (here : Here) (after : Option ℕ) (rows : List (RowKey × ChainValue)) (row : Bor RowKey) (chain : Bor ChainValue) (is : here ≡ Some (row, chain)) (found : Option (VersionKey × Bor VersionValue)) (next : NextOf row.now chain.now after (option_map borrowed found)) where
  -- the next version of the chain is the first that is left
  pub one_taken : (e : VersionKey × Bor VersionValue) → found ≡ Some e → left_of_walk here after rows ≡ borrowed e ∷ left_of_walk here (Some e.0.born) rows
  one_taken e some =
      let first : NextOf row.now chain.now after (Some (borrowed e)) = subst (λ (o : Option (VersionKey × Bor VersionValue)). NextOf row.now chain.now after (option_map borrowed o)) some next in
      ap (λ h. left_of_walk h after rows) is
      ∙ ap (λ l. versions_of_row row.now l ++ versions_of_rows rows) (chain_next chain.now after (e.0.born, e.1.now) first.1)
      ∙ (λ i. (version_of (sym first.0 i) e.0.born, e.1.now) ∷ left_of_walk (sym is i) (Some e.0.born) rows)

  -- where the chain has no more, what is left is that of the rows to come
  pub row_done : found ≡ None → (then : Here) (new : List (RowKey × ChainValue)) → TakesFirst deref_pair rows then new → left_of_walk then None new ≡ left_of_walk here after rows
  row_done none then new takes =
      begun rows then new takes
      ∙ sym (ap (λ h. left_of_walk h after rows) is ∙ ap (λ l. versions_of_row row.now l ++ versions_of_rows rows) (chain_done chain.now after (subst (λ (o : Option (VersionKey × Bor VersionValue)). NextOf row.now chain.now after (option_map borrowed o)) none next)))

pub shorter : {X : Type 0} (x : X) (old new : List X) → old ≡ x ∷ new → length new < length old
shorter x old new is = let one = ap length is in omega arith

-- ---- what a loop over a walk took

abbrev Steps : List (VersionKey × VersionValue) → Option (VersionKey × Bor VersionValue) → List (VersionKey × VersionValue) → Type 0
Steps = YieldsFirstBy borrowed (λ s. s)

pub taken : (whole : List (VersionKey × VersionValue)) (xs : List (VersionKey × Bor VersionValue)) (left : List (VersionKey × VersionValue)) → Yields Steps whole xs left → whole ≡ map borrowed xs ++ left
taken whole [] left is = is
taken whole (x ∷ xs) left is = is.1 ∙ ap (λ l. borrowed x ∷ l) (taken is.0 xs left is.2)

-- where nothing more comes, all is taken
pub all_taken : (whole : List (VersionKey × VersionValue)) (xs : List (VersionKey × Bor VersionValue)) (left then : List (VersionKey × VersionValue)) (r : Option (VersionKey × Bor VersionValue)) → Yields Steps whole xs left → r ≡ None → Steps left r then → whole ≡ map borrowed xs
all_taken whole xs left then r is none last = taken whole xs left is ∙ ap (λ l. map borrowed xs ++ l) (subst (λ (o : Option (VersionKey × Bor VersionValue)). Steps left o then) none last).0 ∙ append-nil (map borrowed xs)

-- where one more comes, it stands behind those
pub one_more_taken : (whole : List (VersionKey × VersionValue)) (xs : List (VersionKey × Bor VersionValue)) (left then : List (VersionKey × VersionValue)) (r : Option (VersionKey × Bor VersionValue)) (x : VersionKey × Bor VersionValue) → Yields Steps whole xs left → r ≡ Some x → Steps left r then → whole ≡ map borrowed xs ++ borrowed x ∷ then
one_more_taken whole xs left then r x is some one = taken whole xs left is ∙ ap (λ l. map borrowed xs ++ l) (subst (λ (o : Option (VersionKey × Bor VersionValue)). Steps left o then) some one)

-- ---- the keys that a loop over a walk took, while they pass a test

abbrev keys : List (VersionKey × VersionValue) → List VersionKey
keys es = map (λ (e : VersionKey × VersionValue). e.0) es

append_one : (xs ys : List VersionKey) (x : VersionKey) → (xs ++ x ∷ []) ++ ys ≡ xs ++ x ∷ ys
append_one [] ys x = refl
append_one (y ∷ xs) ys x = ap (λ l. y ∷ l) (append_one xs ys x)

pub one_more_key : (xs : List (VersionKey × Bor VersionValue)) (x : VersionKey × Bor VersionValue) → keys (map borrowed (xs ++ x ∷ [])) ≡ keys (map borrowed xs) ++ x.0 ∷ []
one_more_key xs x = ap keys (map_push borrowed xs x) ∙ map_push (λ (e : VersionKey × VersionValue). e.0) (map borrowed xs) (borrowed x)

module _ (p : VersionKey → Bool) where
  -- all of these pass it
  abbrev pub Passed : List VersionKey → Type 0
  Passed ks = (rest : List VersionKey) → take_while p (ks ++ rest) ≡ ks ++ take_while p rest

  pub one_more_passed : (ks new : List VersionKey) (k : VersionKey) → new ≡ ks ++ k ∷ [] → p k ≡ true → Passed ks → Passed new
  one_more_passed ks new k more passes before rest =
      ap (λ l. take_while p (l ++ rest)) more
      ∙ ap (take_while p) (append_one ks rest k)
      ∙ before (k ∷ rest)
      ∙ ap (λ l. ks ++ l) (take_while-cons p k rest ∙ ap (λ b. cond b (k ∷ take_while p rest) []) passes)
      ∙ sym (append_one ks (take_while p rest) k)
      ∙ ap (λ l. l ++ take_while p rest) (sym more)

  -- where all are taken
  pub all_passed : (ks : List VersionKey) (whole : List (VersionKey × VersionValue)) → keys whole ≡ ks → Passed ks → ks ≡ take_while p (keys whole)
  all_passed ks whole is passed = sym (ap (take_while p) (is ∙ sym (append-nil ks)) ∙ passed [] ∙ append-nil ks)

  -- where the next one does not pass it
  pub none_more : (ks : List VersionKey) (whole first rest : List (VersionKey × VersionValue)) (e : VersionKey × VersionValue) → whole ≡ first ++ e ∷ rest → ks ≡ keys first → p e.0 ≡ false → Passed ks → ks ≡ take_while p (keys whole)
  none_more ks whole first rest e is same fails passed =
      sym (ap (λ l. take_while p (keys l)) is
      ∙ ap (take_while p) (map-append (λ (e : VersionKey × VersionValue). e.0) first (e ∷ rest) ∙ ap (λ l. l ++ keys (e ∷ rest)) (sym same))
      ∙ passed (keys (e ∷ rest))
      ∙ ap (λ l. ks ++ l) (take_while-cons p e.0 (keys rest) ∙ ap (λ b. cond b (e.0 ∷ take_while p (keys rest)) []) fails)
      ∙ append-nil ks)
