-- Groups of elements of one table: what they were made of, what is read of them, and how it is read again.
use Rattle.std.proofs.Common.{◌≡◌, ◌≢◌, ℕ, zero, suc, ◌+◌, ◌^◌, ◌<◌, ◌≤◌, Bool, true, false, cond, eqb, ltb, ◌||◌, ◌&&◌, List, [], ◌∷◌, ◌++◌, length, map, Option, Some, None, Result, Ok, refl, sym, ap, subst, ◌∙◌, append_assoc, arith, inl, inr}
use Rattle.std.specs.Int.{w16}
use Rattle.std.specs.List.{flat_map, AllByRecursion}
use Rattle.std.proofs.lemmas.Bool.{ltb-true, ltb-false, le-ltb, eqb-true, eq-eqb, and_from}
use Rattle.std.proofs.lemmas.List.{append-nil, length-append}
use Rattle.std.proofs.lemmas.List.Concat.{flat_map-cons}
use Rattle.hk_types.specs.declared.faults.FormFault.{FormFault}
use Rattle.hk_types.specs.declared.faults.FormFault.TheVariants.{BadOrder, BadCount}
use Rattle.hk_log.specs.Items.{is_before, is_after, rise_after}
use Rattle.hk_frames.specs.Fields.{IsBytes, ◌>>=◌, check, number, number_at, list_at}
use Rattle.hk_codec.specs.Lists.{before_groups, groups_of, group_text, last_place, is_above, elements_at, group_at, groups_at, StartsOther}
use Rattle.hk_frames.proofs.ReadingLoop.{One}
use Rattle.hk_frames.proofs.ReadingSteps.{bind_ok, check_ok, ok_is, passes, neither, both, either, Takes, Takes-then}
use Rattle.hk_frames.proofs.Numbers.{wide16, number_takes, number_again}
use Rattle.hk_codec.proofs.ListsRead.{list_takes, list_again}

-- ---- the elements of groups

abbrev pub flattened : {X : Type 0} → List (ℕ × List X) → List X
flattened [] = []
flattened (g ∷ gs) = g.1 ++ flattened gs

before_flat : {X : Type 0} (t : ℕ) (x : X) (gs : List (ℕ × List X)) → flattened (before_groups t x gs) ≡ x ∷ flattened gs
before_flat t x [] = refl
before_flat {X = X} t x (g ∷ gs) = by (eqb t g.0)
  where
    by : (b : Bool) → flattened (cond b ((g.0, x ∷ g.1) ∷ gs) ((t, x ∷ []) ∷ g ∷ gs)) ≡ x ∷ (g.1 ++ flattened gs)
    by true = refl
    by false = refl

pub groups_flat : {X : Type 0} (place : X → ℕ × ℕ) (xs : List X) → flattened (groups_of place xs) ≡ xs
unfolding groups_of
groups_flat place [] = refl
groups_flat {X = X} place (x ∷ xs) = before_flat (place x).0 x (groups_of place xs) ∙ ap (λ (l : List X). x ∷ l) (groups_flat place xs)

-- ---- how many

before_count : {X : Type 0} (t : ℕ) (x : X) (gs : List (ℕ × List X)) → length (before_groups t x gs) ≤ 1 + length gs
before_count t x [] = omega arith
before_count {X = X} t x (g ∷ gs) = by (eqb t g.0)
  where
    by : (b : Bool) → length (cond b ((g.0, x ∷ g.1) ∷ gs) ((t, x ∷ []) ∷ g ∷ gs)) ≤ 1 + length (g ∷ gs)
    by true = omega arith
    by false = omega arith

pub groups_no_more : {X : Type 0} (place : X → ℕ × ℕ) (xs : List X) → length (groups_of place xs) ≤ length xs
unfolding groups_of
groups_no_more place [] = omega arith
groups_no_more place (x ∷ xs) = omega (arith, before_count (place x).0 x (groups_of place xs), groups_no_more place xs)

-- an element makes a group at least
pub groups_some : {X : Type 0} (place : X → ℕ × ℕ) (xs : List X) → 1 ≤ length xs → 1 ≤ length (groups_of place xs)
unfolding groups_of
groups_some place [] some = absurd (omega arith)
groups_some place (x ∷ xs) some = before_some (place x).0 x (groups_of place xs)
  where
    before_some : {X : Type 0} (t : ℕ) (x : X) (gs : List (ℕ × List X)) → 1 ≤ length (before_groups t x gs)
    before_some t x [] = omega arith
    before_some {X = X} t x (g ∷ gs) = by (eqb t g.0)
      where
        by : (b : Bool) → 1 ≤ length (cond b ((g.0, x ∷ g.1) ∷ gs) ((t, x ∷ []) ∷ g ∷ gs))
        by true = omega arith
        by false = omega arith

-- ---- runs

-- the first group is of the first element's table, and begins with it
pub starts_with : {X : Type 0} (t : ℕ) (x : X) (gs : List (ℕ × List X)) → (ys : List X) × (hs : List (ℕ × List X)) × (before_groups t x gs ≡ (t, x ∷ ys) ∷ hs)
starts_with t x [] = ([], [], refl)
starts_with {X = X} t x (g ∷ gs) = by (eqb t g.0) refl
  where
    by : (b : Bool) → eqb t g.0 ≡ b → (ys : List X) × (hs : List (ℕ × List X)) × (cond b ((g.0, x ∷ g.1) ∷ gs) ((t, x ∷ []) ∷ g ∷ gs) ≡ (t, x ∷ ys) ∷ hs)
    by true e = (g.1, gs, ap (λ (k : ℕ). (k, x ∷ g.1) ∷ gs) (sym (eqb-true t g.0 e)))
    by false e = ([], g ∷ gs, refl)

pub not_same : (a b : ℕ) → a ≢ b → eqb a b ≡ false
not_same a b never = by (eqb a b) refl
  where
    by : (c : Bool) → eqb a b ≡ c → c ≡ false
    by true e = absurd (never (eqb-true a b e))
    by false e = refl

apart : {X : Type 0} (t u : ℕ) (x z : X) (gs : List (ℕ × List X)) → u ≢ t → before_groups t x (before_groups u z gs) ≡ (t, x ∷ []) ∷ before_groups u z gs
apart {X = X} t u x z gs never =
    let s = starts_with u z gs in
    let other : eqb t u ≡ false = not_same t u (λ e. never (sym e)) in
    let first : before_groups t x ((u, z ∷ s.0) ∷ s.1) ≡ (t, x ∷ []) ∷ (u, z ∷ s.0) ∷ s.1 = rw other refl in
    ap (before_groups t x) s.2 ∙ first ∙ ap (λ (l : List (ℕ × List X)). (t, x ∷ []) ∷ l) (sym s.2)

one_run : {X : Type 0} (place : X → ℕ × ℕ) (t : ℕ) (x : X) (zs : List X) → StartsOther place t zs → before_groups t x (groups_of place zs) ≡ (t, x ∷ []) ∷ groups_of place zs
unfolding groups_of
one_run place t x [] other = refl
one_run place t x (z ∷ zs) other = apart t (place z).0 x z (groups_of place zs) other

pub run_then : {X : Type 0} (place : X → ℕ × ℕ) (t : ℕ) (xs zs : List X) → 1 ≤ length xs → AllByRecursion (λ x. (place x).0 ≡ t) xs → StartsOther place t zs → groups_of place (xs ++ zs) ≡ (t, xs) ∷ groups_of place zs
unfolding groups_of
run_then place t [] zs some same other = absurd (omega arith)
run_then {X = X} place t (x ∷ []) zs some same other = ap (λ (k : ℕ). before_groups k x (groups_of place zs)) same.0 ∙ one_run place t x zs other
run_then {X = X} place t (x ∷ y ∷ xs) zs some same other =
    let others : groups_of place (y ∷ xs ++ zs) ≡ (t, y ∷ xs) ∷ groups_of place zs = run_then place t (y ∷ xs) zs (omega arith) same.1 other in
    let here : eqb t t ≡ true = eq-eqb t t refl in
    let last : before_groups t x ((t, y ∷ xs) ∷ groups_of place zs) ≡ (t, x ∷ y ∷ xs) ∷ groups_of place zs = rw here refl in
    ap (λ (k : ℕ). before_groups k x (groups_of place (y ∷ xs ++ zs))) same.0 ∙ ap (before_groups t x) others ∙ last

-- ---- groups whose tables rise

pub record IsGroup {X : Type 0} (place : X → ℕ × ℕ) (g : ℕ × List X) : Type 0 where
  pub some : 1 ≤ length g.1
  pub same : AllByRecursion (λ x. (place x).0 ≡ g.0) g.1

abbrev pub StartsAbove : {X : Type 0} → Option (ℕ × ℕ) → List (ℕ × List X) → Type 0
StartsAbove before [] = Unit {0}
StartsAbove before (g ∷ gs) = is_above before g.0 ≡ true

abbrev pub AreGroups : {X : Type 0} → (X → ℕ × ℕ) → List (ℕ × List X) → Type 0
AreGroups place [] = Unit {0}
AreGroups place (g ∷ gs) = IsGroup place g × (StartsAbove (Some (g.0, 0)) gs × AreGroups place gs)

not_equal : (a b : ℕ) → a < b → b ≢ a
not_equal a b lt = λ e. absurd (omega (arith, e, lt))

first_other : {X : Type 0} (place : X → ℕ × ℕ) (t : ℕ) (gs : List (ℕ × List X)) → StartsAbove (Some (t, 0)) gs → AreGroups place gs → StartsOther place t (flattened gs)
first_other place t [] above are = tt
first_other {X = X} place t (g ∷ gs) above are = by g.1 are.0.some are.0.same
  where
    by : (xs : List X) → 1 ≤ length xs → AllByRecursion (λ x. (place x).0 ≡ g.0) xs → StartsOther place t (xs ++ flattened gs)
    by [] some same = absurd (omega arith)
    by (x ∷ xs) some same = subst (λ (k : ℕ). k ≢ t) (sym same.0) (not_equal t g.0 (ltb-true t g.0 above))

-- such groups are the longest runs of their elements
pub longest : {X : Type 0} (place : X → ℕ × ℕ) (gs : List (ℕ × List X)) → AreGroups place gs → groups_of place (flattened gs) ≡ gs
unfolding groups_of
longest place [] are = refl
longest {X = X} place (g ∷ gs) are =
    run_then place g.0 g.1 (flattened gs) are.0.some are.0.same (first_other place g.0 gs are.1.0 are.1.1) ∙ ap (λ (l : List (ℕ × List X)). (g.0, g.1) ∷ l) (longest place gs are.1.1)

table_rises : (p q : ℕ × ℕ) → is_before p q ≡ true → eqb p.0 q.0 ≡ false → ltb p.0 q.0 ≡ true
table_rises p q before other =
    elim (either (ltb p.0 q.0) (eqb p.0 q.0 && ltb p.1 q.1) before) [
      | inl lt ↦ lt
      | inr h ↦ let e = both (eqb p.0 q.0) (ltb p.1 q.1) h in absurd (cc (e.0, other))
    ]

before_are : {X : Type 0} (place : X → ℕ × ℕ) (x y : X) (us : List X) (hs : List (ℕ × List X)) → is_before (place x) (place y) ≡ true → AreGroups place (((place y).0, y ∷ us) ∷ hs) → AreGroups place (before_groups (place x).0 x (((place y).0, y ∷ us) ∷ hs))
before_are {X = X} place x y us hs rises are = by (eqb (place x).0 (place y).0) refl
  where
    by : (b : Bool) → eqb (place x).0 (place y).0 ≡ b → AreGroups place (cond b (((place y).0, x ∷ y ∷ us) ∷ hs) (((place x).0, x ∷ []) ∷ ((place y).0, y ∷ us) ∷ hs))
    by true e = (record { some = omega arith; same = (eqb-true (place x).0 (place y).0 e, are.0.same) }, are.1)
    by false e = (record { some = omega arith; same = (refl, tt) }, (table_rises (place x) (place y) rises e, are))

pub rising_groups : {X : Type 0} (place : X → ℕ × ℕ) (before : Option (ℕ × ℕ)) (xs : List X) → rise_after before (map place xs) ≡ true → AreGroups place (groups_of place xs)
unfolding groups_of
rising_groups place before [] rises = tt
rising_groups place before (x ∷ []) rises = (record { some = omega arith; same = (refl, tt) }, (tt, tt))
rising_groups {X = X} place before (x ∷ y ∷ xs) rises =
    let a = both (is_after before (place x)) (rise_after (Some (place x)) (map place (y ∷ xs))) rises in
    let b = both (is_before (place x) (place y)) (rise_after (Some (place y)) (map place xs)) a.1 in
    let others : AreGroups place (before_groups (place y).0 y (groups_of place xs)) = rising_groups place (Some (place x)) (y ∷ xs) a.1 in
    let s = starts_with (place y).0 y (groups_of place xs) in
    subst (λ (l : List (ℕ × List X)). AreGroups place (before_groups (place x).0 x l)) (sym s.2) (before_are place x y s.0 s.1 b.0 (subst (AreGroups place) s.2 others))

-- the first table is above nothing
pub starts_above_none : {X : Type 0} (gs : List (ℕ × List X)) → StartsAbove None gs
starts_above_none [] = tt
starts_above_none (g ∷ gs) = refl

-- ---- places

pub last_both : {X : Type 0} (place : X → ℕ × ℕ) (before : Option (ℕ × ℕ)) (xs ys : List X) → last_place place before (xs ++ ys) ≡ last_place place (last_place place before xs) ys
last_both place before [] ys = refl
last_both place before (x ∷ xs) ys = last_both place (Some (place x)) xs ys

pub rise_both : {X : Type 0} (place : X → ℕ × ℕ) (before : Option (ℕ × ℕ)) (xs ys : List X) → rise_after before (map place xs) ≡ true → rise_after (last_place place before xs) (map place ys) ≡ true → rise_after before (map place (xs ++ ys)) ≡ true
rise_both place before [] ys h k = k
rise_both place before (x ∷ xs) ys h k =
    let a = both (is_after before (place x)) (rise_after (Some (place x)) (map place xs)) h in
    and_from _ _ a.0 (rise_both place (Some (place x)) xs ys a.1 k)

pub rise_split : {X : Type 0} (place : X → ℕ × ℕ) (before : Option (ℕ × ℕ)) (xs ys : List X) → rise_after before (map place (xs ++ ys)) ≡ true → (rise_after before (map place xs) ≡ true) × (rise_after (last_place place before xs) (map place ys) ≡ true)
rise_split place before [] ys h = (refl, h)
rise_split place before (x ∷ xs) ys h =
    let a = both (is_after before (place x)) (rise_after (Some (place x)) (map place (xs ++ ys))) h in
    let b = rise_split place (Some (place x)) xs ys a.1 in
    (and_from _ _ a.0 b.0, b.1)

-- the last place of some elements of one table is in that table
pub last_in : {X : Type 0} (place : X → ℕ × ℕ) (t : ℕ) (before : Option (ℕ × ℕ)) (xs : List X) → 1 ≤ length xs → AllByRecursion (λ x. (place x).0 ≡ t) xs → (p : ℕ × ℕ) × (last_place place before xs ≡ Some p) × (p.0 ≡ t)
last_in place t before [] some same = absurd (omega arith)
last_in place t before (x ∷ []) some same = (place x, refl, same.0)
last_in place t before (x ∷ y ∷ xs) some same = last_in place t (Some (place x)) (y ∷ xs) (omega arith) same.1

above_last : {X : Type 0} (last : Option (ℕ × ℕ)) (p : ℕ × ℕ) (t : ℕ) (gs : List (ℕ × List X)) → last ≡ Some p → p.0 ≡ t → StartsAbove last gs → StartsAbove (Some (t, 0)) gs
above_last last p t [] is in_ above = tt
above_last last p t (g ∷ gs) is in_ above =
    let k : ltb p.0 g.0 ≡ true = subst (λ (o : Option (ℕ × ℕ)). is_above o g.0 ≡ true) is above in
    subst (λ (n : ℕ). ltb n g.0 ≡ true) in_ k

last_above : {X : Type 0} (last : Option (ℕ × ℕ)) (p : ℕ × ℕ) (t : ℕ) (gs : List (ℕ × List X)) → last ≡ Some p → p.0 ≡ t → StartsAbove (Some (t, 0)) gs → StartsAbove last gs
last_above last p t [] is in_ above = tt
last_above last p t (g ∷ gs) is in_ above =
    let k : ltb p.0 g.0 ≡ true = subst (λ (n : ℕ). ltb n g.0 ≡ true) (sym in_) above in
    subst (λ (o : Option (ℕ × ℕ)). is_above o g.0 ≡ true) (sym is) k

-- ---- facts of each element

pub each_append : {X : Type 0} (P : X → Type 0) (xs ys : List X) → AllByRecursion P xs → AllByRecursion P ys → AllByRecursion P (xs ++ ys)
each_append P [] ys h k = k
each_append P (x ∷ xs) ys h k = (h.0, each_append P xs ys h.1 k)

pub each_split : {X : Type 0} (P : X → Type 0) (xs ys : List X) → AllByRecursion P (xs ++ ys) → AllByRecursion P xs × AllByRecursion P ys
each_split P [] ys h = (tt, h)
each_split P (x ∷ xs) ys h = let k = each_split P xs ys h.1 in ((h.0, k.0), k.1)

each_first : {X : Type 0} (P Q : X → Type 0) (xs : List X) → AllByRecursion (λ x. P x × Q x) xs → AllByRecursion P xs
each_first P Q [] h = tt
each_first P Q (x ∷ xs) h = (h.0.0, each_first P Q xs h.1)

each_second : {X : Type 0} (P Q : X → Type 0) (xs : List X) → AllByRecursion (λ x. P x × Q x) xs → AllByRecursion Q xs
each_second P Q [] h = tt
each_second P Q (x ∷ xs) h = (h.0.1, each_second P Q xs h.1)

each_pair : {X : Type 0} (P Q : X → Type 0) (xs : List X) → AllByRecursion P xs → AllByRecursion Q xs → AllByRecursion (λ x. P x × Q x) xs
each_pair P Q [] h k = tt
each_pair P Q (x ∷ xs) h k = ((h.0, k.0), each_pair P Q xs h.1 k.1)

-- ---- what is read is written so

-- what was read as a group behind these elements
pub record GroupIs {X : Type 0} (place : X → ℕ × ℕ) (text : X → List ℕ) (Fit : X → Type 0) (before : List X) (bytes : List ℕ) (all : List X) (rest : List ℕ) : Type 0 where
  pub table : ℕ
  pub group : List X
  pub all_is : all ≡ before ++ group
  pub takes : Takes bytes (group_text text (table, group)) rest
  pub above : is_above (last_place place None before) table ≡ true
  pub some : 1 ≤ length group
  pub most : length all ≤ 1024
  pub each : AllByRecursion Fit group
  pub same : AllByRecursion (λ x. (place x).0 ≡ table) group
  pub rising : rise_after (last_place place None before) (map place group) ≡ true

-- what was read as so many groups behind these elements
pub record GroupsAre {X : Type 0} (place : X → ℕ × ℕ) (text : X → List ℕ) (Fit : X → Type 0) (n : ℕ) (before : List X) (bytes : List ℕ) (all : List X) (rest : List ℕ) : Type 0 where
  pub groups : List (ℕ × List X)
  pub len : length groups ≡ n
  pub all_is : all ≡ before ++ flattened groups
  pub takes : Takes bytes (flat_map (group_text text) groups) rest
  pub are : AreGroups place groups
  pub above : StartsAbove (last_place place None before) groups
  pub most : length before ≤ 1024 → length all ≤ 1024
  pub each : AllByRecursion Fit (flattened groups)
  pub rising : rise_after (last_place place None before) (map place (flattened groups)) ≡ true

-- a reader of one element of a table
abbrev pub OneOf : Type 0 → Type 0
OneOf X = ℕ → One X (ℕ × ℕ)

abbrev pub TakesOne : {X : Type 0} → (X → ℕ × ℕ) → OneOf X → (X → List ℕ) → (X → Type 0) → Type 0
TakesOne {X} place one text Fit =
    (table : ℕ) (before : Option (ℕ × ℕ)) (bytes : List ℕ) (x : X × List ℕ) → table < 2 ^ 16 → IsBytes bytes → one table before bytes ≡ Ok x → Takes bytes (text x.0) x.1 × (Fit x.0 × ((place x.0).0 ≡ table)) × (is_after before (place x.0) ≡ true)

abbrev pub AgainOne : {X : Type 0} → (X → ℕ × ℕ) → OneOf X → (X → List ℕ) → (X → Type 0) → Type 0
AgainOne {X} place one text Fit =
    (table : ℕ) (before : Option (ℕ × ℕ)) (x : X) (rest : List ℕ) → Fit x × ((place x).0 ≡ table) → is_after before (place x) ≡ true → one table before (text x ++ rest) ≡ Ok (x, rest)

module _ {X : Type 0} (place : X → ℕ × ℕ) (one : OneOf X) (text : X → List ℕ) (Fit : X → Type 0) (law : TakesOne place one text Fit) where
  pub group_takes : (before : List X) (bytes : List ℕ) (x : List X × List ℕ) → IsBytes bytes → group_at place one before bytes ≡ Ok x → GroupIs place text Fit before bytes x.0 x.1
  unfolding group_at elements_at group_text
  group_takes before bytes x fits e =
      let last = last_place place None before in
      let after = λ (table : ℕ) (count : ℕ × List ℕ). list_at place (one table) count.0 last count.1 >>= λ more. Ok (before ++ more.0, more.1) in
      let a = bind_ok (number_at w16 bytes) (λ table. check (cond (is_above last table.0) false true) BadOrder >>= λ _. number_at w16 table.1 >>= λ count. check (ltb count.0 1 || ltb 1024 (length before + count.0)) BadCount >>= λ _. after table.0 count) x e in
      let b = check_ok (cond (is_above last a.0.0) false true) BadOrder (λ _. number_at w16 a.0.1 >>= λ count. check (ltb count.0 1 || ltb 1024 (length before + count.0)) BadCount >>= λ _. after a.0.0 count) x a.2 in
      let c = bind_ok (number_at w16 a.0.1) (λ count. check (ltb count.0 1 || ltb 1024 (length before + count.0)) BadCount >>= λ _. after a.0.0 count) x b.1 in
      let d = check_ok (ltb c.0.0 1 || ltb 1024 (length before + c.0.0)) BadCount (λ _. after a.0.0 c.0) x c.2 in
      let f = bind_ok (list_at place (one a.0.0) c.0.0 last c.0.1) (λ more. Ok (before ++ more.0, more.1)) x d.1 in
      let t0 = number_takes w16 (2 ^ 16) wide16 bytes a.0 fits a.1 in
      let t1 = number_takes w16 (2 ^ 16) wide16 a.0.1 c.0 t0.0.rest_fits c.1 in
      let l = list_takes place (one a.0.0) text (λ y. Fit y × ((place y).0 ≡ a.0.0)) (λ b bs y. law a.0.0 b bs y t0.1) c.0.0 last c.0.1 f.0 t1.0.rest_fits f.1 in
      let s = neither (ltb c.0.0 1) (ltb 1024 (length before + c.0.0)) d.0 in
      let least : 1 ≤ c.0.0 = ltb-false c.0.0 1 s.0 in
      let within : length before + c.0.0 ≤ 1024 = ltb-false 1024 (length before + c.0.0) s.1 in
      let e12 = Takes-then a.0.1 (number w16 c.0.0) c.0.1 (flat_map text f.0.0) f.0.1 t1.0 l.takes in
      let e02 = Takes-then bytes (number w16 a.0.0) a.0.1 (number w16 c.0.0 ++ flat_map text f.0.0) f.0.1 t0.0 e12 in
      let whole : Takes bytes (number w16 a.0.0 ++ (number w16 (length f.0.0) ++ flat_map text f.0.0)) f.0.1 = subst (λ (k : ℕ). Takes bytes (number w16 a.0.0 ++ (number w16 k ++ flat_map text f.0.0)) f.0.1) (sym l.len) e02 in
      let made : GroupIs place text Fit before bytes (before ++ f.0.0) f.0.1 = record {
        table = a.0.0;
        group = f.0.0;
        all_is = refl;
        takes = whole;
        above = passes (is_above last a.0.0) b.0;
        some = omega (arith, l.len, least);
        most = omega (arith, l.len, within, length-append before f.0.0);
        each = each_first Fit (λ y. (place y).0 ≡ a.0.0) f.0.0 l.each;
        same = each_second Fit (λ y. (place y).0 ≡ a.0.0) f.0.0 l.each;
        rising = l.rising;
      } in
      subst (λ (y : List X × List ℕ). GroupIs place text Fit before bytes y.0 y.1) {x = (before ++ f.0.0, f.0.1)} (ok_is (before ++ f.0.0, f.0.1) x f.2) made

  pub groups_take : (n : ℕ) (before : List X) (bytes : List ℕ) (x : List X × List ℕ) → IsBytes bytes → groups_at place one n before bytes ≡ Ok x → GroupsAre place text Fit n before bytes x.0 x.1
  unfolding groups_at
  groups_take zero before bytes x fits e =
      let made : GroupsAre place text Fit 0 before bytes before bytes = record {
        groups = [];
        len = refl;
        all_is = sym (append-nil before);
        takes = record { parts = refl; rest_fits = fits };
        are = tt;
        above = tt;
        most = λ h. h;
        each = tt;
        rising = refl;
      } in
      subst (λ (y : List X × List ℕ). GroupsAre place text Fit 0 before bytes y.0 y.1) {x = (before, bytes)} (ok_is (before, bytes) x e) made
  groups_take (suc n) before bytes x fits e =
      let a = bind_ok (group_at place one before bytes) (λ more. groups_at place one n more.0 more.1) x e in
      let g = group_takes before bytes a.0 fits a.1 in
      let h = groups_take n a.0.0 a.0.1 x g.takes.rest_fits a.2 in
      let both_ = Takes-then bytes (group_text text (g.table, g.group)) a.0.1 (flat_map (group_text text) h.groups) x.1 g.takes h.takes in
      let whole : Takes bytes (flat_map (group_text text) ((g.table, g.group) ∷ h.groups)) x.1 = rw flat_map-cons both_ in
      let last : last_place place None a.0.0 ≡ last_place place (last_place place None before) g.group = ap (last_place place None) g.all_is ∙ last_both place None before g.group in
      let p = last_in place g.table (last_place place None before) g.group g.some g.same in
      let next : StartsAbove (Some (g.table, 0)) h.groups = above_last (last_place place None a.0.0) p.0 g.table h.groups (last ∙ p.1) p.2 h.above in
      let rest_rises : rise_after (last_place place (last_place place None before) g.group) (map place (flattened h.groups)) ≡ true = subst (λ (o : Option (ℕ × ℕ)). rise_after o (map place (flattened h.groups)) ≡ true) last h.rising in
      record {
        groups = (g.table, g.group) ∷ h.groups;
        len = ap suc h.len;
        all_is = h.all_is ∙ ap (λ (l : List X). l ++ flattened h.groups) g.all_is ∙ append_assoc before g.group (flattened h.groups);
        takes = whole;
        are = (record { some = g.some; same = g.same }, (next, h.are));
        above = g.above;
        most = λ k. h.most g.most;
        each = each_append Fit g.group (flattened h.groups) g.each h.each;
        rising = rise_both place (last_place place None before) g.group (flattened h.groups) g.rising rest_rises;
      }

-- ---- what is written so is read again

module _ {X : Type 0} (place : X → ℕ × ℕ) (one : OneOf X) (text : X → List ℕ) (Fit : X → Type 0) (wide : (x : X) → Fit x → (place x).0 < 2 ^ 16) (law : AgainOne place one text Fit) where
  table_wide : (g : ℕ × List X) → IsGroup place g → AllByRecursion Fit g.1 → g.0 < 2 ^ 16
  table_wide g is each = by g.1 is.some is.same each
    where
      by : (xs : List X) → 1 ≤ length xs → AllByRecursion (λ x. (place x).0 ≡ g.0) xs → AllByRecursion Fit xs → g.0 < 2 ^ 16
      by [] some same each = absurd (omega arith)
      by (x ∷ xs) some same each = subst (λ (k : ℕ). k < 2 ^ 16) same.0 (wide x each.0)

  group_again : (g : ℕ × List X) (before : List X) (rest : List ℕ) → IsGroup place g → is_above (last_place place None before) g.0 ≡ true → length before + length g.1 ≤ 1024 → AllByRecursion Fit g.1 → rise_after (last_place place None before) (map place g.1) ≡ true → group_at place one before (group_text text g ++ rest) ≡ Ok (before ++ g.1, rest)
  unfolding group_at elements_at group_text
  group_again g before rest is above most each rising =
      let regrouped : (number w16 g.0 ++ (number w16 (length g.1) ++ flat_map text g.1)) ++ rest ≡ number w16 g.0 ++ (number w16 (length g.1) ++ (flat_map text g.1 ++ rest)) = simp append_assoc in
      let few : ltb (length g.1) 1 ≡ false = le-ltb _ _ is.some in
      let many : ltb 1024 (length before + length g.1) ≡ false = le-ltb _ _ most in
      let fit : AllByRecursion (λ y. Fit y × ((place y).0 ≡ g.0)) g.1 = each_pair Fit (λ y. (place y).0 ≡ g.0) g.1 each is.same in
      let listed = list_again place (one g.0) text (λ y. Fit y × ((place y).0 ≡ g.0)) (λ b y r. law g.0 b y r) g.1 (last_place place None before) rest fit rising in
      ap (group_at place one before) regrouped
      ∙ rw (
        number_again w16 (2 ^ 16) wide16 g.0 (number w16 (length g.1) ++ (flat_map text g.1 ++ rest)) (table_wide g is each),
        above,
        number_again w16 (2 ^ 16) wide16 (length g.1) (flat_map text g.1 ++ rest) (omega (arith, most)),
        few,
        many,
        listed,
      ) refl

  pub groups_again : (gs : List (ℕ × List X)) (before : List X) (rest : List ℕ) → AreGroups place gs → StartsAbove (last_place place None before) gs → length before + length (flattened gs) ≤ 1024 → AllByRecursion Fit (flattened gs) → rise_after (last_place place None before) (map place (flattened gs)) ≡ true
      → groups_at place one (length gs) before (flat_map (group_text text) gs ++ rest) ≡ Ok (before ++ flattened gs, rest)
  unfolding groups_at
  groups_again [] before rest are above most each rising = ap (λ (l : List X). Ok (l, rest)) (sym (append-nil before))
  groups_again (g ∷ gs) before rest are above most each rising =
      let e = each_split Fit g.1 (flattened gs) each in
      let r = rise_split place (last_place place None before) g.1 (flattened gs) rising in
      let counts : length (g.1 ++ flattened gs) ≡ length g.1 + length (flattened gs) = length-append g.1 (flattened gs) in
      let more = flat_map (group_text text) gs ++ rest in
      let regrouped : flat_map (group_text text) (g ∷ gs) ++ rest ≡ group_text text g ++ more = ap (λ (t : List ℕ). t ++ rest) (flat_map-cons (group_text text) g gs) ∙ append_assoc (group_text text g) (flat_map (group_text text) gs) rest in
      let first = group_again g before more are.0 above (omega (arith, most, counts)) e.0 r.0 in
      let last : last_place place None (before ++ g.1) ≡ last_place place (last_place place None before) g.1 = last_both place None before g.1 in
      let p = last_in place g.0 (last_place place None before) g.1 are.0.some are.0.same in
      let next : StartsAbove (last_place place None (before ++ g.1)) gs = last_above (last_place place None (before ++ g.1)) p.0 g.0 gs (last ∙ p.1) p.2 are.1.0 in
      let rises : rise_after (last_place place None (before ++ g.1)) (map place (flattened gs)) ≡ true = subst (λ (o : Option (ℕ × ℕ)). rise_after o (map place (flattened gs)) ≡ true) (sym last) r.1 in
      let others = groups_again gs (before ++ g.1) rest are.1.1 next (omega (arith, most, counts, length-append before g.1)) e.1 rises in
      ap (groups_at place one (suc (length gs)) before) regrouped
      ∙ ap (λ (z : Result (List X × List ℕ) FormFault). z >>= λ m. groups_at place one (length gs) m.0 m.1) first
      ∙ others
      ∙ ap (λ (l : List X). Ok (l, rest)) (append_assoc before g.1 (flattened gs))
