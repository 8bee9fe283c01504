-- What is kept of a list that is read is the list that the definition reads, or how many elements it has.
use Rattle.std.proofs.Common.{◌≡◌, ℕ, zero, suc, ◌+◌, Bool, true, false, cond, eqb, ltb, ◌||◌, List, [], ◌∷◌, ◌++◌, length, Option, Some, None, Result, Ok, Err, refl, sym, ap, ◌∙◌, append_assoc, append-nil, arith}
use Rattle.std.specs.Int.{w16}
use Rattle.std.proofs.lemmas.Bool.{le-ltb}
use Rattle.std.proofs.lemmas.List.{length-append}
use Rattle.hk_types.specs.Values.{RowValue}
use Rattle.hk_types.specs.declared.version_key.VersionKey.{VersionKey}
use Rattle.hk_types.specs.declared.faults.FormFault.{FormFault}
use Rattle.hk_types.specs.declared.faults.FormFault.TheVariants.{BadOrder, BadCount}
use Rattle.hk_log.specs.Items.{end_place, row_place}
use Rattle.hk_frames.specs.Fields.{◌>>=◌, mapped, check, number_at, list_at}
use Rattle.hk_frames.proofs.ReadingLoop.{with_front}
use Rattle.hk_codec.specs.Lists.{last_place, is_above, elements_at, group_at, groups_at}
use Rattle.hk_codec.specs.Kept.{Reader, all_of, passed_of, steps_at, tabled_at, kept_group_at, kept_list_at}
use Rattle.hk_codec.specs.Reading.{keyed_end_at, keyed_row_at, end_at, row_at, ends_at, rows_at, counted_ends_at, counted_rows_at, grouped_ends_at, grouped_rows_at, ends_of_version, rows_of_version}

abbrev Read : Type 0 → Type 0
Read X = Result (X × List ℕ) FormFault

abbrev snoc : {X : Type 0} → List X → X × List ℕ → List X × List ℕ
snoc xs x = (xs ++ x.0 ∷ [], x.1)

last_snoc : {X : Type 0} (place : X → ℕ × ℕ) (before : Option (ℕ × ℕ)) (xs : List X) (x : X) → last_place place before (xs ++ x ∷ []) ≡ Some (place x)
last_snoc place before [] x = refl
last_snoc place before (y ∷ xs) x = last_snoc place (Some (place y)) xs x

-- the elements read by steps, each told the place of the last that is kept, are those that are read as a list
steps_list : {X : Type 0} (place : X → ℕ × ℕ) (one : Option (ℕ × ℕ) → List ℕ → Read X) (step : List X → List ℕ → Read (List X))
    → ((xs : List X) (bytes : List ℕ) → step xs bytes ≡ mapped (λ x. (xs ++ x.0 ∷ [], x.1)) (one (last_place place None xs) bytes))
    → (n : ℕ) (xs : List X) (bytes : List ℕ) → steps_at step n xs bytes ≡ with_front xs (list_at place one n (last_place place None xs) bytes)
unfolding steps_at list_at
steps_list place one step is zero xs bytes = ap (λ l. Ok (l, bytes)) (sym (append-nil xs))
steps_list {X = X} place one step is (suc n) xs bytes =
    ap (λ (r : Read (List X)). r >>= λ first. steps_at step n first.0 first.1) (is xs bytes) ∙ by (λ ys b. steps_list place one step is n ys b) (one (last_place place None xs) bytes)
  where
    join : (x : X) (after : List ℕ) (r : Read (List X)) → with_front (xs ++ x ∷ []) r ≡ with_front xs (r >>= λ others. Ok (x ∷ others.0, others.1))
    join x after (Ok y) = ap (λ zs. Ok (zs, y.1)) (append_assoc xs (x ∷ []) y.0)
    join x after (Err f) = refl

    by : ((ys : List X) (b : List ℕ) → steps_at step n ys b ≡ with_front ys (list_at place one n (last_place place None ys) b)) → (r : Read X) → (mapped (snoc xs) r >>= λ first. steps_at step n first.0 first.1) ≡ with_front xs (r >>= λ first. list_at place one n (Some (place first.0)) first.1 >>= λ others. Ok (first.0 ∷ others.0, others.1))
    by more (Err f) = refl
    by more (Ok x) =
        more (xs ++ x.0 ∷ []) x.1
        ∙ ap (λ (p : Option (ℕ × ℕ)). with_front (xs ++ x.0 ∷ []) (list_at place one n p x.1)) (last_snoc place None xs x.0)
        ∙ join x.0 x.1 (list_at place one n (Some (place x.0)) x.1)

no_front : {X : Type 0} (r : Read (List X)) → with_front [] r ≡ r
no_front (Ok x) = refl
no_front (Err f) = refl

-- ---- groups

all_group : {X : Type 0} (place : X → ℕ × ℕ) (one : Reader X) (time : ℕ) (xs : List X) (bytes : List ℕ) → kept_group_at (all_of place one) time xs bytes ≡ group_at place (one time) xs bytes
unfolding kept_group_at group_at elements_at
all_group {X = X} place one time xs bytes = by (number_at w16 bytes)
  where
    same : (table count : ℕ) (after : List ℕ) → steps_at ((all_of place one).next time table) count xs after ≡ (list_at place (one time table) count (last_place place None xs) after >>= λ more. Ok (xs ++ more.0, more.1))
    same table count after = steps_list place (one time table) ((all_of place one).next time table) (λ ys b. refl) count xs after

    fill : (table : ℕ) (r : Read ℕ) → (r >>= λ count. check (ltb count.0 1 || ltb 1024 (length xs + count.0)) BadCount >>= λ _. steps_at ((all_of place one).next time table) count.0 xs count.1)
        ≡ (r >>= λ count. check (ltb count.0 1 || ltb 1024 (length xs + count.0)) BadCount >>= λ _. (list_at place (one time table) count.0 (last_place place None xs) count.1 >>= λ more. Ok (xs ++ more.0, more.1)))
    fill table (Err f) = refl
    fill table (Ok count) = ap (λ (r : Read (List X)). check (ltb count.0 1 || ltb 1024 (length xs + count.0)) BadCount >>= λ _. r) (same table count.0 count.1)

    by : (r : Read ℕ) → (r >>= λ table. check (cond (is_above (last_place place None xs) table.0) false true) BadOrder >>= λ _. number_at w16 table.1 >>= λ count. check (ltb count.0 1 || ltb 1024 (length xs + count.0)) BadCount >>= λ _. steps_at ((all_of place one).next time table.0) count.0 xs count.1)
        ≡ (r >>= λ table. check (cond (is_above (last_place place None xs) table.0) false true) BadOrder >>= λ _. number_at w16 table.1 >>= λ count. check (ltb count.0 1 || ltb 1024 (length xs + count.0)) BadCount >>= λ _. (list_at place (one time table.0) count.0 (last_place place None xs) count.1 >>= λ more. Ok (xs ++ more.0, more.1)))
    by (Err f) = refl
    by (Ok table) = ap (λ (r : Read (List X)). check (cond (is_above (last_place place None xs) table.0) false true) BadOrder >>= λ _. r) (fill table.0 (number_at w16 table.1))

all_groups : {X : Type 0} (place : X → ℕ × ℕ) (one : Reader X) (time n : ℕ) (xs : List X) (bytes : List ℕ) → steps_at (kept_group_at (all_of place one) time) n xs bytes ≡ groups_at place (one time) n xs bytes
unfolding steps_at groups_at
all_groups place one time zero xs bytes = refl
all_groups {X = X} place one time (suc n) xs bytes =
    ap (λ (r : Read (List X)). r >>= λ more. steps_at (kept_group_at (all_of place one) time) n more.0 more.1) (all_group place one time xs bytes) ∙ by (λ ys b. all_groups place one time n ys b) (group_at place (one time) xs bytes)
  where
    by : ((ys : List X) (b : List ℕ) → steps_at (kept_group_at (all_of place one) time) n ys b ≡ groups_at place (one time) n ys b) → (r : Read (List X)) → (r >>= λ more. steps_at (kept_group_at (all_of place one) time) n more.0 more.1) ≡ (r >>= λ more. groups_at place (one time) n more.0 more.1)
    by more (Err f) = refl
    by more (Ok x) = more x.0 x.1

-- ---- one by one

all_tabled : {X : Type 0} (place : X → ℕ × ℕ) (one : Reader X) (time n : ℕ) (bytes : List ℕ) → steps_at (tabled_at (all_of place one) time) n [] bytes ≡ list_at place (λ before bytes. number_at w16 bytes >>= λ table. one time table.0 before table.1) n None bytes
unfolding tabled_at
all_tabled {X = X} place one time n bytes =
    steps_list place (λ before bytes. number_at w16 bytes >>= λ table. one time table.0 before table.1) (tabled_at (all_of place one) time) (λ xs b. behind xs (number_at w16 b)) n [] bytes ∙ no_front _
  where
    behind : (xs : List X) (r : Read ℕ) → (r >>= λ table. mapped (snoc xs) (one time table.0 (last_place place None xs) table.1)) ≡ mapped (snoc xs) (r >>= λ table. one time table.0 (last_place place None xs) table.1)
    behind xs (Err f) = refl
    behind xs (Ok table) = refl

-- ---- lists of a version

chosen : {X : Type 0} (b : Bool) (x y z w : X) → x ≡ z → y ≡ w → cond b x y ≡ cond b z w
chosen true x y z w e f = e
chosen false x y z w e f = f

-- where there are others a list may be none
may_be_none : (count : ℕ) → (ltb 1024 count || ltb (1 + count) 1) ≡ ltb 1024 count
may_be_none count = ap (λ (b : Bool). ltb 1024 count || b) (le-ltb (1 + count) 1 (omega arith)) ∙ or_false (ltb 1024 count)
  where
    or_false : (b : Bool) → (b || false) ≡ b
    or_false true = refl
    or_false false = refl

pub all_ends : (version time : ℕ) (bytes : List ℕ) → kept_list_at (all_of end_place keyed_end_at) version time 1 bytes ≡ ends_of_version version time bytes
unfolding kept_list_at counted_ends_at grouped_ends_at end_at
all_ends version time bytes = by (eqb version 1) (number_at w16 bytes)
  where
    body : Bool → ℕ × List ℕ → Read (List VersionKey)
    body b count = cond b (steps_at (tabled_at (all_of end_place keyed_end_at) time) count.0 [] count.1) (steps_at (kept_group_at (all_of end_place keyed_end_at) time) count.0 [] count.1)

    by : (b : Bool) (r : Read ℕ) → (r >>= λ count. check (ltb 1024 count.0 || ltb (1 + count.0) 1) BadCount >>= λ _. body b count)
        ≡ cond b (r >>= λ count. check (ltb 1024 count.0) BadCount >>= λ _. ends_at time count.0 None count.1) (r >>= λ count. check (ltb 1024 count.0) BadCount >>= λ _. groups_at end_place (keyed_end_at time) count.0 [] count.1)
    by true (Err f) = refl
    by false (Err f) = refl
    by true (Ok count) = ap (λ (c : Bool). check c BadCount >>= λ _. body true count) (may_be_none count.0) ∙ ap (λ (l : Read (List VersionKey)). check (ltb 1024 count.0) BadCount >>= λ _. l) (all_tabled end_place keyed_end_at time count.0 count.1)
    by false (Ok count) = ap (λ (c : Bool). check c BadCount >>= λ _. body false count) (may_be_none count.0) ∙ ap (λ (l : Read (List VersionKey)). check (ltb 1024 count.0) BadCount >>= λ _. l) (all_groups end_place keyed_end_at time count.0 [] count.1)

abbrev row_reader : Reader (ℕ × ℕ × RowValue)
row_reader time = keyed_row_at

pub all_rows : (version time ends : ℕ) (bytes : List ℕ) → kept_list_at (all_of row_place (λ time. keyed_row_at)) version time ends bytes ≡ rows_of_version version ends bytes
unfolding kept_list_at counted_rows_at grouped_rows_at row_at
all_rows version time ends bytes = by (eqb version 1) (number_at w16 bytes)
  where
    body : Bool → ℕ × List ℕ → Read (List (ℕ × ℕ × RowValue))
    body b count = cond b (steps_at (tabled_at (all_of row_place row_reader) time) count.0 [] count.1) (steps_at (kept_group_at (all_of row_place row_reader) time) count.0 [] count.1)

    by : (b : Bool) (r : Read ℕ) → (r >>= λ count. check (ltb 1024 count.0 || ltb (ends + count.0) 1) BadCount >>= λ _. body b count)
        ≡ cond b (r >>= λ count. check (ltb 1024 count.0 || ltb (ends + count.0) 1) BadCount >>= λ _. rows_at count.0 None count.1) (r >>= λ count. check (ltb 1024 count.0 || ltb (ends + count.0) 1) BadCount >>= λ _. groups_at row_place keyed_row_at count.0 [] count.1)
    by true (Err f) = refl
    by false (Err f) = refl
    by true (Ok count) = ap (λ (l : Read (List (ℕ × ℕ × RowValue))). check (ltb 1024 count.0 || ltb (ends + count.0) 1) BadCount >>= λ _. l) (all_tabled row_place row_reader time count.0 count.1)
    by false (Ok count) = ap (λ (l : Read (List (ℕ × ℕ × RowValue))). check (ltb 1024 count.0 || ltb (ends + count.0) 1) BadCount >>= λ _. l) (all_groups row_place row_reader time count.0 [] count.1)

-- ---- what is passed

-- what is kept of these where they are passed
abbrev pub summed : {X : Type 0} → (X → ℕ × ℕ) → List X → ℕ × Option (ℕ × ℕ)
summed place xs = (length xs, last_place place None xs)

abbrev pub sums : {X : Type 0} → (X → ℕ × ℕ) → Read (List X) → Read (ℕ × Option (ℕ × ℕ))
sums place r = mapped (λ x. (summed place x.0, x.1)) r

sum_snoc : {X : Type 0} (place : X → ℕ × ℕ) (xs : List X) (x : X) → summed place (xs ++ x ∷ []) ≡ (length xs + 1, Some (place x))
sum_snoc place xs x = ap (λ (n : ℕ). (n, last_place place None (xs ++ x ∷ []))) (length-append xs (x ∷ [])) ∙ ap (λ (p : Option (ℕ × ℕ)). (length xs + 1, p)) (last_snoc place None xs x)

-- steps that go the same way keep the same
steps_sum : {X : Type 0} (place : X → ℕ × ℕ) (step : List X → List ℕ → Read (List X)) (pass : ℕ × Option (ℕ × ℕ) → List ℕ → Read (ℕ × Option (ℕ × ℕ)))
    → ((xs : List X) (bytes : List ℕ) → pass (summed place xs) bytes ≡ sums place (step xs bytes))
    → (n : ℕ) (xs : List X) (bytes : List ℕ) → steps_at pass n (summed place xs) bytes ≡ sums place (steps_at step n xs bytes)
unfolding steps_at
steps_sum place step pass is zero xs bytes = refl
steps_sum {X = X} place step pass is (suc n) xs bytes =
    ap (λ (r : Read (ℕ × Option (ℕ × ℕ))). r >>= λ first. steps_at pass n first.0 first.1) (is xs bytes) ∙ by (λ ys b. steps_sum place step pass is n ys b) (step xs bytes)
  where
    by : ((ys : List X) (b : List ℕ) → steps_at pass n (summed place ys) b ≡ sums place (steps_at step n ys b)) → (r : Read (List X)) → (sums place r >>= λ first. steps_at pass n first.0 first.1) ≡ sums place (r >>= λ first. steps_at step n first.0 first.1)
    by more (Err f) = refl
    by more (Ok x) = more x.0 x.1

next_sum : {X : Type 0} (place : X → ℕ × ℕ) (one : Reader X) (time table : ℕ) (xs : List X) (bytes : List ℕ) → (passed_of place one).next time table (summed place xs) bytes ≡ sums place ((all_of place one).next time table xs bytes)
next_sum {X = X} place one time table xs bytes = by (one time table (last_place place None xs) bytes)
  where
    by : (r : Read X) → mapped (λ x. ((length xs + 1, Some (place x.0)), x.1)) r ≡ sums place (mapped (snoc xs) r)
    by (Err f) = refl
    by (Ok x) = ap (λ (s : ℕ × Option (ℕ × ℕ)). Ok (s, x.1)) (sym (sum_snoc place xs x.0))

tabled_sum : {X : Type 0} (place : X → ℕ × ℕ) (one : Reader X) (time : ℕ) (xs : List X) (bytes : List ℕ) → tabled_at (passed_of place one) time (summed place xs) bytes ≡ sums place (tabled_at (all_of place one) time xs bytes)
unfolding tabled_at
tabled_sum {X = X} place one time xs bytes = by (number_at w16 bytes)
  where
    by : (r : Read ℕ) → (r >>= λ table. (passed_of place one).next time table.0 (summed place xs) table.1) ≡ sums place (r >>= λ table. (all_of place one).next time table.0 xs table.1)
    by (Err f) = refl
    by (Ok table) = next_sum place one time table.0 xs table.1

group_sum : {X : Type 0} (place : X → ℕ × ℕ) (one : Reader X) (time : ℕ) (xs : List X) (bytes : List ℕ) → kept_group_at (passed_of place one) time (summed place xs) bytes ≡ sums place (kept_group_at (all_of place one) time xs bytes)
unfolding kept_group_at
group_sum {X = X} place one time xs bytes = by (number_at w16 bytes)
  where
    few : ℕ → Bool
    few count = ltb count 1 || ltb 1024 (length xs + count)

    all : (table : ℕ) → Read ℕ → Read (List X)
    all table r = r >>= λ count. check (few count.0) BadCount >>= λ _. steps_at ((all_of place one).next time table) count.0 xs count.1

    none : (table : ℕ) → Read ℕ → Read (ℕ × Option (ℕ × ℕ))
    none table r = r >>= λ count. check (few count.0) BadCount >>= λ _. steps_at ((passed_of place one).next time table) count.0 (summed place xs) count.1

    fill : (table : ℕ) (b : Bool) (count : ℕ × List ℕ) → (check b BadCount >>= λ _. steps_at ((passed_of place one).next time table) count.0 (summed place xs) count.1) ≡ sums place (check b BadCount >>= λ _. steps_at ((all_of place one).next time table) count.0 xs count.1)
    fill table true count = refl
    fill table false count = steps_sum place ((all_of place one).next time table) ((passed_of place one).next time table) (next_sum place one time table) count.0 xs count.1

    within : (table : ℕ) (r : Read ℕ) → none table r ≡ sums place (all table r)
    within table (Err f) = refl
    within table (Ok count) = fill table (few count.0) count

    above : (b : Bool) (table : ℕ × List ℕ) → (check b BadOrder >>= λ _. none table.0 (number_at w16 table.1)) ≡ sums place (check b BadOrder >>= λ _. all table.0 (number_at w16 table.1))
    above true table = refl
    above false table = within table.0 (number_at w16 table.1)

    by : (r : Read ℕ) → (r >>= λ table. check (cond (is_above (last_place place None xs) table.0) false true) BadOrder >>= λ _. none table.0 (number_at w16 table.1))
        ≡ sums place (r >>= λ table. check (cond (is_above (last_place place None xs) table.0) false true) BadOrder >>= λ _. all table.0 (number_at w16 table.1))
    by (Err f) = refl
    by (Ok table) = above (cond (is_above (last_place place None xs) table.0) false true) table

list_sum : {X : Type 0} (place : X → ℕ × ℕ) (one : Reader X) (version time others : ℕ) (bytes : List ℕ) → kept_list_at (passed_of place one) version time others bytes ≡ sums place (kept_list_at (all_of place one) version time others bytes)
unfolding kept_list_at
list_sum {X = X} place one version time others bytes = by (number_at w16 bytes)
  where
    all : Bool → ℕ × List ℕ → Read (List X)
    all b count = cond b (steps_at (tabled_at (all_of place one) time) count.0 [] count.1) (steps_at (kept_group_at (all_of place one) time) count.0 [] count.1)

    none : Bool → ℕ × List ℕ → Read (ℕ × Option (ℕ × ℕ))
    none b count = cond b (steps_at (tabled_at (passed_of place one) time) count.0 (0, None) count.1) (steps_at (kept_group_at (passed_of place one) time) count.0 (0, None) count.1)

    each : (b : Bool) (count : ℕ × List ℕ) → none b count ≡ sums place (all b count)
    each true count = steps_sum place (tabled_at (all_of place one) time) (tabled_at (passed_of place one) time) (tabled_sum place one time) count.0 [] count.1
    each false count = steps_sum place (kept_group_at (all_of place one) time) (kept_group_at (passed_of place one) time) (group_sum place one time) count.0 [] count.1

    tested : (bad b : Bool) (count : ℕ × List ℕ) → (check bad BadCount >>= λ _. none b count) ≡ sums place (check bad BadCount >>= λ _. all b count)
    tested true b count = refl
    tested false b count = each b count

    by : (r : Read ℕ) → (r >>= λ count. check (ltb 1024 count.0 || ltb (others + count.0) 1) BadCount >>= λ _. none (eqb version 1) count) ≡ sums place (r >>= λ count. check (ltb 1024 count.0 || ltb (others + count.0) 1) BadCount >>= λ _. all (eqb version 1) count)
    by (Err f) = refl
    by (Ok count) = tested (ltb 1024 count.0 || ltb (others + count.0) 1) (eqb version 1) count

-- what is kept of the ends and the rows of an entry that is passed over
pub passed_ends : (version time : ℕ) (bytes : List ℕ) → kept_list_at (passed_of end_place keyed_end_at) version time 1 bytes ≡ sums end_place (ends_of_version version time bytes)
passed_ends version time bytes = list_sum end_place keyed_end_at version time 1 bytes ∙ ap (sums end_place) (all_ends version time bytes)

pub passed_rows : (version time ends : ℕ) (bytes : List ℕ) → kept_list_at (passed_of row_place (λ time. keyed_row_at)) version time ends bytes ≡ sums row_place (rows_of_version version ends bytes)
passed_rows version time ends bytes = list_sum row_place row_reader version time ends bytes ∙ ap (sums row_place) (all_rows version time ends bytes)
