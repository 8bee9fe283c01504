-- How long the encodings are.
use Rattle.std.proofs.Common.{◌≡◌, ℕ, ◌+◌, ◌*◌, ◌^◌, ◌<◌, ◌≤◌, ◌⊎◌, ◌≢◌, ◌&&◌, false, eqb, ltb, List, [], ◌∷◌, ◌++◌, length, take, get_or, refl, ap, ◌∙◌, arith, inl, inr}
use Rattle.std.specs.Int.{w16, w32, w64}
use Rattle.std.specs.List.{flat_map, AllByRecursion}
use Rattle.std.proofs.lemmas.List.{length-append, append-nil, take_more}
use Rattle.std.proofs.lemmas.Grind.{flat_map-append}
use Rattle.std.proofs.lemmas.List.Concat.{flat_map-cons}
use Rattle.hk_types.specs.Values.{RowValue}
use Rattle.hk_types.specs.declared.version_key.VersionKey.{VersionKey}
use Rattle.hk_log.specs.Items.{EntryValue, MarkValue, IsEntry, end_place, row_place}
use Rattle.hk_log.specs.declared.item.Item.TheVariants.{Commit, Closed}
use Rattle.hk_log.specs.declared.item.Item.{Item}
use Rattle.hk_frames.specs.Fields.{number}
use Rattle.hk_frames.specs.Framing.{encoded}
use Rattle.hk_codec.specs.Frames.{encoding_of}
use Rattle.hk_codec.specs.Encoding.{keyed_end_text, keyed_row_text, ends_text, rows_text, head_text, entry_text, mark_text, version_text, RowFits, IsEncodableItem}
use Rattle.hk_codec.specs.Lists.{tabled_text, counted_text, groups_of, group_text, grouped_text, list_text}
use Rattle.std.proofs.lemmas.Bool.{ltb-true}
use Rattle.hk_frames.proofs.ReadingSteps.{both}
use Rattle.hk_frames.proofs.Numbers.{wide16, wide32, wide64, number_len}
use Rattle.hk_codec.proofs.LongestRuns.{not_same, flattened, groups_flat, groups_no_more}

pub len16 : (n : ℕ) → length (number w16 n) ≡ 2
len16 n = number_len w16 (2 ^ 16) wide16 n

pub len32 : (n : ℕ) → length (number w32 n) ≡ 4
len32 n = number_len w32 (2 ^ 32) wide32 n

pub len64 : (n : ℕ) → length (number w64 n) ≡ 8
len64 n = number_len w64 (2 ^ 64) wide64 n

pub keyed_end_len : (v : VersionKey) → length (keyed_end_text v) ≡ 16
unfolding keyed_end_text
keyed_end_len v = simp (length-append, len64) refl

pub keyed_row_len : (r : ℕ × ℕ × RowValue) → length (keyed_row_text r) ≡ 14 + length r.2.body
unfolding keyed_row_text
keyed_row_len r = simp (length-append, len16, len32, len64) (omega arith)

head_len : (version kind log stream : ℕ) → length (head_text version kind log stream) ≡ 12
unfolding head_text
head_len version kind log stream = simp (length-append, len16, len64) refl

-- ---- lists

-- one element more
pub one_longer : {X : Type 0} (text : X → List ℕ) (xs : List X) (i : ℕ) (d : X) → i < length xs → length (flat_map text (take (i + 1) xs)) ≡ length (flat_map text (take i xs)) + length (text (get_or xs i d))
one_longer {X = X} text xs i d lt =
    ap (λ (ys : List X). length (flat_map text ys)) (take_more xs i d lt)
    ∙ ap length (flat_map-append text (take i xs) (get_or xs i d ∷ []))
    ∙ length-append (flat_map text (take i xs)) (flat_map text (get_or xs i d ∷ []))
    ∙ ap (λ (k : ℕ). length (flat_map text (take i xs)) + k) (ap length (flat_map-cons text (get_or xs i d) [] ∙ append-nil (text (get_or xs i d))))

tabled_len : {X : Type 0} (place : X → ℕ × ℕ) (text : X → List ℕ) (xs : List X) → length (flat_map (tabled_text place text) xs) ≡ 2 * length xs + length (flat_map text xs)
unfolding tabled_text
tabled_len place text [] = refl
tabled_len place text (x ∷ xs) =
    let whole : length (flat_map (tabled_text place text) (x ∷ xs)) ≡ (2 + length (text x)) + length (flat_map (tabled_text place text) xs) = ap length (flat_map-cons (tabled_text place text) x xs) ∙ length-append (number w16 (place x).0 ++ text x) (flat_map (tabled_text place text) xs) ∙ ap (λ (k : ℕ). k + length (flat_map (tabled_text place text) xs)) (length-append (number w16 (place x).0) (text x) ∙ ap (λ (k : ℕ). k + length (text x)) (len16 (place x).0)) in
    let beside : length (flat_map text (x ∷ xs)) ≡ length (text x) + length (flat_map text xs) = ap length (flat_map-cons text x xs) ∙ length-append (text x) (flat_map text xs) in
    omega (arith, whole, beside, tabled_len place text xs)

groups_len : {X : Type 0} (text : X → List ℕ) (gs : List (ℕ × List X)) → length (flat_map (group_text text) gs) ≡ 4 * length gs + length (flat_map text (flattened gs))
unfolding group_text
groups_len text [] = refl
groups_len text (g ∷ gs) =
    let here : length (number w16 g.0 ++ (number w16 (length g.1) ++ flat_map text g.1)) ≡ 4 + length (flat_map text g.1) = omega (arith, length-append (number w16 g.0) (number w16 (length g.1) ++ flat_map text g.1), length-append (number w16 (length g.1)) (flat_map text g.1), len16 g.0, len16 (length g.1)) in
    let whole : length (flat_map (group_text text) (g ∷ gs)) ≡ (4 + length (flat_map text g.1)) + length (flat_map (group_text text) gs) = ap length (flat_map-cons (group_text text) g gs) ∙ length-append (number w16 g.0 ++ (number w16 (length g.1) ++ flat_map text g.1)) (flat_map (group_text text) gs) ∙ ap (λ (k : ℕ). k + length (flat_map (group_text text) gs)) here in
    let beside : length (flat_map text (g.1 ++ flattened gs)) ≡ length (flat_map text g.1) + length (flat_map text (flattened gs)) = ap length (flat_map-append text g.1 (flattened gs)) ∙ length-append (flat_map text g.1) (flat_map text (flattened gs)) in
    omega (arith, whole, beside, groups_len text gs)

-- in version 1 a list has two bytes for each table
pub counted_len : {X : Type 0} (place : X → ℕ × ℕ) (text : X → List ℕ) (xs : List X) → length (list_text 1 place text xs) ≡ 2 + 2 * length xs + length (flat_map text xs)
unfolding list_text counted_text
counted_len place text xs = omega (arith, length-append (number w16 (length xs)) (flat_map (tabled_text place text) xs), len16 (length xs), tabled_len place text xs)

-- in version 2 it has four bytes for each group
pub grouped_len : {X : Type 0} (place : X → ℕ × ℕ) (text : X → List ℕ) (xs : List X) → length (list_text 2 place text xs) ≡ 2 + 4 * length (groups_of place xs) + length (flat_map text xs)
unfolding list_text grouped_text
grouped_len {X = X} place text xs =
    let flat : length (flat_map text (flattened (groups_of place xs))) ≡ length (flat_map text xs) = ap (λ (l : List X). length (flat_map text l)) (groups_flat place xs) in
    omega (arith, length-append (number w16 (length (groups_of place xs))) (flat_map (group_text text) (groups_of place xs)), len16 (length (groups_of place xs)), groups_len text (groups_of place xs), flat)

pub grouped_len_else : {X : Type 0} (version : ℕ) (place : X → ℕ × ℕ) (text : X → List ℕ) (xs : List X) → version ≢ 1 → length (list_text version place text xs) ≡ 2 + 4 * length (groups_of place xs) + length (flat_map text xs)
unfolding list_text
grouped_len_else version place text xs never =
    let other : eqb version 1 ≡ false = not_same version 1 never in
    rw other (grouped_len place text xs)

-- at most four bytes for each element, whose own bytes are at most so many
pub list_most : {X : Type 0} (place : X → ℕ × ℕ) (text : X → List ℕ) (version beside : ℕ) (xs : List X) → (version ≡ 1) ⊎ (version ≡ 2) → length (flat_map text xs) ≤ beside → length (list_text version place text xs) ≤ 2 + 4 * length xs + beside
list_most place text version beside xs which most =
    elim which [
      | inl one ↦ rw one (omega (arith, counted_len place text xs, most))
      | inr two ↦ rw two (omega (arith, grouped_len place text xs, groups_no_more place xs, most))
    ]

ends_most : (vs : List VersionKey) → length (flat_map keyed_end_text vs) ≤ 16 * length vs
ends_most [] = omega arith
ends_most (v ∷ vs) =
    let cons : length (flat_map keyed_end_text (v ∷ vs)) ≡ length (keyed_end_text v) + length (flat_map keyed_end_text vs) = ap length (flat_map-cons keyed_end_text v vs) ∙ length-append (keyed_end_text v) (flat_map keyed_end_text vs) in
    omega (arith, cons, keyed_end_len v, ends_most vs)

rows_most : (rs : List (ℕ × ℕ × RowValue)) → AllByRecursion RowFits rs → length (flat_map keyed_row_text rs) ≤ 4110 * length rs
rows_most [] h = omega arith
rows_most (r ∷ rs) h =
    let cons : length (flat_map keyed_row_text (r ∷ rs)) ≡ length (keyed_row_text r) + length (flat_map keyed_row_text rs) = ap length (flat_map-cons keyed_row_text r rs) ∙ length-append (keyed_row_text r) (flat_map keyed_row_text rs) in
    let fits : length r.2.body ≤ 4096 = h.0.body in
    omega (arith, cons, keyed_row_len r, fits, rows_most rs h.1)

-- ---- items

pub record CountsFit (e : EntryValue) : Type 0 where
  pub ends : length e.ends ≤ 1024
  pub rows : length e.rows ≤ 1024
  pub some : 1 ≤ length e.ends + length e.rows

pub counts_are : (e : EntryValue) → IsEntry e → CountsFit e
counts_are e h =
    let a = both (ltb (length e.ends) 1025 && ltb (length e.rows) 1025) (ltb 0 (length e.ends + length e.rows)) h.counts in
    let b = both (ltb (length e.ends) 1025) (ltb (length e.rows) 1025) a.0 in
    let x : length e.ends < 1025 = ltb-true _ _ b.0 in
    let y : length e.rows < 1025 = ltb-true _ _ b.1 in
    let z : 0 < length e.ends + length e.rows = ltb-true _ _ a.1 in
    record { ends = omega (arith, x); rows = omega (arith, y); some = omega (arith, z) }

pub mark_rest_len : (version : ℕ) (k : MarkValue) → length (version_text version (Closed k)) ≡ 28
unfolding version_text mark_text
mark_rest_len version k = simp (length-append, head_len, len64) refl

pub entry_rest_len : (version : ℕ) (e : EntryValue) → length (version_text version (Commit e)) ≡ 28 + length (ends_text version e.ends) + length (rows_text version e.rows)
unfolding version_text entry_text
entry_rest_len version e = simp (length-append, head_len, len64) (omega arith)

pub list_least : {X : Type 0} (place : X → ℕ × ℕ) (text : X → List ℕ) (version : ℕ) (xs : List X) → (version ≡ 1) ⊎ (version ≡ 2) → 2 ≤ length (list_text version place text xs)
list_least place text version xs which =
    elim which [
      | inl one ↦ rw one (omega (arith, counted_len place text xs))
      | inr two ↦ rw two (omega (arith, grouped_len place text xs))
    ]

pub rest_least : (version : ℕ) (i : Item) → 28 ≤ length (version_text version i)
rest_least version (Commit e) = omega (arith, entry_rest_len version e)
rest_least version (Closed k) = omega (arith, mark_rest_len version k)

pub rest_most : (version : ℕ) (i : Item) → (version ≡ 1) ⊎ (version ≡ 2) → IsEncodableItem i → length (version_text version i) ≤ 4233248
rest_most version (Commit e) which h =
    let counts = counts_are e h.0 in
    let ends = list_most end_place keyed_end_text version (16 * length e.ends) e.ends which (ends_most e.ends) in
    let rows = list_most row_place keyed_row_text version (4110 * length e.rows) e.rows which (rows_most e.rows h.2) in
    omega (arith, entry_rest_len version e, ends, rows, counts.ends, counts.rows)
rest_most version (Closed k) which h = omega (arith, mark_rest_len version k)

pub encoding_len : (version : ℕ) (i : Item) → length (encoding_of version i) ≡ 4 + length (version_text version i)
unfolding encoded
encoding_len version i = omega (arith, length-append (number w32 (length (version_text version i))) (version_text version i), len32 (length (version_text version i)))
