-- The pages of one time, asked one after another, are the rows of the range.
use Rattle.std.proofs.Common.{◌≡◌, refl, sym, ap, ◌∙◌, subst, ℕ, zero, suc, ◌+◌, ◌<◌, ◌≤◌, Bool, true, false, true≢false, cond, ◌&&◌, ◌==◌, nat_le, nat_lt, nat_cmp, Ordering, Less, Equal, Greater, min, List, [], ◌∷◌, ◌++◌, length, map, filter, take, drop, Result, Ok, Err, T, arith}
use Rattle.std.proofs.lemmas.Bool.{ltb-true}
use Rattle.std.proofs.lemmas.Bool.Decides.{nat_tests}
use Rattle.std.proofs.lemmas.List.{take-append-drop, take_all}
use Rattle.std.specs.Ordering.{is_lt, ordering_then}
use Rattle.std.specs.FinMap as finmap
use Rattle.std.specs.FinMap.Entries.{is_sorted, below_all}
use Rattle.hk_types.specs.Values.{RowValue}
use Rattle.hk_types.specs.declared.faults.Refusal.{Refusal}
use Rattle.hk_types.specs.declared.faults.Refusal.TheVariants.{TooOld, NotYet}
use Rattle.hk_model.specs.History.Rows.{RowKey, row_key_cmp}
use Rattle.hk_model.specs.Replica.Answers.{Rows, visible}
use Rattle.hk_model.specs.Replica.Content.{Content, readable}
use Rattle.hk_model.specs.Replica.Pages.{PageValue, page_len, page_of, page_reply, page_room, row_size, rows_within}
use Rattle.hk_model.proofs.Replica.Visible.{T_both}
use Rattle.hk_query.specs.Pages.{PagesEnd, PagesGoOn, last_key_after}

abbrev Entry : Type 0
Entry = RowKey × RowValue

true_of : (b : Bool) → T b → b ≡ true
true_of true t = refl
true_of false t = absurd t

module _ (table high : ℕ) where
  abbrev between : ℕ → RowKey → Bool
  between low k = (k.table == table) && nat_le low k.key && nat_le k.key high

  abbrev picked : ℕ → List Entry → List (ℕ × RowValue)
  picked low es = map (λ e. (e.0.key, e.1)) (filter (λ e. between low e.0) es)

  -- a list with another entry in front
  abbrev with_front : Bool → ℕ → Entry → List Entry → List (ℕ × RowValue)
  with_front b low e es = map {B = ℕ × RowValue} (λ x. (x.0.key, x.1)) (cond b (e ∷ filter (λ x. between low x.0) es) (filter (λ x. between low x.0) es))

  picked_in : (low : ℕ) (e : Entry) (es : List Entry) → between low e.0 ≡ true → picked low (e ∷ es) ≡ (e.0.key, e.1) ∷ picked low es
  picked_in low e es h = ap (λ b. with_front b low e es) h

  picked_out : (low : ℕ) (e : Entry) (es : List Entry) → between low e.0 ≡ false → picked low (e ∷ es) ≡ picked low es
  picked_out low e es h = ap (λ b. with_front b low e es) h

  -- keys of the table that come after one are above it
  later : (low : ℕ) (k : RowKey) (e : Entry) → is_lt (row_key_cmp k e.0) ≡ true → k.table ≡ table → low ≤ k.key → between (k.key + 1) e.0 ≡ between low e.0
  later low k e lt same le = by (nat_cmp k.table e.0.table) refl lt
    where
      by : (o : Ordering) → nat_cmp k.table e.0.table ≡ o → is_lt (ordering_then o (nat_cmp k.key e.0.key)) ≡ true → between (k.key + 1) e.0 ≡ between low e.0
      by Less h lt = grind (arith, nat_tests)
      by Equal h lt = grind (arith, nat_tests)
      by Greater h lt = absurd (true≢false (sym lt))

  later_picked : (low : ℕ) (k : RowKey) (es : List Entry) → T (below_all row_key_cmp k es) → k.table ≡ table → low ≤ k.key → picked (k.key + 1) es ≡ picked low es
  later_picked low k [] below same le = refl
  later_picked low k (e ∷ es) below same le =
      let both = T_both (is_lt (row_key_cmp k e.0)) (below_all row_key_cmp k es) below in
      let rest = later_picked low k es both.1 same le in
      let here = later low k e (true_of (is_lt (row_key_cmp k e.0)) both.0) same le in
      by (between low e.0) refl here rest
    where
      by : (b : Bool) → between low e.0 ≡ b → between (k.key + 1) e.0 ≡ between low e.0 → picked (k.key + 1) es ≡ picked low es → picked (k.key + 1) (e ∷ es) ≡ picked low (e ∷ es)
      by true h here rest = picked_in (k.key + 1) e es (here ∙ h) ∙ ap (λ (l : List (ℕ × RowValue)). (e.0.key, e.1) ∷ l) rest ∙ sym (picked_in low e es h)
      by false h here rest = picked_out (k.key + 1) e es (here ∙ h) ∙ rest ∙ sym (picked_out low e es h)

  in_table : (low : ℕ) (k : RowKey) → between low k ≡ true → k.table ≡ table
  in_table low k h = grind (arith, nat_tests)

  least : (low : ℕ) (k : RowKey) → between low k ≡ true → low ≤ k.key
  least low k h = grind (arith, nat_tests)

  above : (low : ℕ) (k : RowKey) → k.key < low → between low k ≡ false
  above low k lt = grind (arith, nat_tests)

  still_out : (low more : ℕ) (k : RowKey) → between low k ≡ false → low ≤ more → between more k ≡ false
  still_out low more k h le = grind (arith, nat_tests)

  -- the last of some picked keys is at least what all are
  last_least : (bound low : ℕ) (es : List Entry) (n key : ℕ) → bound ≤ low → bound ≤ key → bound ≤ last_key_after key (take n (picked low es))
  last_least bound low [] zero key le start = start
  last_least bound low [] (suc n) key le start = start
  last_least bound low (e ∷ es) n key le start = by (between low e.0) refl n (λ m k s. last_least bound low es m k le s)
    where
      by : (b : Bool) → between low e.0 ≡ b → (n : ℕ) → ((m k : ℕ) → bound ≤ k → bound ≤ last_key_after k (take m (picked low es))) → bound ≤ last_key_after key (take n (picked low (e ∷ es)))
      by true h zero rest = start
      by true h (suc n) rest =
          let own : bound ≤ e.0.key = (let l = least low e.0 h in omega (arith, le, l)) in
          subst (λ (l : List (ℕ × RowValue)). bound ≤ last_key_after key (take (suc n) l)) (sym (picked_in low e es h)) (rest n e.0.key own)
      by false h n rest = subst (λ (l : List (ℕ × RowValue)). bound ≤ last_key_after key (take n l)) (sym (picked_out low e es h)) (rest n key start)

  -- so it is where there is one, whatever stood before
  last_some : (low : ℕ) (es : List Entry) (n key : ℕ) → suc n ≤ length (picked low es) → low ≤ last_key_after key (take (suc n) (picked low es))
  last_some low [] n key some = absurd (omega (arith, some))
  last_some low (e ∷ es) n key some = by (between low e.0) refl (last_some low es n key)
    where
      by : (b : Bool) → between low e.0 ≡ b → (suc n ≤ length (picked low es) → low ≤ last_key_after key (take (suc n) (picked low es))) → low ≤ last_key_after key (take (suc n) (picked low (e ∷ es)))
      by true h rest = subst (λ (l : List (ℕ × RowValue)). low ≤ last_key_after key (take (suc n) l)) (sym (picked_in low e es h)) (last_least low low es n e.0.key (omega arith) (least low e.0 h))
      by false h rest =
          let out = picked_out low e es h in
          subst (λ (l : List (ℕ × RowValue)). low ≤ last_key_after key (take (suc n) l)) (sym out) (rest (subst (λ (l : List (ℕ × RowValue)). suc n ≤ length l) out some))

  -- the entries above the last of those that were taken are the others
  abbrev Behind : ℕ → List Entry → Type 0
  Behind low es = (m k : ℕ) → suc m ≤ length (picked low es) → picked (last_key_after k (take (suc m) (picked low es)) + 1) es ≡ drop (suc m) (picked low es)

  behind : (low : ℕ) (es : List Entry) → T (is_sorted row_key_cmp es) → (n key : ℕ) → suc n ≤ length (picked low es)
      → picked (last_key_after key (take (suc n) (picked low es)) + 1) es ≡ drop (suc n) (picked low es)
  behind low [] s n key some = absurd (omega (arith, some))
  behind low (e ∷ es) s n key some = by (between low e.0) refl (λ m k h. behind low es (T_both (below_all row_key_cmp e.0 es) (is_sorted row_key_cmp es) s).1 m k h)
    where
      below : T (below_all row_key_cmp e.0 es)
      below = (T_both (below_all row_key_cmp e.0 es) (is_sorted row_key_cmp es) s).0

      from : (rows : List (ℕ × RowValue)) → picked low (e ∷ es) ≡ rows → picked (last_key_after key (take (suc n) rows) + 1) (e ∷ es) ≡ drop (suc n) rows
          → picked (last_key_after key (take (suc n) (picked low (e ∷ es))) + 1) (e ∷ es) ≡ drop (suc n) (picked low (e ∷ es))
      from rows is h = ap (λ (l : List (ℕ × RowValue)). picked (last_key_after key (take (suc n) l) + 1) (e ∷ es)) is ∙ h ∙ ap (drop (suc n)) (sym is)

      after : between low e.0 ≡ true → Behind low es → (m : ℕ) → m ≤ length (picked low es) → picked (last_key_after e.0.key (take m (picked low es)) + 1) es ≡ drop m (picked low es)
      after h rest zero le = later_picked low e.0 es below (in_table low e.0 h) (least low e.0 h)
      after h rest (suc m) le = rest m e.0.key le

      passed : between low e.0 ≡ true → (m : ℕ) → e.0.key ≤ last_key_after e.0.key (take m (picked low es))
      passed h m =
          subst (λ (l : List (ℕ × RowValue)). e.0.key ≤ last_key_after e.0.key (take m l)) (later_picked low e.0 es below (in_table low e.0 h) (least low e.0 h))
          (last_least e.0.key (e.0.key + 1) es m e.0.key (omega arith) (omega arith))

      by : (b : Bool) → between low e.0 ≡ b → Behind low es → picked (last_key_after key (take (suc n) (picked low (e ∷ es))) + 1) (e ∷ es) ≡ drop (suc n) (picked low (e ∷ es))
      by true h rest =
          let is = picked_in low e es h in
          let last = last_key_after e.0.key (take n (picked low es)) in
          let fewer : n ≤ length (picked low es) = (let l = ap length is in omega (arith, l, some)) in
          let le = passed h n in
          from ((e.0.key, e.1) ∷ picked low es) is (picked_out (last + 1) e es (above (last + 1) e.0 (omega (arith, le))) ∙ after h rest n fewer)
      by false h rest =
          let is = picked_out low e es h in
          let last = last_key_after key (take (suc n) (picked low es)) in
          let here : suc n ≤ length (picked low es) = (let l = ap length is in omega (arith, l, some)) in
          let le = last_some low es n key here in
          from (picked low es) is (picked_out (last + 1) e es (still_out low (last + 1) e.0 h (omega (arith, le))) ∙ rest n key here)

-- ---- pages

some_on_page : (most room : ℕ) (rows : List (ℕ × RowValue)) → 0 < most → nat_lt (page_len most room rows) (length rows) ≡ true → 0 < page_len most room rows
some_on_page most room [] some more = absurd (true≢false (sym more))
some_on_page most room (e ∷ rows) some more = omega (arith, some)

module _ (c : Content) (t table low high most : ℕ) where
  abbrev rows : ℕ → List (ℕ × RowValue)
  rows from = picked table high from (finmap.entries (visible c t))

  abbrev replied : Bool → Bool → List (ℕ × RowValue) → Result PageValue Refusal
  replied a b found = page_reply most (cond a (Err (TooOld c.horizon)) (cond b (Err (NotYet (readable c))) (Ok (Rows found))))

  seen : (a b : Bool) (found : List (ℕ × RowValue)) (p : PageValue) → replied a b found ≡ Ok p → (a ≡ false) × (b ≡ false) × (p ≡ page_of most page_room found)
  seen true b found p e = absurd cc
  seen false true found p e = absurd cc
  seen false false found p e = (refl, refl, cc)

  answered : (from : ℕ) → nat_lt t c.horizon ≡ false → nat_lt (readable c) t ≡ false
      → cond (nat_lt t c.horizon) (Err (TooOld c.horizon)) (cond (nat_lt (readable c) t) (Err (NotYet (readable c))) (Ok (Rows (rows from)))) ≡ Ok (Rows (rows from))
  answered from old soon = rw (old, soon) refl

-- the first n rows, where n is not 0, and those of the range above the last of them
cut_there : (table high low : ℕ) (es : List Entry) → T (is_sorted row_key_cmp es) → (n : ℕ) → 0 < n → n ≤ length (picked table high low es)
    → picked table high (last_key_after 0 (take n (picked table high low es)) + 1) es ≡ drop n (picked table high low es)
cut_there table high low es s zero some le = absurd (omega (arith, some))
cut_there table high low es s (suc n) some le = behind table high low es s n 0 le

pub pages_go_on : PagesGoOn
pages_go_on c t table low high most p some e more =
    let found = rows c t table low high most low in
    let known = seen c t table low high most (nat_lt t c.horizon) (nat_lt (readable c) t) found p e in
    let n = page_len most page_room found in
    let more_of : nat_lt n (length found) ≡ true = sym (ap (λ (q : PageValue). q.more) known.2) ∙ more in
    let rows_are : p.rows ≡ take n found = ap (λ (q : PageValue). q.rows) known.2 in
    let within : n ≤ length found = (let l = ltb-true n (length found) more_of in omega (arith, l)) in
    let behind_it = cut_there table high low (finmap.entries (visible c t)) (finmap.entries_sorted (visible c t)) n (some_on_page most page_room found some more_of) within in
    let next = last_key_after 0 p.rows + 1 in
    let rest_is : rows c t table low high most next ≡ drop n found = ap (λ (l : List (ℕ × RowValue)). rows c t table low high most (last_key_after 0 l + 1)) rows_are ∙ behind_it in (
      drop n found,
      answered c t table low high most low known.0 known.1 ∙ ap (λ (l : List (ℕ × RowValue)). Ok (Rows l)) (sym (take-append-drop n found) ∙ ap (λ (l : List (ℕ × RowValue)). l ++ drop n found) (sym rows_are)),
      answered c t table low high most next known.0 known.1 ∙ ap (λ (l : List (ℕ × RowValue)). Ok (Rows l)) rest_is,
    )

pub pages_end : PagesEnd
pages_end c t table low high most p e more =
    let found = rows c t table low high most low in
    let known = seen c t table low high most (nat_lt t c.horizon) (nat_lt (readable c) t) found p e in
    let n = page_len most page_room found in
    let none : nat_lt n (length found) ≡ false = sym (ap (λ (q : PageValue). q.more) known.2) ∙ more in
    let all : length found ≤ n = grind (arith, nat_tests) in
    answered c t table low high most low known.0 known.1
    ∙ ap (λ (l : List (ℕ × RowValue)). Ok (Rows l)) (sym (take_all n found all) ∙ sym (ap (λ (q : PageValue). q.rows) known.2))
