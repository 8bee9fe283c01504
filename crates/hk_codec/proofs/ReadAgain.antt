-- What is encoded so is read again, whatever follows it.
use Rattle.std.proofs.Common.{◌≡◌, ℕ, ◌+◌, ◌^◌, ◌<◌, ◌≤◌, true, false, eqb, ltb, ◌||◌, ◌⊎◌, List, [], ◌∷◌, ◌++◌, length, map, Option, None, Ok, refl, sym, ap, subst, ◌∙◌, append_assoc, arith, inl, inr}
use Rattle.std.specs.Int.{w16, w32, w64}
use Rattle.std.specs.List.{flat_map, list_all, AllByRecursion}
use Rattle.std.proofs.lemmas.Bool.{ltb-true, le-ltb}
use Rattle.std.proofs.lemmas.List.{take_at, drop_at, append-nil, length-append}
use Rattle.hk_types.specs.Values.{RowValue}
use Rattle.hk_types.specs.declared.version_key.VersionKey.{VersionKey}
use Rattle.hk_log.specs.Items.{EntryValue, MarkValue, IsMark, end_place, row_place, is_after, rise_after, was_born}
use Rattle.hk_log.specs.declared.item.Item.{Item}
use Rattle.hk_log.specs.declared.item.Item.TheVariants.{Commit, Closed}
use Rattle.hk_frames.specs.Fields.{number, byte_at, number_at, bytes_at, body_at}
use Rattle.hk_codec.specs.Encoding.{WrittenItem, keyed_end_text, keyed_row_text, ends_text, rows_text, head_text, entry_text, mark_text, version_text, rest_text, EndFits, RowFits, IsEncodableItem, IsWritten}
use Rattle.hk_codec.specs.Lists.{tabled_text, counted_text, groups_of, group_text, grouped_text, list_text, groups_at}
use Rattle.hk_codec.specs.Reading.{HeadValue, keyed_end_at, keyed_row_at, end_at, row_at, moment_at, counted_ends_at, counted_rows_at, grouped_ends_at, grouped_rows_at, ends_of_version, rows_of_version, entry_at, mark_at, head_at, kind_at, item_at}
use Rattle.hk_frames.proofs.ReadingSteps.{both}
use Rattle.hk_frames.proofs.Numbers.{wide16, wide32, wide64, number_again}
use Rattle.hk_codec.proofs.ListsRead.{list_again}
use Rattle.hk_codec.proofs.Lengths.{counts_are}
use Rattle.hk_codec.proofs.LongestRuns.{flattened, groups_flat, groups_no_more, groups_some, rising_groups, starts_above_none, OneOf, AgainOne, groups_again}
use Rattle.hk_codec.proofs.ReadFields.{EndIs}

pub again16 : (n : ℕ) (rest : List ℕ) → n < 2 ^ 16 → number_at w16 (number w16 n ++ rest) ≡ Ok (n, rest)
again16 n rest lt = number_again w16 (2 ^ 16) wide16 n rest lt

pub again32 : (n : ℕ) (rest : List ℕ) → n < 2 ^ 32 → number_at w32 (number w32 n ++ rest) ≡ Ok (n, rest)
again32 n rest lt = number_again w32 (2 ^ 32) wide32 n rest lt

pub again64 : (n : ℕ) (rest : List ℕ) → n < 2 ^ 64 → number_at w64 (number w64 n ++ rest) ≡ Ok (n, rest)
again64 n rest lt = number_again w64 (2 ^ 64) wide64 n rest lt

pub below : (a b : ℕ) → a ≤ b → ltb b a ≡ false
below a b le = le-ltb _ _ le

mark_again : (k : MarkValue) (rest : List ℕ) → IsMark k → mark_at k.log k.stream (mark_text k ++ rest) ≡ Ok (k, rest)
unfolding mark_at mark_text
mark_again k rest h =
    let regrouped : (number w64 k.count ++ number w64 k.upto) ++ rest ≡ number w64 k.count ++ (number w64 k.upto ++ rest) = append_assoc (number w64 k.count) (number w64 k.upto) rest in
    let n_m : ltb k.upto k.count ≡ false = below k.count k.upto h.count in
    let m_last : ltb (2 ^ 62) k.upto ≡ false = below k.upto (2 ^ 62) h.upto in
    ap (mark_at k.log k.stream) regrouped ∙ rw (again64 k.count (number w64 k.upto ++ rest) (omega (arith, h.count, h.upto)), again64 k.upto rest (omega (arith, h.upto)), n_m, m_last) refl

head_again : (h : HeadValue) (rest : List ℕ) → (eqb h.version 1 || eqb h.version 2) ≡ true → (eqb h.kind 1 || eqb h.kind 2) ≡ true → h.log < 2 ^ 64 → 1 ≤ h.stream → h.stream ≤ 64 → head_at (head_text h.version h.kind h.log h.stream ++ rest) ≡ Ok (h, rest)
unfolding head_at head_text byte_at
head_again h rest version kind log least most =
    let regrouped : (h.version ∷ h.kind ∷ (number w64 h.log ++ number w16 h.stream)) ++ rest ≡ h.version ∷ h.kind ∷ (number w64 h.log ++ (number w16 h.stream ++ rest)) = ap (λ (t : List ℕ). h.version ∷ h.kind ∷ t) (append_assoc (number w64 h.log) (number w16 h.stream) rest) in
    let low : ltb h.stream 1 ≡ false = below 1 h.stream least in
    let high : ltb 64 h.stream ≡ false = below h.stream 64 most in
    ap head_at regrouped ∙ rw (version, kind, again64 h.log (number w16 h.stream ++ rest) log, again16 h.stream rest (omega (arith, most)), low, high) refl

keyed_end_again : (time : ℕ) → time ≤ 2 ^ 62 → (table : ℕ) (before : Option (ℕ × ℕ)) (v : VersionKey) (rest : List ℕ) → EndIs time v × ((end_place v).0 ≡ table) → is_after before (end_place v) ≡ true → keyed_end_at time table before (keyed_end_text v ++ rest) ≡ Ok (v, rest)
unfolding keyed_end_at keyed_end_text
keyed_end_again time last table before v rest h after =
    let regrouped : (number w64 v.key ++ number w64 v.born) ++ rest ≡ number w64 v.key ++ (number w64 v.born ++ rest) = append_assoc (number w64 v.key) (number w64 v.born) rest in
    let b = both (ltb 0 v.born) (ltb v.born time) h.0.born in
    let born : v.born < time = ltb-true _ _ b.1 in
    let here : keyed_end_at time v.table before ((number w64 v.key ++ number w64 v.born) ++ rest) ≡ Ok (v, rest) = ap (keyed_end_at time v.table before) regrouped ∙ rw (again64 v.key (number w64 v.born ++ rest) h.0.fits.key, again64 v.born rest (omega arith), after, b.0, b.1) refl in
    subst (λ (t : ℕ). keyed_end_at time t before ((number w64 v.key ++ number w64 v.born) ++ rest) ≡ Ok (v, rest)) h.1 here

end_again : (time : ℕ) → time ≤ 2 ^ 62 → (before : Option (ℕ × ℕ)) (v : VersionKey) (rest : List ℕ) → EndIs time v → is_after before (end_place v) ≡ true → end_at time before (tabled_text end_place keyed_end_text v ++ rest) ≡ Ok (v, rest)
unfolding end_at tabled_text
end_again time last before v rest h after =
    ap (end_at time before) (append_assoc (number w16 v.table) (keyed_end_text v) rest) ∙ rw (again16 v.table (keyed_end_text v ++ rest) h.fits.table) (keyed_end_again time last v.table before v rest (h, refl) after)

pub body_again : (body rest : List ℕ) → length body ≤ 4096 → body_at (number w16 (length body) ++ (body ++ rest)) ≡ Ok (body, rest)
unfolding body_at bytes_at
body_again body rest most =
    let fits : ltb 4096 (length body) ≡ false = below (length body) 4096 most in
    let long : ltb (length (body ++ rest)) (length body) ≡ false = le-ltb _ _ (omega (arith, length-append body rest)) in
    rw (again16 (length body) (body ++ rest) (omega (arith, most)), fits, long, take_at body rest (length body) refl, drop_at body rest (length body) refl) refl

keyed_row_again : (table : ℕ) (before : Option (ℕ × ℕ)) (r : ℕ × ℕ × RowValue) (rest : List ℕ) → RowFits r × ((row_place r).0 ≡ table) → is_after before (row_place r) ≡ true → keyed_row_at table before (keyed_row_text r ++ rest) ≡ Ok (r, rest)
unfolding keyed_row_at keyed_row_text
keyed_row_again table before r rest h after =
    let regrouped : (number w64 r.1 ++ (number w32 r.2.tag ++ (number w16 (length r.2.body) ++ r.2.body))) ++ rest ≡ number w64 r.1 ++ (number w32 r.2.tag ++ (number w16 (length r.2.body) ++ (r.2.body ++ rest))) = simp append_assoc in
    let here : keyed_row_at r.0 before ((number w64 r.1 ++ (number w32 r.2.tag ++ (number w16 (length r.2.body) ++ r.2.body))) ++ rest) ≡ Ok (r, rest) = ap (keyed_row_at r.0 before) regrouped ∙ rw (again64 r.1 (number w32 r.2.tag ++ (number w16 (length r.2.body) ++ (r.2.body ++ rest))) h.0.key, after, again32 r.2.tag (number w16 (length r.2.body) ++ (r.2.body ++ rest)) h.0.tag, body_again r.2.body rest h.0.body) refl in
    subst (λ (t : ℕ). keyed_row_at t before ((number w64 r.1 ++ (number w32 r.2.tag ++ (number w16 (length r.2.body) ++ r.2.body))) ++ rest) ≡ Ok (r, rest)) h.1 here

row_again : (before : Option (ℕ × ℕ)) (r : ℕ × ℕ × RowValue) (rest : List ℕ) → RowFits r → is_after before (row_place r) ≡ true → row_at before (tabled_text row_place keyed_row_text r ++ rest) ≡ Ok (r, rest)
unfolding row_at tabled_text
row_again before r rest h after =
    ap (row_at before) (append_assoc (number w16 r.0) (keyed_row_text r) rest) ∙ rw (again16 r.0 (keyed_row_text r ++ rest) h.table) (keyed_row_again r.0 before r rest (h, refl) after)

ends_are : (time : ℕ) (vs : List VersionKey) → AllByRecursion EndFits vs → list_all (was_born time) vs ≡ true → AllByRecursion (EndIs time) vs
ends_are time [] h born = tt
ends_are time (v ∷ vs) h born =
    let b = both (was_born time v) (list_all (was_born time) vs) born in
    (record { fits = h.0; born = b.0 }, ends_are time vs h.1 b.1)

moment_again : (n time : ℕ) (rest : List ℕ) → 1 ≤ n → n ≤ time → time ≤ 2 ^ 62 → moment_at (number w64 n ++ (number w64 time ++ rest)) ≡ Ok ((n, time), rest)
unfolding moment_at
moment_again n time rest least most last =
    let a : ltb n 1 ≡ false = below 1 n least in
    let b : ltb time n ≡ false = below n time most in
    let c : ltb (2 ^ 62) time ≡ false = below time (2 ^ 62) last in
    rw (again64 n (number w64 time ++ rest) (omega arith), again64 time rest (omega arith), a, b, c) refl

counted_ends_again : (time : ℕ) (vs : List VersionKey) (rest : List ℕ) → time ≤ 2 ^ 62 → length vs ≤ 1024 → AllByRecursion (EndIs time) vs → rise_after None (map end_place vs) ≡ true → counted_ends_at time (counted_text end_place keyed_end_text vs ++ rest) ≡ Ok (vs, rest)
unfolding counted_ends_at counted_text
counted_ends_again time vs rest last most h rises =
    let a : ltb 1024 (length vs) ≡ false = below (length vs) 1024 most in
    let text = flat_map (tabled_text end_place keyed_end_text) vs in
    ap (counted_ends_at time) (append_assoc (number w16 (length vs)) text rest)
    ∙ rw (again16 (length vs) (text ++ rest) (omega arith), a) (list_again end_place (end_at time) (tabled_text end_place keyed_end_text) (EndIs time) (end_again time last) vs None rest h rises)

counted_rows_again : (ends : ℕ) (rs : List (ℕ × ℕ × RowValue)) (rest : List ℕ) → length rs ≤ 1024 → 1 ≤ ends + length rs → AllByRecursion RowFits rs → rise_after None (map row_place rs) ≡ true → counted_rows_at ends (counted_text row_place keyed_row_text rs ++ rest) ≡ Ok (rs, rest)
unfolding counted_rows_at counted_text
counted_rows_again ends rs rest most some h rises =
    let a : ltb 1024 (length rs) ≡ false = below (length rs) 1024 most in
    let b : ltb (ends + length rs) 1 ≡ false = below 1 (ends + length rs) some in
    let text = flat_map (tabled_text row_place keyed_row_text) rs in
    ap (counted_rows_at ends) (append_assoc (number w16 (length rs)) text rest)
    ∙ rw (again16 (length rs) (text ++ rest) (omega arith), a, b) (list_again row_place row_at (tabled_text row_place keyed_row_text) RowFits row_again rs None rest h rises)

-- the groups of a list, behind their count, are read as the list
groups_read : {X : Type 0} (place : X → ℕ × ℕ) (one : OneOf X) (text : X → List ℕ) (Fit : X → Type 0) → ((x : X) → Fit x → (place x).0 < 2 ^ 16) → AgainOne place one text Fit → (xs : List X) (rest : List ℕ) → length xs ≤ 1024 → AllByRecursion Fit xs → rise_after None (map place xs) ≡ true → groups_at place one (length (groups_of place xs)) [] (flat_map (group_text text) (groups_of place xs) ++ rest) ≡ Ok (xs, rest)
groups_read {X = X} place one text Fit wide law xs rest most each rises =
    let flat = groups_flat place xs in
    let len : length (flattened (groups_of place xs)) ≡ length xs = ap length flat in
    let fits : AllByRecursion Fit (flattened (groups_of place xs)) = subst (AllByRecursion Fit) (sym flat) each in
    let rising : rise_after None (map place (flattened (groups_of place xs))) ≡ true = subst (λ (l : List X). rise_after None (map place l) ≡ true) (sym flat) rises in
    groups_again place one text Fit wide law (groups_of place xs) [] rest (rising_groups place None xs rises) (starts_above_none (groups_of place xs)) (omega (arith, len, most)) fits rising
    ∙ ap (λ (l : List X). Ok (l, rest)) flat

grouped_ends_again : (time : ℕ) (vs : List VersionKey) (rest : List ℕ) → time ≤ 2 ^ 62 → length vs ≤ 1024 → AllByRecursion (EndIs time) vs → rise_after None (map end_place vs) ≡ true → grouped_ends_at time (grouped_text end_place keyed_end_text vs ++ rest) ≡ Ok (vs, rest)
unfolding grouped_ends_at grouped_text
grouped_ends_again time vs rest last most h rises =
    let count = length (groups_of end_place vs) in
    let few : count ≤ 1024 = omega (arith, groups_no_more end_place vs, most) in
    let a : ltb 1024 count ≡ false = below count 1024 few in
    let text = flat_map (group_text keyed_end_text) (groups_of end_place vs) in
    ap (grouped_ends_at time) (append_assoc (number w16 count) text rest)
    ∙ rw (again16 count (text ++ rest) (omega (arith, few)), a) (groups_read end_place (keyed_end_at time) keyed_end_text (EndIs time) (λ v k. k.fits.table) (keyed_end_again time last) vs rest most h rises)

grouped_rows_again : (ends : ℕ) (rs : List (ℕ × ℕ × RowValue)) (rest : List ℕ) → length rs ≤ 1024 → 1 ≤ ends + length rs → AllByRecursion RowFits rs → rise_after None (map row_place rs) ≡ true → grouped_rows_at ends (grouped_text row_place keyed_row_text rs ++ rest) ≡ Ok (rs, rest)
unfolding grouped_rows_at grouped_text
grouped_rows_again ends rs rest most some h rises =
    let count = length (groups_of row_place rs) in
    let few : count ≤ 1024 = omega (arith, groups_no_more row_place rs, most) in
    let a : ltb 1024 count ≡ false = below count 1024 few in
    let b : ltb (ends + count) 1 ≡ false = below 1 (ends + count) (not_none ends rs some) in
    let text = flat_map (group_text keyed_row_text) (groups_of row_place rs) in
    ap (grouped_rows_at ends) (append_assoc (number w16 count) text rest)
    ∙ rw (again16 count (text ++ rest) (omega (arith, few)), a, b) (groups_read row_place keyed_row_at keyed_row_text RowFits (λ r k. k.table) keyed_row_again rs rest most h rises)
  where
    not_none : (ends : ℕ) (rs : List (ℕ × ℕ × RowValue)) → 1 ≤ ends + length rs → 1 ≤ ends + length (groups_of row_place rs)
    not_none ends [] some = omega (arith, some)
    not_none ends (r ∷ rs) some = omega (arith, groups_some row_place (r ∷ rs) (omega arith))

ends_again : (version time : ℕ) (vs : List VersionKey) (rest : List ℕ) → (version ≡ 1) ⊎ (version ≡ 2) → time ≤ 2 ^ 62 → length vs ≤ 1024 → AllByRecursion (EndIs time) vs → rise_after None (map end_place vs) ≡ true → ends_of_version version time (ends_text version vs ++ rest) ≡ Ok (vs, rest)
unfolding list_text
ends_again version time vs rest which last most h rises =
    elim which [
      | inl one ↦ subst (λ (v : ℕ). ends_of_version v time (ends_text v vs ++ rest) ≡ Ok (vs, rest)) (sym one) (counted_ends_again time vs rest last most h rises)
      | inr two ↦ subst (λ (v : ℕ). ends_of_version v time (ends_text v vs ++ rest) ≡ Ok (vs, rest)) (sym two) (grouped_ends_again time vs rest last most h rises)
    ]

rows_again : (version ends : ℕ) (rs : List (ℕ × ℕ × RowValue)) (rest : List ℕ) → (version ≡ 1) ⊎ (version ≡ 2) → length rs ≤ 1024 → 1 ≤ ends + length rs → AllByRecursion RowFits rs → rise_after None (map row_place rs) ≡ true → rows_of_version version ends (rows_text version rs ++ rest) ≡ Ok (rs, rest)
unfolding list_text
rows_again version ends rs rest which most some h rises =
    elim which [
      | inl one ↦ subst (λ (v : ℕ). rows_of_version v ends (rows_text v rs ++ rest) ≡ Ok (rs, rest)) (sym one) (counted_rows_again ends rs rest most some h rises)
      | inr two ↦ subst (λ (v : ℕ). rows_of_version v ends (rows_text v rs ++ rest) ≡ Ok (rs, rest)) (sym two) (grouped_rows_again ends rs rest most some h rises)
    ]

entry_again : (version : ℕ) (e : EntryValue) (rest : List ℕ) → (version ≡ 1) ⊎ (version ≡ 2) → IsEncodableItem (Commit e) → entry_at version e.log e.stream (entry_text version e ++ rest) ≡ Ok (e, rest)
unfolding entry_at entry_text
entry_again version e rest which h =
    let counts = counts_are e h.0 in
    let regrouped : (number w64 e.number ++ (number w64 e.time ++ (ends_text version e.ends ++ rows_text version e.rows))) ++ rest
    ≡ number w64 e.number ++ (number w64 e.time ++ (ends_text version e.ends ++ (rows_text version e.rows ++ rest))) = simp append_assoc in
    ap (entry_at version e.log e.stream) regrouped ∙
    rw (
      moment_again e.number e.time (ends_text version e.ends ++ (rows_text version e.rows ++ rest)) h.0.number_least h.0.number h.0.time,
      ends_again version e.time e.ends (rows_text version e.rows ++ rest) which h.0.time counts.ends (ends_are e.time e.ends h.1 h.0.born) h.0.ends_rise,
      rows_again version (length e.ends) e.rows rest which counts.rows counts.some h.2 h.0.rows_rise,
    ) refl

is_either : (n : ℕ) → (n ≡ 1) ⊎ (n ≡ 2) → (eqb n 1 || eqb n 2) ≡ true
is_either n which =
    elim which [
      | inl one ↦ rw one refl
      | inr two ↦ rw two refl
    ]

version_again : (version : ℕ) (i : Item) → (version ≡ 1) ⊎ (version ≡ 2) → IsEncodableItem i → item_at (version_text version i) ≡ Ok (record { version = version; item = i })
unfolding item_at kind_at version_text
version_again version (Commit e) which h =
    let none : entry_text version e ++ [] ≡ entry_text version e = append-nil (entry_text version e) in
    let entry : entry_at version e.log e.stream (entry_text version e) ≡ Ok (e, []) = ap (entry_at version e.log e.stream) (sym none) ∙ entry_again version e [] which h in
    rw (head_again (record { version = version; kind = 1; log = e.log; stream = e.stream }) (entry_text version e) (is_either version which) refl h.0.log h.0.stream_least h.0.stream_most, entry) refl
version_again version (Closed k) which h =
    let none : mark_text k ++ [] ≡ mark_text k = append-nil (mark_text k) in
    let mark : mark_at k.log k.stream (mark_text k) ≡ Ok (k, []) = ap (mark_at k.log k.stream) (sym none) ∙ mark_again k [] h in
    rw (head_again (record { version = version; kind = 2; log = k.log; stream = k.stream }) (mark_text k) (is_either version which) refl h.log h.stream_least h.stream_most, mark) refl

pub item_again : (w : WrittenItem) → IsWritten w → item_at (rest_text w) ≡ Ok w
item_again w h = version_again w.version w.item h.0 h.1
