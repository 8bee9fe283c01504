-- Lists, entries and items: what is read is encoded so.
use Rattle.std.proofs.Common.{◌≡◌, ℕ, ◌+◌, ◌^◌, ◌<◌, ◌≤◌, true, cond, eqb, ltb, ◌||◌, ◌⊎◌, List, [], ◌∷◌, ◌++◌, length, map, None, Ok, refl, sym, ap, subst, ◌∙◌, append_assoc, arith, inl, inr}
use Rattle.std.specs.Int.{w16, w64}
use Rattle.std.specs.List.{flat_map, list_all, AllByRecursion}
use Rattle.std.proofs.lemmas.Bool.{ltb-false, lt-ltb, and_from}
use Rattle.std.proofs.lemmas.List.{append-nil, nil_from_length}
use Rattle.hk_types.specs.Values.{RowValue}
use Rattle.hk_types.specs.declared.version_key.VersionKey.{VersionKey}
use Rattle.hk_types.specs.declared.faults.FormFault.TheVariants.{BadNumber, BadCount, WrongLength}
use Rattle.hk_log.specs.Items.{EntryValue, IsEntry, end_place, row_place, rise, was_born}
use Rattle.hk_log.specs.declared.item.Item.{Item}
use Rattle.hk_log.specs.declared.item.Item.TheVariants.{Commit, Closed}
use Rattle.hk_frames.specs.Fields.{IsBytes, ◌>>=◌, check, number, number_at}
use Rattle.hk_codec.specs.Encoding.{WrittenItem, keyed_end_text, keyed_row_text, ends_text, rows_text, head_text, entry_text, mark_text, version_text, rest_text, EndFits, RowFits, IsEncodableItem, IsWritten}
use Rattle.hk_codec.specs.Lists.{tabled_text, counted_text, groups_of, group_text, grouped_text, list_text, groups_at}
use Rattle.hk_codec.specs.Reading.{HeadValue, keyed_end_at, keyed_row_at, end_at, row_at, ends_at, rows_at, moment_at, counted_ends_at, counted_rows_at, grouped_ends_at, grouped_rows_at, ends_of_version, rows_of_version, entry_at, mark_at, head_at, kind_at, item_at}
use Rattle.hk_frames.proofs.ReadingSteps.{bind_ok, check_ok, ok_is, neither, Takes, Takes-then}
use Rattle.hk_frames.proofs.Numbers.{wide16, wide64, number_takes}
use Rattle.hk_codec.proofs.ListsRead.{list_takes}
use Rattle.hk_codec.proofs.LongestRuns.{groups_no_more, longest, GroupsAre, groups_take}
use Rattle.hk_codec.proofs.ReadFields.{HeadFits, head_takes, mark_takes, EndIs, keyed_end_takes, end_takes, keyed_row_takes, row_takes}

-- ---- entries

pub record MomentIs (bytes : List ℕ) (number_ time : ℕ) (rest : List ℕ) : Type 0 where
  pub takes : Takes bytes (number w64 number_ ++ number w64 time) rest
  pub least : 1 ≤ number_
  pub most : number_ ≤ time
  pub last : time ≤ 2 ^ 62

pub moment_takes : (bytes : List ℕ) (x : (ℕ × ℕ) × List ℕ) → IsBytes bytes → moment_at bytes ≡ Ok x → MomentIs bytes x.0.0 x.0.1 x.1
unfolding moment_at
moment_takes bytes x fits e =
    let a = bind_ok (number_at w64 bytes) (λ n. number_at w64 n.1 >>= λ t. check (ltb n.0 1 || ltb t.0 n.0 || ltb (2 ^ 62) t.0) BadNumber >>= λ _. Ok ((n.0, t.0), t.1)) x e in
    let b = bind_ok (number_at w64 a.0.1) (λ t. check (ltb a.0.0 1 || ltb t.0 a.0.0 || ltb (2 ^ 62) t.0) BadNumber >>= λ _. Ok ((a.0.0, t.0), t.1)) x a.2 in
    let c = check_ok (ltb a.0.0 1 || ltb b.0.0 a.0.0 || ltb (2 ^ 62) b.0.0) BadNumber (λ _. Ok ((a.0.0, b.0.0), b.0.1)) x b.2 in
    let t0 = number_takes w64 (2 ^ 64) wide64 bytes a.0 fits a.1 in
    let t1 = number_takes w64 (2 ^ 64) wide64 a.0.1 b.0 t0.0.rest_fits b.1 in
    let s = neither (ltb a.0.0 1 || ltb b.0.0 a.0.0) (ltb (2 ^ 62) b.0.0) c.0 in
    let r = neither (ltb a.0.0 1) (ltb b.0.0 a.0.0) s.0 in
    subst (λ (y : (ℕ × ℕ) × List ℕ). MomentIs bytes y.0.0 y.0.1 y.1) {x = ((a.0.0, b.0.0), b.0.1)} (ok_is ((a.0.0, b.0.0), b.0.1) x c.1)
    (record { takes = Takes-then bytes (number w64 a.0.0) a.0.1 (number w64 b.0.0) b.0.1 t0.0 t1.0; least = ltb-false a.0.0 1 r.0; most = ltb-false b.0.0 a.0.0 r.1; last = ltb-false (2 ^ 62) b.0.0 s.1 })

pub record EndsAre (version time : ℕ) (bytes : List ℕ) (vs : List VersionKey) (rest : List ℕ) : Type 0 where
  pub takes : Takes bytes (ends_text version vs) rest
  pub most : length vs ≤ 1024
  pub each : AllByRecursion (EndIs time) vs
  pub rising : rise (map end_place vs) ≡ true

counted_ends_take : (time : ℕ) (bytes : List ℕ) (x : List VersionKey × List ℕ) → IsBytes bytes → counted_ends_at time bytes ≡ Ok x → EndsAre 1 time bytes x.0 x.1
unfolding counted_ends_at list_text counted_text
counted_ends_take time bytes x fits e =
    let a = bind_ok (number_at w16 bytes) (λ count. check (ltb 1024 count.0) BadCount >>= λ _. ends_at time count.0 None count.1) x e in
    let b = check_ok (ltb 1024 a.0.0) BadCount (λ _. ends_at time a.0.0 None a.0.1) x a.2 in
    let t0 = number_takes w16 (2 ^ 16) wide16 bytes a.0 fits a.1 in
    let t1 = list_takes end_place (end_at time) (tabled_text end_place keyed_end_text) (EndIs time) (end_takes time) a.0.0 None a.0.1 x t0.0.rest_fits b.1 in
    let both = Takes-then bytes (number w16 a.0.0) a.0.1 (flat_map (tabled_text end_place keyed_end_text) x.0) x.1 t0.0 t1.takes in
    let most : a.0.0 ≤ 1024 = ltb-false 1024 a.0.0 b.0 in
    record {
      takes = subst (λ (k : ℕ). Takes bytes (number w16 k ++ flat_map (tabled_text end_place keyed_end_text) x.0) x.1) (sym t1.len) both;
      most = omega (arith, t1.len);
      each = t1.each;
      rising = t1.rising;
    }

-- groups that were read behind their count, where nothing was read before
record ReadGroups {X : Type 0} (place : X → ℕ × ℕ) (text : X → List ℕ) (Fit : X → Type 0) (n : ℕ) (bytes : List ℕ) (xs : List X) (rest : List ℕ) : Type 0 where
  takes : Takes bytes (grouped_text place text xs) rest
  count : length (groups_of place xs) ≡ n
  most : length xs ≤ 1024
  each : AllByRecursion Fit xs
  rising : rise (map place xs) ≡ true

read_groups : {X : Type 0} (place : X → ℕ × ℕ) (text : X → List ℕ) (Fit : X → Type 0) (bytes : List ℕ) (n : ℕ × List ℕ) (x : List X × List ℕ) → Takes bytes (number w16 n.0) n.1 → GroupsAre place text Fit n.0 [] n.1 x.0 x.1 → ReadGroups place text Fit n.0 bytes x.0 x.1
unfolding grouped_text
read_groups {X = X} place text Fit bytes n x t h =
    let same : groups_of place x.0 ≡ h.groups = ap (groups_of place) h.all_is ∙ longest place h.groups h.are in
    let both_ = Takes-then bytes (number w16 n.0) n.1 (flat_map (group_text text) h.groups) x.1 t h.takes in
    let counted : Takes bytes (number w16 (length h.groups) ++ flat_map (group_text text) h.groups) x.1 = subst (λ (k : ℕ). Takes bytes (number w16 k ++ flat_map (group_text text) h.groups) x.1) (sym h.len) both_ in
    record {
      takes = subst (λ (gs : List (ℕ × List X)). Takes bytes (number w16 (length gs) ++ flat_map (group_text text) gs) x.1) (sym same) counted;
      count = ap length same ∙ h.len;
      most = h.most (omega arith);
      each = subst (AllByRecursion Fit) (sym h.all_is) h.each;
      rising = subst (λ (l : List X). rise (map place l) ≡ true) (sym h.all_is) h.rising;
    }

grouped_ends_take : (time : ℕ) (bytes : List ℕ) (x : List VersionKey × List ℕ) → IsBytes bytes → grouped_ends_at time bytes ≡ Ok x → EndsAre 2 time bytes x.0 x.1
unfolding grouped_ends_at list_text
grouped_ends_take time bytes x fits e =
    let a = bind_ok (number_at w16 bytes) (λ count. check (ltb 1024 count.0) BadCount >>= λ _. groups_at end_place (keyed_end_at time) count.0 [] count.1) x e in
    let b = check_ok (ltb 1024 a.0.0) BadCount (λ _. groups_at end_place (keyed_end_at time) a.0.0 [] a.0.1) x a.2 in
    let t0 = number_takes w16 (2 ^ 16) wide16 bytes a.0 fits a.1 in
    let t1 = groups_take end_place (keyed_end_at time) keyed_end_text (EndIs time) (keyed_end_takes time) a.0.0 [] a.0.1 x t0.0.rest_fits b.1 in
    let g = read_groups end_place keyed_end_text (EndIs time) bytes a.0 x t0.0 t1 in
    record { takes = g.takes; most = g.most; each = g.each; rising = g.rising }

pub ends_take : (version time : ℕ) (bytes : List ℕ) (x : List VersionKey × List ℕ) → (version ≡ 1) ⊎ (version ≡ 2) → IsBytes bytes → ends_of_version version time bytes ≡ Ok x → EndsAre version time bytes x.0 x.1
ends_take version time bytes x which fits e =
    elim which [
      | inl one ↦ subst (λ (v : ℕ). EndsAre v time bytes x.0 x.1) (sym one) (counted_ends_take time bytes x fits (subst (λ (v : ℕ). ends_of_version v time bytes ≡ Ok x) one e))
      | inr two ↦ subst (λ (v : ℕ). EndsAre v time bytes x.0 x.1) (sym two) (grouped_ends_take time bytes x fits (subst (λ (v : ℕ). ends_of_version v time bytes ≡ Ok x) two e))
    ]

pub record RowsAre (version ends : ℕ) (bytes : List ℕ) (rs : List (ℕ × ℕ × RowValue)) (rest : List ℕ) : Type 0 where
  pub takes : Takes bytes (rows_text version rs) rest
  pub most : length rs ≤ 1024
  pub some : 1 ≤ ends + length rs
  pub each : AllByRecursion RowFits rs
  pub rising : rise (map row_place rs) ≡ true

counted_rows_take : (ends : ℕ) (bytes : List ℕ) (x : List (ℕ × ℕ × RowValue) × List ℕ) → IsBytes bytes → counted_rows_at ends bytes ≡ Ok x → RowsAre 1 ends bytes x.0 x.1
unfolding counted_rows_at list_text counted_text
counted_rows_take ends bytes x fits e =
    let a = bind_ok (number_at w16 bytes) (λ count. check (ltb 1024 count.0 || ltb (ends + count.0) 1) BadCount >>= λ _. rows_at count.0 None count.1) x e in
    let b = check_ok (ltb 1024 a.0.0 || ltb (ends + a.0.0) 1) BadCount (λ _. rows_at a.0.0 None a.0.1) x a.2 in
    let s = neither (ltb 1024 a.0.0) (ltb (ends + a.0.0) 1) b.0 in
    let t0 = number_takes w16 (2 ^ 16) wide16 bytes a.0 fits a.1 in
    let t1 = list_takes row_place row_at (tabled_text row_place keyed_row_text) RowFits row_takes a.0.0 None a.0.1 x t0.0.rest_fits b.1 in
    let both = Takes-then bytes (number w16 a.0.0) a.0.1 (flat_map (tabled_text row_place keyed_row_text) x.0) x.1 t0.0 t1.takes in
    let most : a.0.0 ≤ 1024 = ltb-false 1024 a.0.0 s.0 in
    let some : 1 ≤ ends + a.0.0 = ltb-false (ends + a.0.0) 1 s.1 in
    record {
      takes = subst (λ (k : ℕ). Takes bytes (number w16 k ++ flat_map (tabled_text row_place keyed_row_text) x.0) x.1) (sym t1.len) both;
      most = omega (arith, t1.len);
      some = omega (arith, t1.len);
      each = t1.each;
      rising = t1.rising;
    }

grouped_rows_take : (ends : ℕ) (bytes : List ℕ) (x : List (ℕ × ℕ × RowValue) × List ℕ) → IsBytes bytes → grouped_rows_at ends bytes ≡ Ok x → RowsAre 2 ends bytes x.0 x.1
unfolding grouped_rows_at list_text
grouped_rows_take ends bytes x fits e =
    let a = bind_ok (number_at w16 bytes) (λ count. check (ltb 1024 count.0 || ltb (ends + count.0) 1) BadCount >>= λ _. groups_at row_place keyed_row_at count.0 [] count.1) x e in
    let b = check_ok (ltb 1024 a.0.0 || ltb (ends + a.0.0) 1) BadCount (λ _. groups_at row_place keyed_row_at a.0.0 [] a.0.1) x a.2 in
    let s = neither (ltb 1024 a.0.0) (ltb (ends + a.0.0) 1) b.0 in
    let t0 = number_takes w16 (2 ^ 16) wide16 bytes a.0 fits a.1 in
    let t1 = groups_take row_place keyed_row_at keyed_row_text RowFits keyed_row_takes a.0.0 [] a.0.1 x t0.0.rest_fits b.1 in
    let g = read_groups row_place keyed_row_text RowFits bytes a.0 x t0.0 t1 in
    let some : 1 ≤ ends + a.0.0 = ltb-false (ends + a.0.0) 1 s.1 in
    record { takes = g.takes; most = g.most; some = omega (arith, g.count, groups_no_more row_place x.0); each = g.each; rising = g.rising }

pub rows_take : (version ends : ℕ) (bytes : List ℕ) (x : List (ℕ × ℕ × RowValue) × List ℕ) → (version ≡ 1) ⊎ (version ≡ 2) → IsBytes bytes → rows_of_version version ends bytes ≡ Ok x → RowsAre version ends bytes x.0 x.1
rows_take version ends bytes x which fits e =
    elim which [
      | inl one ↦ subst (λ (v : ℕ). RowsAre v ends bytes x.0 x.1) (sym one) (counted_rows_take ends bytes x fits (subst (λ (v : ℕ). rows_of_version v ends bytes ≡ Ok x) one e))
      | inr two ↦ subst (λ (v : ℕ). RowsAre v ends bytes x.0 x.1) (sym two) (grouped_rows_take ends bytes x fits (subst (λ (v : ℕ). rows_of_version v ends bytes ≡ Ok x) two e))
    ]

all_born : (time : ℕ) (vs : List VersionKey) → AllByRecursion (EndIs time) vs → list_all (was_born time) vs ≡ true
all_born time [] h = refl
all_born time (v ∷ vs) h = and_from _ _ h.0.born (all_born time vs h.1)

all_fit : (time : ℕ) (vs : List VersionKey) → AllByRecursion (EndIs time) vs → AllByRecursion EndFits vs
all_fit time [] h = tt
all_fit time (v ∷ vs) h = (h.0.fits, all_fit time vs h.1)

-- the parts that were read make an entry
pub is_entry : (version log stream n time : ℕ) (vs : List VersionKey) (rs : List (ℕ × ℕ × RowValue)) (a b c d : List ℕ) → log < 2 ^ 64 → 1 ≤ stream → stream ≤ 64
    → MomentIs a n time b → EndsAre version time b vs c → RowsAre version (length vs) c rs d → IsEntry (record { log = log; stream = stream; number = n; time = time; ends = vs; rows = rs })
is_entry version log stream n time vs rs a b c d log_fits least most m es re =
    let e-most : ltb (length vs) 1025 ≡ true = lt-ltb _ _ (omega (arith, es.most)) in
    let r-most : ltb (length rs) 1025 ≡ true = lt-ltb _ _ (omega (arith, re.most)) in
    let some : ltb 0 (length vs + length rs) ≡ true = lt-ltb _ _ (omega (arith, re.some)) in
    record {
      log = log_fits;
      stream_least = least;
      stream_most = most;
      number_least = m.least;
      number = m.most;
      time = m.last;
      counts = and_from _ _ (and_from _ _ e-most r-most) some;
      ends_rise = es.rising;
      rows_rise = re.rising;
      born = all_born time vs es.each;
    }

pub entry_takes : (version log stream : ℕ) (bytes : List ℕ) (x : EntryValue × List ℕ) → (version ≡ 1) ⊎ (version ≡ 2) → log < 2 ^ 64 → 1 ≤ stream → stream ≤ 64 → IsBytes bytes → entry_at version log stream bytes ≡ Ok x
    → Takes bytes (entry_text version x.0) x.1 × IsEncodableItem (Commit x.0) × (x.0.log ≡ log) × (x.0.stream ≡ stream)
unfolding entry_at entry_text
entry_takes version log stream bytes x which log_fits least most fits e =
    let made = λ (m : (ℕ × ℕ) × List ℕ) (es : List VersionKey × List ℕ) (rs : List (ℕ × ℕ × RowValue) × List ℕ). let y : EntryValue × List ℕ = (record { log = log; stream = stream; number = m.0.0; time = m.0.1; ends = es.0; rows = rs.0 }, rs.1) in y in
    let a = bind_ok (moment_at bytes) (λ m. ends_of_version version m.0.1 m.1 >>= λ es. rows_of_version version (length es.0) es.1 >>= λ rs. Ok (made m es rs)) x e in
    let b = bind_ok (ends_of_version version a.0.0.1 a.0.1) (λ es. rows_of_version version (length es.0) es.1 >>= λ rs. Ok (made a.0 es rs)) x a.2 in
    let c = bind_ok (rows_of_version version (length b.0.0) b.0.1) (λ rs. Ok (made a.0 b.0 rs)) x b.2 in
    let m = moment_takes bytes a.0 fits a.1 in
    let es = ends_take version a.0.0.1 a.0.1 b.0 which m.takes.rest_fits b.1 in
    let re = rows_take version (length b.0.0) b.0.1 c.0 which es.takes.rest_fits c.1 in
    let e12 = Takes-then a.0.1 (ends_text version b.0.0) b.0.1 (rows_text version c.0.0) c.0.1 es.takes re.takes in
    let e02 = Takes-then bytes (number w64 a.0.0.0 ++ number w64 a.0.0.1) a.0.1 (ends_text version b.0.0 ++ rows_text version c.0.0) c.0.1 m.takes e12 in
    let regrouped : (number w64 a.0.0.0 ++ number w64 a.0.0.1) ++ (ends_text version b.0.0 ++ rows_text version c.0.0) ≡ number w64 a.0.0.0 ++ (number w64 a.0.0.1 ++ (ends_text version b.0.0 ++ rows_text version c.0.0)) = append_assoc (number w64 a.0.0.0) (number w64 a.0.0.1) (ends_text version b.0.0 ++ rows_text version c.0.0) in
    let whole = subst (λ (t : List ℕ). Takes bytes t c.0.1) {x = (number w64 a.0.0.0 ++ number w64 a.0.0.1) ++ (ends_text version b.0.0 ++ rows_text version c.0.0)} {y = number w64 a.0.0.0 ++ (number w64 a.0.0.1 ++ (ends_text version b.0.0 ++ rows_text version c.0.0))} regrouped e02 in
    let lawful = is_entry version log stream a.0.0.0 a.0.0.1 b.0.0 c.0.0 bytes a.0.1 b.0.1 c.0.1 log_fits least most m es re in
    subst (λ (y : EntryValue × List ℕ). Takes bytes (number w64 y.0.number ++ (number w64 y.0.time ++ (ends_text version y.0.ends ++ rows_text version y.0.rows))) y.1 × IsEncodableItem (Commit y.0) × (y.0.log ≡ log) × (y.0.stream ≡ stream)) {x = (made a.0 b.0 c.0)} (ok_is (made a.0 b.0 c.0) x c.2)
    (whole, (lawful, all_fit a.0.0.1 b.0.0 es.each, re.each), refl, refl)

-- ---- items

kind_takes : (h : HeadValue) (a bytes : List ℕ) (x : Item × List ℕ) → HeadFits h → Takes a (head_text h.version h.kind h.log h.stream) bytes → kind_at h bytes ≡ Ok x → Takes a (version_text h.version x.0) x.1 × IsEncodableItem x.0
unfolding kind_at version_text
kind_takes h a bytes x fits t e =
    elim fits.kind [
      | inl one ↦
          let e1 : (entry_at h.version h.log h.stream bytes >>= λ y. Ok (Commit y.0, y.1)) ≡ Ok x = subst (λ (k : ℕ). cond (eqb k 1) (entry_at h.version h.log h.stream bytes >>= λ y. Ok (Commit y.0, y.1)) (mark_at h.log h.stream bytes >>= λ y. Ok (Closed y.0, y.1)) ≡ Ok x) one e in
          let b = bind_ok (entry_at h.version h.log h.stream bytes) (λ y. Ok (Commit y.0, y.1)) x e1 in
          let y = entry_takes h.version h.log h.stream bytes b.0 fits.version fits.log fits.stream_least fits.stream_most t.rest_fits b.1 in
          let t1 = subst (λ (k : ℕ). Takes a (head_text h.version k h.log h.stream) bytes) one t in
          let t2 = subst (λ (k : ℕ). Takes a (head_text h.version 1 k h.stream) bytes) (sym y.2) t1 in
          let t3 = subst (λ (k : ℕ). Takes a (head_text h.version 1 b.0.0.log k) bytes) (sym y.3) t2 in
          let whole = Takes-then a (head_text h.version 1 b.0.0.log b.0.0.stream) bytes (entry_text h.version b.0.0) b.0.1 t3 y.0 in
          subst (λ (z : Item × List ℕ). Takes a (version_text h.version z.0) z.1 × IsEncodableItem z.0) {x = (Commit b.0.0, b.0.1)} (ok_is (Commit b.0.0, b.0.1) x b.2) (whole, y.1)
      | inr two ↦
          let e1 : (mark_at h.log h.stream bytes >>= λ y. Ok (Closed y.0, y.1)) ≡ Ok x = subst (λ (k : ℕ). cond (eqb k 1) (entry_at h.version h.log h.stream bytes >>= λ y. Ok (Commit y.0, y.1)) (mark_at h.log h.stream bytes >>= λ y. Ok (Closed y.0, y.1)) ≡ Ok x) two e in
          let b = bind_ok (mark_at h.log h.stream bytes) (λ y. Ok (Closed y.0, y.1)) x e1 in
          let y = mark_takes h.log h.stream bytes b.0 fits.log fits.stream_least fits.stream_most t.rest_fits b.1 in
          let t1 = subst (λ (k : ℕ). Takes a (head_text h.version k h.log h.stream) bytes) two t in
          let t2 = subst (λ (k : ℕ). Takes a (head_text h.version 2 k h.stream) bytes) (sym y.2) t1 in
          let t3 = subst (λ (k : ℕ). Takes a (head_text h.version 2 b.0.0.log k) bytes) (sym y.3) t2 in
          let whole = Takes-then a (head_text h.version 2 b.0.0.log b.0.0.stream) bytes (mark_text b.0.0) b.0.1 t3 y.0 in
          subst (λ (z : Item × List ℕ). Takes a (version_text h.version z.0) z.1 × IsEncodableItem z.0) {x = (Closed b.0.0, b.0.1)} (ok_is (Closed b.0.0, b.0.1) x b.2) (whole, y.1)
    ]

pub item_takes : (bytes : List ℕ) (w : WrittenItem) → IsBytes bytes → item_at bytes ≡ Ok w → (bytes ≡ rest_text w) × IsWritten w
unfolding item_at
item_takes bytes w fits e =
    let made = λ (h : HeadValue × List ℕ) (x : Item × List ℕ). let y : WrittenItem = record { version = h.0.version; item = x.0 } in y in
    let a = bind_ok (head_at bytes) (λ h. kind_at h.0 h.1 >>= λ x. check (ltb 0 (length x.1)) WrongLength >>= λ _. Ok (made h x)) w e in
    let b = bind_ok (kind_at a.0.0 a.0.1) (λ x. check (ltb 0 (length x.1)) WrongLength >>= λ _. Ok (made a.0 x)) w a.2 in
    let c = check_ok (ltb 0 (length b.0.1)) WrongLength (λ _. Ok (made a.0 b.0)) w b.2 in
    let h = head_takes bytes a.0 fits a.1 in
    let k = kind_takes a.0.0 bytes a.0.1 b.0 h.1 h.0 b.1 in
    let none : length b.0.1 ≤ 0 = ltb-false 0 (length b.0.1) c.0 in
    let nothing : b.0.1 ≡ [] = nil_from_length b.0.1 (omega arith) in
    let whole : bytes ≡ version_text a.0.0.version b.0.0 = k.0.parts ∙ ap (λ (r : List ℕ). version_text a.0.0.version b.0.0 ++ r) nothing ∙ append-nil (version_text a.0.0.version b.0.0) in
    subst (λ (j : WrittenItem). (bytes ≡ rest_text j) × IsWritten j) {x = (made a.0 b.0)} (ok_is (made a.0 b.0) w c.1) (whole, (h.1.version, k.1))
