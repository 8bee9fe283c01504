-- What is read of an item where it is passed is its outline.
use Rattle.std.proofs.Common.{◌≡◌, ℕ, List, [], ◌∷◌, ◌++◌, length, map, Option, Result, Ok, Err, refl, sym, ap, ◌∙◌}
use Rattle.hk_types.specs.Values.{RowValue}
use Rattle.hk_types.specs.declared.version_key.VersionKey.{VersionKey}
use Rattle.hk_types.specs.declared.faults.FormFault.{FormFault}
use Rattle.hk_log.specs.Items.{EntryValue, end_place, row_place}
use Rattle.hk_frames.specs.declared.cursor.ReadError.{ReadError}
use Rattle.hk_frames.specs.declared.cursor.ReadError.TheVariants.{Memory, Fault}
use Rattle.hk_frames.specs.Fields.{mapped, Fails}
use Rattle.hk_frames.specs.Framing.{AddsBy}
use Rattle.hk_codec.specs.declared.outline.EntryOutline.{EntryOutline}
use Rattle.hk_codec.specs.declared.outline.ItemOutline.{ItemOutline}
use Rattle.hk_codec.specs.Encoding.{WrittenItem}
use Rattle.hk_codec.specs.Kept.{passed_of, kept_list_at}
use Rattle.hk_codec.proofs.KeptLists.{summed, sums, passed_ends, passed_rows}
use Rattle.hk_codec.specs.Outlines.{item_outline, entry_outline, outline_format, ReadsOutlines, AddsOutlines}
use Rattle.hk_codec.proofs.ItemFrames.{items_join}
use Rattle.std.proofs.lemmas.List.{map-append}
use Rattle.hk_codec.specs.Reading.{keyed_end_at, keyed_row_at, moment_at, ends_of_version, rows_of_version, entry_at}

-- ---- frames

same_outlines : (xs : List ItemOutline) → map (λ (o : ItemOutline). o) xs ≡ xs
same_outlines [] = refl
same_outlines (x ∷ xs) = ap (λ (l : List ItemOutline). x ∷ l) (same_outlines xs)

outlines_of : (ws : List WrittenItem) → map (λ (w : WrittenItem). item_outline w.item) ws ≡ map item_outline (map (λ (w : WrittenItem). w.item) ws)
outlines_of [] = refl
outlines_of (w ∷ ws) = ap (λ (l : List ItemOutline). item_outline w.item ∷ l) (outlines_of ws)

pub outlines_added : (before after : List ItemOutline) (text : List ℕ) (left : Result (List ℕ) FormFault) → AddsBy outline_format before after text left → AddsOutlines before after text left
outlines_added before after text left h =
    (h.0, h.1, (map (λ (w : WrittenItem). w.item) h.2.0, sym (same_outlines h.0) ∙ h.2.1 ∙ outlines_of h.2.0, (h.2.0, refl, h.2.2)))

pub outlines_join : (text more left : List ℕ) (xs ys : List ItemOutline) (r : Result (List ℕ) FormFault) → ReadsOutlines text xs (Ok left) → ReadsOutlines (left ++ more) ys r → ReadsOutlines (text ++ more) (xs ++ ys) r
outlines_join text more left xs ys r h k =
    (h.0 ++ k.0, ap (λ (l : List ItemOutline). l ++ ys) h.1 ∙ ap (λ (l : List ItemOutline). map item_outline h.0 ++ l) k.1 ∙ sym (map-append item_outline h.0 k.0), items_join text more left h.0 k.0 r h.2 k.2)

-- ---- entries

abbrev Read : Type 0 → Type 0
Read X = Result (X × List ℕ) FormFault

abbrev err_of : {A : Type 0} → FormFault → Result A FormFault
err_of f = Err f

abbrev ok_of : {A : Type 0} → A → Result A FormFault
ok_of x = Ok x

err_is : {A : Type 0} (f g : FormFault) → err_of {A = A} f ≡ err_of g → f ≡ g
err_is f g e = cc

ok_is : {A : Type 0} (x y : A) → ok_of x ≡ ok_of y → x ≡ y
ok_is x y e = cc

failed : {A B : Type 0} (f : A → B) (e : FormFault) (r : Result A FormFault) → mapped f r ≡ Err e → r ≡ Err e
failed f e (Ok x) h = absurd cc
failed f e (Err g) h = ap (λ (i : FormFault). Err i) (err_is g e h)

gave : {A B : Type 0} (f : A → B) (y : B) (r : Result A FormFault) → mapped f r ≡ Ok y → (x : A) × (r ≡ Ok x) × (f x ≡ y)
gave f y (Ok x) h = (x, refl, ok_is (f x) y h)
gave f y (Err g) h = absurd cc

abbrev outline_read : EntryValue × List ℕ → EntryOutline × List ℕ
outline_read e = (entry_outline e.0, e.1)

pub no_moment : (version log stream : ℕ) (bytes : List ℕ) (f : FormFault) → moment_at bytes ≡ Err f → mapped outline_read (entry_at version log stream bytes) ≡ Err f
unfolding entry_at
no_moment version log stream bytes f h = rw h refl

-- what is kept of ends and of rows that are passed over
abbrev Sum : Type 0
Sum = ℕ × Option (ℕ × ℕ)

abbrev ends_passed : ℕ → ℕ → List ℕ → Read Sum
ends_passed version time bytes = kept_list_at (passed_of end_place keyed_end_at) version time 1 bytes

abbrev rows_passed : ℕ → ℕ → ℕ → List ℕ → Read Sum
rows_passed version time ends bytes = kept_list_at (passed_of row_place (λ time. keyed_row_at)) version time ends bytes

abbrev sum_of : {X : Type 0} → (X → ℕ × ℕ) → List X × List ℕ → Sum × List ℕ
sum_of place x = (summed place x.0, x.1)

module _ (version log stream : ℕ) (bytes : List ℕ) (m : (ℕ × ℕ) × List ℕ) where
  abbrev outlined : Read EntryOutline
  outlined = mapped outline_read (entry_at version log stream bytes)

  -- the ends that were passed over, and the rows behind them
  ends_there : (s : Sum) (after : List ℕ) → ends_passed version m.0.1 m.1 ≡ Ok (s, after) → (es : List VersionKey × List ℕ) × (ends_of_version version m.0.1 m.1 ≡ Ok es) × (sum_of end_place es ≡ (s, after))
  ends_there s after some = gave (sum_of end_place) (s, after) (ends_of_version version m.0.1 m.1) (sym (passed_ends version m.0.1 m.1) ∙ some)

  rows_behind : (s : Sum) (after : List ℕ) (es : List VersionKey × List ℕ) → sum_of end_place es ≡ (s, after) → rows_passed version m.0.1 s.0 after ≡ sums row_place (rows_of_version version (length es.0) es.1)
  rows_behind s after es same = passed_rows version m.0.1 s.0 after ∙ ap (λ (p : Sum × List ℕ). sums row_place (rows_of_version version p.0.0 p.1)) (sym same)

  pub no_ends : (e : ReadError) → moment_at bytes ≡ Ok m → Fails e (ends_passed version m.0.1 m.1) → Fails e outlined
  unfolding entry_at
  no_ends Memory h none = tt
  no_ends (Fault f) h none = rw (h, failed (sum_of end_place) f (ends_of_version version m.0.1 m.1) (sym (passed_ends version m.0.1 m.1) ∙ none)) refl

  pub no_rows : (e : ReadError) (s : Sum) (after : List ℕ) → moment_at bytes ≡ Ok m → ends_passed version m.0.1 m.1 ≡ Ok (s, after) → Fails e (rows_passed version m.0.1 s.0 after) → Fails e outlined
  unfolding entry_at
  no_rows Memory s after h some none = tt
  no_rows (Fault f) s after h some none =
      let es = ends_there s after some in
      let rows : rows_of_version version (length es.0.0) es.0.1 ≡ Err f = failed (sum_of row_place) f (rows_of_version version (length es.0.0) es.0.1) (sym (rows_behind s after es.0 es.2) ∙ none) in
      rw (h, es.1, rows) refl

  whole : (es : List VersionKey × List ℕ) (rs : List (ℕ × ℕ × RowValue) × List ℕ) → moment_at bytes ≡ Ok m → ends_of_version version m.0.1 m.1 ≡ Ok es → rows_of_version version (length es.0) es.1 ≡ Ok rs
      → outlined ≡ Ok (record { log = log; stream = stream; number = m.0.0; time = m.0.1; ends = length es.0; rows = length rs.0 }, rs.1)
  unfolding entry_at
  whole es rs h some more = rw (h, some, more) refl

  pub has_outline : (s : Sum) (after : List ℕ) (k : Sum) (rest : List ℕ) → moment_at bytes ≡ Ok m → ends_passed version m.0.1 m.1 ≡ Ok (s, after) → rows_passed version m.0.1 s.0 after ≡ Ok (k, rest)
      → outlined ≡ Ok (record { log = log; stream = stream; number = m.0.0; time = m.0.1; ends = s.0; rows = k.0 }, rest)
  has_outline s after k rest h some more =
      let es = ends_there s after some in
      let rs = gave (sum_of row_place) (k, rest) (rows_of_version version (length es.0.0) es.0.1) (sym (rows_behind s after es.0 es.2) ∙ more) in
      let ends : length es.0.0 ≡ s.0 = ap (λ (p : Sum × List ℕ). p.0.0) es.2 in
      whole es.0 rs.0 h es.1 rs.1
      ∙ ap (λ (p : Sum × List ℕ). Ok (record { log = log; stream = stream; number = m.0.0; time = m.0.1; ends = length es.0.0; rows = p.0.0 }, p.1)) rs.2
      ∙ ap (λ (n : ℕ). Ok (record { log = log; stream = stream; number = m.0.0; time = m.0.1; ends = n; rows = k.0 }, rest)) ends
