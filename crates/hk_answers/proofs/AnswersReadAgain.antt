-- Answers: what is read is encoded so, and what is encoded so is read again.
use Rattle.std.proofs.Common.{◌≡◌, ℕ, ◌^◌, ◌<◌, ◌≤◌, true, false, not, ◌&&◌, ltb, List, [], ◌∷◌, ◌++◌, length, Option, Some, None, Ok, refl, sym, ap, ◌∙◌, append_assoc}
use Rattle.std.specs.Int.{w16, w32, w64}
use Rattle.std.specs.List.{flat_map, AllByRecursion}
use Rattle.std.proofs.lemmas.Bool.{ltb-true, lt-ltb, and_from, not-false, not_from_true}
use Rattle.hk_types.specs.Values.{RowValue}
use Rattle.hk_types.specs.declared.faults.FormFault.TheVariants.{BadOrder}
use Rattle.hk_model.specs.Replica.Answers.{AnswerValue, One, Rows, Number}
use Rattle.hk_frames.specs.Fields.{IsBytes, number, number_at, body_at}
use Rattle.hk_frames.proofs.ReadingSteps.{Takes, both as both_true}
use Rattle.hk_codec.proofs.ReadFields.{body_takes}
use Rattle.hk_codec.proofs.ReadAgain.{body_again}
use Rattle.hk_answers.specs.Readers.{both, by_kind, list_by_count, Chained}
use Rattle.hk_answers.specs.Answers.{row_text, keyed_text, presence, present_text, answer_kind, answer_fields, answer_text, key_follows, keys_rise, answer_keeps_rules, RowFits, PresentFits, KeyedFits, AnswerFits, row_at, key_at, keyed_at, rows_at, present_of, answer_of, answer_at}
use Rattle.hk_answers.proofs.ReadersAndEncodings.{IsField, field32, field64, both_field, barred_field, made_field, same_field, counted_field, this_or, made_takes, nothing_takes, made_again, kinded_field}

-- ---- rows

abbrev body_text : List ℕ → List ℕ
body_text body = number w16 (length body) ++ body

body_field : IsField body_at body_text (λ body. length body ≤ 4096)
body_field =
    record {
      takes = λ bytes x fits e. body_takes bytes x fits e;
      again = λ body rest h. ap body_at (append_assoc (number w16 (length body)) body rest) ∙ body_again body rest h;
    }

pub row_field : IsField row_at row_text RowFits
unfolding row_at row_text
row_field =
    made_field (λ (p : ℕ × List ℕ). record { tag = p.0; body = p.1 }) (λ (row : RowValue). (row.tag, row.body)) (both (number_at w32) body_at) (λ p. number w32 p.0 ++ body_text p.1) _ (λ p. (p.0 < 2 ^ 32) × (length p.1 ≤ 4096)) RowFits
    (both_field (number_at w32) body_at (number w32) body_text (λ n. n < 2 ^ 32) (λ body. length body ≤ 4096) field32 body_field)
    (λ p h. (refl, record { tag = h.0; body = h.1 })) (λ row h. (refl, (refl, (h.tag, h.body))))

abbrev KeyFits : Option ℕ → ℕ × RowValue → Type 0
KeyFits before e = ((e.0 < 2 ^ 64) × (not (key_follows before e.0) ≡ false)) × RowFits e.1

keyed_field : (before : Option ℕ) → IsField (keyed_at before) keyed_text (KeyFits before)
unfolding keyed_at keyed_text
keyed_field before =
    both_field (key_at before) row_at (number w64) row_text (λ key. (key < 2 ^ 64) × (not (key_follows before key) ≡ false)) RowFits
    (barred_field (number_at w64) (λ key. not (key_follows before key)) BadOrder (number w64) (λ n. n < 2 ^ 64) field64) row_field

chained : (before : Option ℕ) (rows : List (ℕ × RowValue)) → AllByRecursion KeyedFits rows → keys_rise before rows ≡ true → Chained (λ (e : ℕ × RowValue). e.0) KeyFits before rows
chained before [] h rises = tt
chained before (e ∷ rows) h rises =
    let b = both_true (key_follows before e.0) (keys_rise (Some e.0) rows) rises in
    (((h.0.0, not_from_true (key_follows before e.0) b.0), h.0.1), chained (Some e.0) rows h.1 b.1)

fit_each : (before : Option ℕ) (rows : List (ℕ × RowValue)) → Chained (λ (e : ℕ × RowValue). e.0) KeyFits before rows → AllByRecursion KeyedFits rows
fit_each before [] h = tt
fit_each before (e ∷ rows) h = ((h.0.0.0, h.0.1), fit_each (Some e.0) rows h.1)

rise_all : (before : Option ℕ) (rows : List (ℕ × RowValue)) → Chained (λ (e : ℕ × RowValue). e.0) KeyFits before rows → keys_rise before rows ≡ true
rise_all before [] h = refl
rise_all before (e ∷ rows) h = and_from (key_follows before e.0) (keys_rise (Some e.0) rows) (not-false (key_follows before e.0) h.0.0.1) (rise_all (Some e.0) rows h.1)

abbrev pub AreRows : List (ℕ × RowValue) → Type 0
AreRows rows = AllByRecursion KeyedFits rows × ((ltb (length rows) (2 ^ 32) && keys_rise None rows) ≡ true)

abbrev pub rows_text : List (ℕ × RowValue) → List ℕ
rows_text rows = number w32 (length rows) ++ flat_map keyed_text rows

pub rows_field : IsField rows_at rows_text AreRows
unfolding rows_at
rows_field =
    same_field (list_by_count (λ (e : ℕ × RowValue). e.0) keyed_at) rows_text (λ rows. (length rows < 2 ^ 32) × Chained (λ (e : ℕ × RowValue). e.0) KeyFits None rows) AreRows
    (λ rows h. (fit_each None rows h.1, and_from (ltb (length rows) (2 ^ 32)) (keys_rise None rows) (lt-ltb _ _ h.0) (rise_all None rows h.1)))
    (λ rows h. let b = both_true (ltb (length rows) (2 ^ 32)) (keys_rise None rows) h.1 in (ltb-true _ _ b.0, chained None rows h.0 b.1))
    (counted_field (λ (e : ℕ × RowValue). e.0) keyed_at keyed_text KeyFits keyed_field)

-- ---- one row

abbrev IsPresentOf : ℕ → List ℕ → Option RowValue × List ℕ → Type 0
IsPresentOf k bytes x = (presence x.0 ≡ k) × (Takes bytes (present_text x.0) x.1 × PresentFits x.0)

abbrev some_of : RowValue → Option RowValue
some_of row = Some row

present_takes : (k : ℕ) (bytes : List ℕ) (x : Option RowValue × List ℕ) → IsBytes bytes → present_of k bytes ≡ Ok x → IsPresentOf k bytes x
unfolding present_of
present_takes k bytes x fits e =
    this_or k 0 _ _ x (IsPresentOf k bytes x) e
    (λ is f. nothing_takes None presence present_text PresentFits k (sym is) refl tt bytes x fits f)
    (λ e2. this_or k 1 _ _ x (IsPresentOf k bytes x) e2
    (λ is f. made_takes some_of row_at _ _ row_field presence present_text PresentFits k (λ a. sym is) (λ a. refl) (λ a h. h) bytes x fits f)
    (λ e3. absurd cc))

present_again : (o : Option RowValue) (rest : List ℕ) → PresentFits o → present_of (presence o) (present_text o ++ rest) ≡ Ok (o, rest)
unfolding present_of
present_again None rest h = refl
present_again (Some row) rest h = made_again some_of row_at _ _ row_field row rest h

one_field : IsField (by_kind present_of) (λ row. presence row ∷ present_text row) PresentFits
one_field = kinded_field present_of presence present_text PresentFits (record { takes = present_takes; again = present_again })

-- ---- answers

abbrev pub AnswerKeeps : AnswerValue → Type 0
AnswerKeeps a = AnswerFits a × (answer_keeps_rules a ≡ true)

abbrev one_of : Option RowValue → AnswerValue
one_of row = One row

abbrev rows_of : List (ℕ × RowValue) → AnswerValue
rows_of rows = Rows rows

abbrev number_of : ℕ → AnswerValue
number_of n = Number n

abbrev IsAnswerOf : ℕ → List ℕ → AnswerValue × List ℕ → Type 0
IsAnswerOf k bytes x = (answer_kind x.0 ≡ k) × (Takes bytes (answer_fields x.0) x.1 × AnswerKeeps x.0)

answer_takes : (k : ℕ) (bytes : List ℕ) (x : AnswerValue × List ℕ) → IsBytes bytes → answer_of k bytes ≡ Ok x → IsAnswerOf k bytes x
unfolding answer_of
answer_takes k bytes x fits e =
    this_or k 1 _ _ x (IsAnswerOf k bytes x) e
    (λ is f. made_takes one_of (by_kind present_of) _ _ one_field answer_kind answer_fields AnswerKeeps k (λ a. sym is) (λ a. refl) (λ a h. (h, refl)) bytes x fits f)
    (λ e2. this_or k 2 _ _ x (IsAnswerOf k bytes x) e2
    (λ is f. made_takes rows_of rows_at _ _ rows_field answer_kind answer_fields AnswerKeeps k (λ a. sym is) (λ a. refl) (λ a h. h) bytes x fits f)
    (λ e3. this_or k 3 _ _ x (IsAnswerOf k bytes x) e3
    (λ is f. made_takes number_of (number_at w64) _ _ field64 answer_kind answer_fields AnswerKeeps k (λ a. sym is) (λ a. refl) (λ a h. (h, refl)) bytes x fits f)
    (λ e4. absurd cc)))

answer_again : (a : AnswerValue) (rest : List ℕ) → AnswerKeeps a → answer_of (answer_kind a) (answer_fields a ++ rest) ≡ Ok (a, rest)
unfolding answer_of
answer_again (One row) rest h = made_again one_of (by_kind present_of) _ _ one_field row rest h.0
answer_again (Rows rows) rest h = made_again rows_of rows_at _ _ rows_field rows rest h
answer_again (Number n) rest h = made_again number_of (number_at w64) _ _ field64 n rest h.0

pub answer_field : IsField answer_at answer_text AnswerKeeps
unfolding answer_at answer_text
answer_field = kinded_field answer_of answer_kind answer_fields AnswerKeeps (record { takes = answer_takes; again = answer_again })
