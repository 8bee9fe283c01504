-- How long the encodings are.
use Rattle.std.proofs.Common.{◌≡◌, ℕ, ◌+◌, ◌<◌, List, [], ◌∷◌, Some, None, length, take, get_or, refl, ap, ◌∙◌, arith}
use Rattle.std.specs.List.{flat_map}
use Rattle.std.proofs.lemmas.List.{length-append, append-nil, take_more}
use Rattle.std.proofs.lemmas.Grind.{flat_map-append}
use Rattle.std.proofs.lemmas.List.Concat.{flat_map-cons}
use Rattle.hk_types.specs.Values.{RowValue}
use Rattle.hk_model.specs.Replica.Answers.{One, Rows, Number}
use Rattle.hk_answers.specs.Answers.{row_text, keyed_text, answer_text}
use Rattle.hk_model.specs.declared.query.Query.TheVariants.{Get, Range, ByTag, Count}
use Rattle.hk_codec.proofs.Lengths.{len16, len32, len64}
use Rattle.hk_answers.specs.Queries.{query_text}

pub get_len : (table key : ℕ) → length (query_text (Get table key)) ≡ 11
unfolding query_text
get_len table key = simp (length-append, len16, len64) refl

pub range_len : (table low high : ℕ) → length (query_text (Range table low high)) ≡ 19
unfolding query_text
range_len table low high = simp (length-append, len16, len64) refl

pub by_tag_len : (table tag : ℕ) → length (query_text (ByTag table tag)) ≡ 7
unfolding query_text
by_tag_len table tag = simp (length-append, len16, len32) refl

pub count_len : (table : ℕ) → length (query_text (Count table)) ≡ 3
unfolding query_text
count_len table = simp (len16) refl

-- ---- lists

-- one element more
pub one_longer : {X : Type 0} (text : X → List ℕ) (xs : List X) (i : ℕ) (d : X) → i < length xs → length (flat_map text (take (i + 1) xs)) ≡ length (flat_map text (take i xs)) + length (text (get_or xs i d))
one_longer text xs i d lt =
    ap (λ ys. length (flat_map text ys)) (take_more xs i d lt)
    ∙ ap length (flat_map-append text (take i xs) (get_or xs i d ∷ []))
    ∙ length-append (flat_map text (take i xs)) (flat_map text (get_or xs i d ∷ []))
    ∙ ap (λ (k : ℕ). length (flat_map text (take i xs)) + k) (ap length (flat_map-cons text (get_or xs i d) [] ∙ append-nil (text (get_or xs i d))))

-- ---- answers

pub row_len : (row : RowValue) → length (row_text row) ≡ 6 + length row.body
unfolding row_text
row_len row = simp (length-append, len16, len32) (omega arith)

keyed_len : (e : ℕ × RowValue) → length (keyed_text e) ≡ 14 + length e.1.body
unfolding keyed_text
keyed_len e = simp (length-append, len64, row_len) (omega arith)

pub rows_more : (rows : List (ℕ × RowValue)) (i : ℕ) (d : ℕ × RowValue) → i < length rows → length (flat_map keyed_text (take (i + 1) rows)) ≡ length (flat_map keyed_text (take i rows)) + (14 + length (get_or rows i d).1.body)
rows_more rows i d lt = one_longer keyed_text rows i d lt ∙ ap (λ (k : ℕ). length (flat_map keyed_text (take i rows)) + k) (keyed_len (get_or rows i d))

pub none_len : length (answer_text (One None)) ≡ 2
unfolding answer_text
none_len = refl

pub some_len : (row : RowValue) → length (answer_text (One (Some row))) ≡ 8 + length row.body
unfolding answer_text
some_len row = simp (row_len) (omega arith)

pub rows_answer_len : (rows : List (ℕ × RowValue)) → length (answer_text (Rows rows)) ≡ 5 + length (flat_map keyed_text rows)
unfolding answer_text
rows_answer_len rows = simp (length-append, len32) (omega arith)

pub number_answer_len : (n : ℕ) → length (answer_text (Number n)) ≡ 9
unfolding answer_text
number_answer_len n = simp (len64) refl

-- of answers
pub ruleset answer_lengths = (none_len, some_len, rows_answer_len, number_answer_len)

-- of queries
pub ruleset query_lengths = (get_len, range_len, by_tag_len, count_len)
