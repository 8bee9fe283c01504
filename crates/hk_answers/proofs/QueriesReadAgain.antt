-- Queries: what is read is encoded so, and what is encoded so is read again.
use Rattle.std.proofs.Common.{◌≡◌, ℕ, ◌^◌, ◌<◌, List, ◌++◌, Ok, refl, sym}
use Rattle.std.specs.Int.{w16, w32, w64}
use Rattle.hk_model.specs.declared.query.Query.{Query}
use Rattle.hk_model.specs.declared.query.Query.TheVariants.{Get, Range, ByTag, Count}
use Rattle.hk_frames.specs.Fields.{IsBytes, number, number_at}
use Rattle.hk_frames.proofs.ReadingSteps.{Takes}
use Rattle.hk_answers.specs.Readers.{both}
use Rattle.hk_answers.specs.Queries.{query_kind, query_fields, query_text, QueryFits, query_of, query_at}
use Rattle.hk_answers.proofs.ReadersAndEncodings.{IsField, field16, field32, field64, both_field, this_or, made_takes, made_again, kinded_field}

get_field : IsField (both (number_at w16) (number_at w64)) (λ p. number w16 p.0 ++ number w64 p.1) (λ p. (p.0 < 2 ^ 16) × (p.1 < 2 ^ 64))
get_field = both_field (number_at w16) (number_at w64) (number w16) (number w64) (λ n. n < 2 ^ 16) (λ n. n < 2 ^ 64) field16 field64

bounds_field : IsField (both (number_at w64) (number_at w64)) (λ p. number w64 p.0 ++ number w64 p.1) (λ p. (p.0 < 2 ^ 64) × (p.1 < 2 ^ 64))
bounds_field = both_field (number_at w64) (number_at w64) (number w64) (number w64) (λ n. n < 2 ^ 64) (λ n. n < 2 ^ 64) field64 field64

range_field : IsField (both (number_at w16) (both (number_at w64) (number_at w64))) (λ p. number w16 p.0 ++ (number w64 p.1.0 ++ number w64 p.1.1)) (λ p. (p.0 < 2 ^ 16) × ((p.1.0 < 2 ^ 64) × (p.1.1 < 2 ^ 64)))
range_field = both_field (number_at w16) (both (number_at w64) (number_at w64)) (number w16) (λ p. number w64 p.0 ++ number w64 p.1) (λ n. n < 2 ^ 16) (λ p. (p.0 < 2 ^ 64) × (p.1 < 2 ^ 64)) field16 bounds_field

tag_field : IsField (both (number_at w16) (number_at w32)) (λ p. number w16 p.0 ++ number w32 p.1) (λ p. (p.0 < 2 ^ 16) × (p.1 < 2 ^ 32))
tag_field = both_field (number_at w16) (number_at w32) (number w16) (number w32) (λ n. n < 2 ^ 16) (λ n. n < 2 ^ 32) field16 field32

abbrev get_of : ℕ × ℕ → Query
get_of p = Get p.0 p.1

abbrev range_of : ℕ × (ℕ × ℕ) → Query
range_of p = Range p.0 p.1.0 p.1.1

abbrev tag_of : ℕ × ℕ → Query
tag_of p = ByTag p.0 p.1

abbrev count_of : ℕ → Query
count_of table = Count table

abbrev IsQueryOf : ℕ → List ℕ → Query × List ℕ → Type 0
IsQueryOf k bytes x = (query_kind x.0 ≡ k) × (Takes bytes (query_fields x.0) x.1 × QueryFits x.0)

query_takes : (k : ℕ) (bytes : List ℕ) (x : Query × List ℕ) → IsBytes bytes → query_of k bytes ≡ Ok x → IsQueryOf k bytes x
unfolding query_of
query_takes k bytes x fits e =
    this_or k 1 _ _ x (IsQueryOf k bytes x) e
    (λ is f. let s = made_takes get_of (both (number_at w16) (number_at w64)) _ _ get_field query_kind query_fields QueryFits k (λ a. sym is) (λ a. refl) (λ a h. h) bytes x fits f in s)
    (λ e2. this_or k 2 _ _ x (IsQueryOf k bytes x) e2
    (λ is f. made_takes range_of (both (number_at w16) (both (number_at w64) (number_at w64))) _ _ range_field query_kind query_fields QueryFits k (λ a. sym is) (λ a. refl) (λ a h. h) bytes x fits f)
    (λ e3. this_or k 3 _ _ x (IsQueryOf k bytes x) e3
    (λ is f. made_takes tag_of (both (number_at w16) (number_at w32)) _ _ tag_field query_kind query_fields QueryFits k (λ a. sym is) (λ a. refl) (λ a h. h) bytes x fits f)
    (λ e4. this_or k 4 _ _ x (IsQueryOf k bytes x) e4
    (λ is f. made_takes count_of (number_at w16) _ _ field16 query_kind query_fields QueryFits k (λ a. sym is) (λ a. refl) (λ a h. h) bytes x fits f)
    (λ e5. absurd cc))))

query_again : (q : Query) (rest : List ℕ) → QueryFits q → query_of (query_kind q) (query_fields q ++ rest) ≡ Ok (q, rest)
unfolding query_of
query_again (Get table key) rest h = made_again get_of (both (number_at w16) (number_at w64)) _ _ get_field (table, key) rest h
query_again (Range table low high) rest h = made_again range_of (both (number_at w16) (both (number_at w64) (number_at w64))) _ _ range_field (table, (low, high)) rest h
query_again (ByTag table tag) rest h = made_again tag_of (both (number_at w16) (number_at w32)) _ _ tag_field (table, tag) rest h
query_again (Count table) rest h = made_again count_of (number_at w16) _ _ field16 table rest h

pub query_field : IsField query_at query_text QueryFits
unfolding query_at query_text
query_field = kinded_field query_of query_kind query_fields QueryFits (record { takes = query_takes; again = query_again })
