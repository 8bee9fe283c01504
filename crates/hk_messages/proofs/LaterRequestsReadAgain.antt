-- Requests of version 2: what is read is encoded so, and what is encoded so is read again.
use Rattle.std.proofs.Common.{◌≡◌, ℕ, ◌^◌, ◌<◌, ◌≤◌, true, false, not, eqb, leb, List, ◌++◌, Ok, refl, sym}
use Rattle.std.specs.Int.{w16, w32, w64}
use Rattle.std.proofs.lemmas.Bool.{not-true}
use Rattle.hk_types.specs.declared.faults.FormFault.TheVariants.{BadCount, BadNumber}
use Rattle.hk_model.specs.declared.query.Query.{Query}
use Rattle.hk_fragment.specs.Parts.{Known}
use Rattle.hk_frames.specs.Fields.{IsBytes, number, number_at}
use Rattle.hk_frames.proofs.ReadingSteps.{Takes}
use Rattle.hk_answers.specs.Readers.{Reader, both, time_at, positive_at}
use Rattle.hk_answers.specs.Queries.{query_at}
use Rattle.hk_fragment_bytes.specs.Parts.{WireHead, head_at, whole_head_at, part_at}
use Rattle.hk_answers.proofs.ReadersAndEncodings.{IsField, field16, field32, field64, time_field, positive_field, not_zero, both_field, barred_field, kept_field, same_field, this_or, made_takes, nothing_takes, made_again}
use Rattle.hk_answers.proofs.QueriesReadAgain.{query_field}
use Rattle.hk_fragment_bytes.proofs.PartsReadAgain.{head_field, whole_head_field, part_field}
use Rattle.hk_message_head.specs.Limits.{most_at, wait_at}
use Rattle.hk_messages.specs.LaterRequests.{RequestValue, Streams, AskLatest, Page, Whole, More, AddPart, JoinParts, MergeParts, Hold, Release, Await, Stats, Tables, request_kind, request_body, keeps_rules, RequestFits, page_at, change_of, request_of}

most_field : IsField most_at (number w32) (λ n. (n < 2 ^ 32) × (not (eqb n 0) ≡ true))
unfolding most_at
most_field =
    same_field _ (number w32) (λ n. (n < 2 ^ 32) × (eqb n 0 ≡ false)) (λ n. (n < 2 ^ 32) × (not (eqb n 0) ≡ true)) (λ n h. (h.0, not_zero n h.1)) (λ n h. (h.0, not-true (eqb n 0) h.1))
    (barred_field (number_at w32) (λ n. eqb n 0) BadCount (number w32) (λ n. n < 2 ^ 32) field32)

abbrev PageParts : Type 0
PageParts = ℕ × (ℕ × (ℕ × (ℕ × ℕ)))

abbrev page_text : PageParts → List ℕ
page_text p = number w64 p.0 ++ (number w16 p.1.0 ++ (number w64 p.1.1.0 ++ (number w64 p.1.1.1.0 ++ number w32 p.1.1.1.1)))

abbrev PageIs : PageParts → Type 0
PageIs p = (p.0 ≤ 2 ^ 62) × ((p.1.0 < 2 ^ 16) × ((p.1.1.0 < 2 ^ 64) × ((p.1.1.1.0 < 2 ^ 64) × ((p.1.1.1.1 < 2 ^ 32) × (not (eqb p.1.1.1.1 0) ≡ true)))))

abbrev page_parts_at : Reader PageParts
page_parts_at bytes = both time_at (both (number_at w16) (both (number_at w64) (both (number_at w64) most_at))) bytes

page_field : IsField page_parts_at page_text PageIs
page_field =
    both_field time_at _ (number w64) _ _ _ time_field
    (both_field (number_at w16) _ (number w16) _ _ _ field16
    (both_field (number_at w64) _ (number w64) _ _ _ field64
    (both_field (number_at w64) most_at (number w64) (number w32) _ _ field64 most_field)))

whole_field : IsField (both time_at (number_at w32)) (λ p. number w64 p.0 ++ number w32 p.1) (λ p. (p.0 ≤ 2 ^ 62) × (p.1 < 2 ^ 32))
whole_field = both_field time_at (number_at w32) (number w64) (number w32) _ _ time_field field32

abbrev IsWait : ℕ → Type 0
IsWait n = (n < 2 ^ 32) × (leb n 600000 ≡ true)

wait_field : IsField wait_at (number w32) IsWait
unfolding wait_at
wait_field = kept_field (number_at w32) (λ n. leb n 600000) BadNumber (number w32) (λ n. n < 2 ^ 32) field32

await_field : IsField (both time_at wait_at) (λ p. number w64 p.0 ++ number w32 p.1) (λ p. (p.0 ≤ 2 ^ 62) × IsWait p.1)
await_field = both_field time_at wait_at (number w64) (number w32) (λ n. n ≤ 2 ^ 62) IsWait time_field wait_field

-- ---- requests

abbrev latest_of : Query → RequestValue
latest_of query = AskLatest query

abbrev page_of : PageParts → RequestValue
page_of p = Page p.0 p.1.0 p.1.1.0 p.1.1.1.0 p.1.1.1.1

abbrev whole_of : ℕ × ℕ → RequestValue
whole_of p = Whole p.0 p.1

abbrev added_of : List Known → RequestValue
added_of facts = AddPart facts

abbrev join_of : WireHead → RequestValue
join_of h = JoinParts h

abbrev merge_of : WireHead → RequestValue
merge_of h = MergeParts h

abbrev hold_of : ℕ → RequestValue
hold_of t = Hold t

abbrev release_of : ℕ → RequestValue
release_of hold = Release hold

abbrev await_of : ℕ × ℕ → RequestValue
await_of p = Await p.0 p.1

abbrev pub Keeps : RequestValue → Type 0
Keeps r = RequestFits r × (keeps_rules r ≡ true)

abbrev pub IsRequestOf : ℕ → List ℕ → RequestValue × List ℕ → Type 0
IsRequestOf k bytes x = (request_kind x.0 ≡ k) × (Takes bytes (request_body x.0) x.1 × Keeps x.0)

change_takes : (k : ℕ) (bytes : List ℕ) (x : RequestValue × List ℕ) → IsBytes bytes → change_of k bytes ≡ Ok x → IsRequestOf k bytes x
unfolding change_of
change_takes k bytes x fits e =
    this_or k 53 _ _ x (IsRequestOf k bytes x) e
    (λ is f. made_takes added_of part_at _ _ part_field request_kind request_body Keeps k (λ a. sym is) (λ a. refl) (λ a h. h) bytes x fits f)
    (λ e1. this_or k 54 _ _ x (IsRequestOf k bytes x) e1
    (λ is f. made_takes join_of head_at _ _ head_field request_kind request_body Keeps k (λ a. sym is) (λ a. refl) (λ a h. h) bytes x fits f)
    (λ e2. this_or k 55 _ _ x (IsRequestOf k bytes x) e2
    (λ is f. made_takes merge_of whole_head_at _ _ whole_head_field request_kind request_body Keeps k (λ a. sym is) (λ a. refl) (λ a h. h) bytes x fits f)
    (λ e3. this_or k 56 _ _ x (IsRequestOf k bytes x) e3
    (λ is f. made_takes hold_of time_at _ _ time_field request_kind request_body Keeps k (λ a. sym is) (λ a. refl) (λ a h. (h, refl)) bytes x fits f)
    (λ e4. this_or k 57 _ _ x (IsRequestOf k bytes x) e4
    (λ is f. made_takes release_of positive_at _ _ positive_field request_kind request_body Keeps k (λ a. sym is) (λ a. refl) (λ a h. h) bytes x fits f)
    (λ e5. absurd cc)))))

pub request_takes : (k : ℕ) (bytes : List ℕ) (x : RequestValue × List ℕ) → IsBytes bytes → request_of k bytes ≡ Ok x → IsRequestOf k bytes x
unfolding request_of page_at
request_takes k bytes x fits e =
    this_or k 48 _ _ x (IsRequestOf k bytes x) e
    (λ is f. nothing_takes Streams request_kind request_body Keeps k (sym is) refl (tt, refl) bytes x fits f)
    (λ e1. this_or k 49 _ _ x (IsRequestOf k bytes x) e1
    (λ is f. made_takes latest_of query_at _ _ query_field request_kind request_body Keeps k (λ a. sym is) (λ a. refl) (λ a h. (h, refl)) bytes x fits f)
    (λ e2. this_or k 50 _ _ x (IsRequestOf k bytes x) e2
    (λ is f. made_takes page_of page_parts_at _ _ page_field request_kind request_body Keeps k (λ a. sym is) (λ a. refl) (λ a h. ((h.0, (h.1.0, (h.1.1.0, (h.1.1.1.0, h.1.1.1.1.0)))), h.1.1.1.1.1)) bytes x fits f)
    (λ e3. this_or k 51 _ _ x (IsRequestOf k bytes x) e3
    (λ is f. made_takes whole_of (both time_at (number_at w32)) _ _ whole_field request_kind request_body Keeps k (λ a. sym is) (λ a. refl) (λ a h. (h, refl)) bytes x fits f)
    (λ e4. this_or k 52 _ _ x (IsRequestOf k bytes x) e4
    (λ is f. nothing_takes More request_kind request_body Keeps k (sym is) refl (tt, refl) bytes x fits f)
    (λ e5. this_or k 59 _ _ x (IsRequestOf k bytes x) e5
    (λ is f. made_takes await_of (both time_at wait_at) _ _ await_field request_kind request_body Keeps k (λ a. sym is) (λ a. refl) (λ a h. ((h.0, h.1.0), h.1.1)) bytes x fits f)
    (λ e6. this_or k 60 _ _ x (IsRequestOf k bytes x) e6
    (λ is f. nothing_takes Stats request_kind request_body Keeps k (sym is) refl (tt, refl) bytes x fits f)
    (λ e7. this_or k 61 _ _ x (IsRequestOf k bytes x) e7
    (λ is f. nothing_takes Tables request_kind request_body Keeps k (sym is) refl (tt, refl) bytes x fits f)
    (λ e8. change_takes k bytes x fits e8))))))))

pub request_again : (r : RequestValue) (rest : List ℕ) → Keeps r → request_of (request_kind r) (request_body r ++ rest) ≡ Ok (r, rest)
unfolding request_of change_of page_at
request_again Streams rest h = refl
request_again (AskLatest query) rest h = made_again latest_of query_at _ _ query_field query rest h.0
request_again (Page t table low high most) rest h = made_again page_of page_parts_at _ _ page_field (t, (table, (low, (high, most)))) rest (h.0.0, (h.0.1.0, (h.0.1.1.0, (h.0.1.1.1.0, (h.0.1.1.1.1, h.1)))))
request_again (Whole base most_bytes) rest h = made_again whole_of (both time_at (number_at w32)) _ _ whole_field (base, most_bytes) rest h.0
request_again More rest h = refl
request_again (AddPart facts) rest h = made_again added_of part_at _ _ part_field facts rest h
request_again (JoinParts head) rest h = made_again join_of head_at _ _ head_field head rest h
request_again (MergeParts head) rest h = made_again merge_of whole_head_at _ _ whole_head_field head rest h
request_again (Hold t) rest h = made_again hold_of time_at _ _ time_field t rest h.0
request_again (Release hold) rest h = made_again release_of positive_at _ _ positive_field hold rest h
request_again (Await t milliseconds) rest h = made_again await_of (both time_at wait_at) _ _ await_field (t, milliseconds) rest (h.0.0, (h.0.1, h.1))
request_again Stats rest h = refl
request_again Tables rest h = refl
