-- Requests: what is read is encoded so, and what is encoded so is read again.
use Rattle.std.proofs.Common.{◌≡◌, ℕ, ◌^◌, ◌<◌, ◌≤◌, true, false, ltb, leb, List, [], ◌∷◌, ◌++◌, length, take, drop, Option, Some, None, Result, Ok, refl, sym, ap, subst, ◌∙◌, arith}
use Rattle.std.specs.Int.{w32, w64}
use Rattle.std.specs.List.{flat_map, AllByRecursion}
use Rattle.std.proofs.lemmas.Bool.{ltb-false, le-ltb, leb-true, le-leb, and_from}
use Rattle.std.proofs.lemmas.List.{length-append, drop_at}
use Rattle.hk_types.specs.declared.faults.FormFault.{FormFault}
use Rattle.hk_types.specs.declared.faults.FormFault.TheVariants.{BadCount, WrongLength}
use Rattle.hk_model.specs.declared.query.Query.{Query}
use Rattle.hk_frames.specs.Fields.{IsBytes, ◌>>=◌, number, number_at, bytes_at}
use Rattle.hk_frames.specs.Framing.{IsFormat}
use Rattle.hk_codec.specs.Encoding.{WrittenItem, rest_text, IsWritten}
use Rattle.hk_codec.specs.Reading.{item_at}
use Rattle.hk_codec.specs.Frames.{frame_text, frame_at}
use Rattle.hk_frames.proofs.ReadingSteps.{IsBytes-drop, bind_ok, ok_is, Takes, both as both_true}
use Rattle.hk_frames.proofs.Numbers.{guard_ok}
use Rattle.hk_frames.proofs.OneFrame.{frame_takes, frame_again}
use Rattle.hk_codec.proofs.ItemFrames.{items_are_sound}
use Rattle.hk_answers.specs.Readers.{both, fault_where, list_by, time_at, Chained, mapped_value}
use Rattle.hk_answers.specs.Queries.{query_text, QueryFits, query_at}
use Rattle.hk_fragment_bytes.specs.Fragments.{WireFragment, fragment_at, whole_at}
use Rattle.hk_answers.proofs.ReadersAndEncodings.{IsField, field32, time_field, both_field, barred_field, same_field, listed_field, this_or, made_takes, nothing_takes, made_again}
use Rattle.hk_answers.proofs.QueriesReadAgain.{query_field}
use Rattle.hk_fragment_bytes.proofs.FragmentsReadAgain.{fragment_field, whole_field}
use Rattle.hk_message_head.specs.Messages.{message_text, message_at}
use Rattle.hk_messages.specs.LaterRequests.{Streams, AskLatest, Page, Whole, More, AddPart, JoinParts, MergeParts, Hold, Release, Await, Stats, Tables}
use Rattle.hk_messages.specs.LaterRequests as later
use Rattle.hk_messages.specs.Requests.{WrittenRequest, Items, Front, Delta, Full, Ask, JoinThis, MergeThis, Prune, Feed, Later, frame_taken, item_frame_at, item_count_at, no_place, items_at, keeps_rules, request_kind, request_body, request_rest, RequestFits, IsRequest, IsRequestUpTo, request_of, request_at}
use Rattle.hk_messages.proofs.MessagesReadAgain.{at_most_two, IsMessage, message_format, same_format}
use Rattle.hk_messages.proofs.LaterRequestsReadAgain.{Keeps as LaterKeeps, request_takes as later_request_takes, request_again as later_request_again}

ask_field : IsField (both time_at query_at) (λ p. number w64 p.0 ++ query_text p.1) (λ p. (p.0 ≤ 2 ^ 62) × QueryFits p.1)
ask_field = both_field time_at query_at (number w64) query_text (λ n. n ≤ 2 ^ 62) QueryFits time_field query_field

-- item frames
frame_is : (frame : Option (WrittenItem × ℕ)) (bytes : List ℕ) (x : WrittenItem × List ℕ) → frame_taken frame bytes ≡ Ok x → (n : ℕ) × (frame ≡ Some (x.0, n)) × (x.1 ≡ drop n bytes)
unfolding bytes_at
frame_is None bytes x e = absurd cc
frame_is (Some frame) bytes x e =
    let a = bind_ok (bytes_at frame.1 bytes) (λ taken. Ok (frame.0, taken.1)) x e in
    let g = guard_ok (ltb (length bytes) frame.1) WrongLength (take frame.1 bytes, drop frame.1 bytes) a.0 a.1 in
    let same = ok_is (frame.0, a.0.1) x a.2 in
    (frame.1, ap (λ (y : WrittenItem × List ℕ). Some (y.0, frame.1)) same, sym (ap (λ (y : WrittenItem × List ℕ). y.1) same) ∙ sym (ap (λ (y : List ℕ × List ℕ). y.1) g.1))

frame_field : IsField item_frame_at frame_text IsWritten
unfolding item_frame_at bytes_at
frame_field =
    record {
      takes = λ bytes x fits e.
          let a = bind_ok (frame_at bytes) (λ frame. frame_taken frame bytes) x e in
          let b = frame_is a.0 bytes x a.2 in
          let f = frame_takes 28 4233248 item_at rest_text IsWritten items_are_sound bytes x.0 b.0 fits (a.1 ∙ ap (λ (o : Option (WrittenItem × ℕ)). Ok o) b.1) in
          (record { parts = f.parts ∙ ap (λ (t : List ℕ). frame_text x.0 ++ t) (sym b.2); rest_fits = subst IsBytes (sym b.2) (IsBytes-drop b.0 bytes fits) }, f.value);
      again = λ x rest h.
          let long : ltb (length (frame_text x ++ rest)) (length (frame_text x)) ≡ false = le-ltb _ _ (omega (arith, length-append (frame_text x) rest)) in
          ap (λ (r : Result (Option (WrittenItem × ℕ)) FormFault). r >>= λ frame. frame_taken frame (frame_text x ++ rest)) (frame_again 28 4233248 item_at rest_text IsWritten items_are_sound x rest h)
          ∙ rw (long, drop_at (frame_text x) rest (length (frame_text x)) refl) refl;
    }

items_chained : (before : Option (Unit {0})) (items : List WrittenItem) → AllByRecursion IsWritten items → Chained no_place (λ _. IsWritten) before items
items_chained before [] h = tt
items_chained before (i ∷ items) h = (h.0, items_chained (Some tt) items h.1)

items_each : (before : Option (Unit {0})) (items : List WrittenItem) → Chained no_place (λ _. IsWritten) before items → AllByRecursion IsWritten items
items_each before [] h = tt
items_each before (i ∷ items) h = (h.0, items_each (Some tt) items h.1)

count_field : IsField item_count_at (number w32) (λ n. n ≤ 65536)
unfolding item_count_at
count_field =
    same_field (fault_where (number_at w32) (λ n. ltb 65536 n) BadCount) (number w32) (λ n. (n < 2 ^ 32) × (ltb 65536 n ≡ false)) (λ n. n ≤ 65536)
    (λ n h. ltb-false 65536 n h.1) (λ n h. (omega (arith, h), le-ltb 65536 n h))
    (barred_field (number_at w32) (λ n. ltb 65536 n) BadCount (number w32) (λ n. n < 2 ^ 32) field32)

abbrev AreItems : List WrittenItem → Type 0
AreItems items = AllByRecursion IsWritten items × (leb (length items) 65536 ≡ true)

abbrev items_text : List WrittenItem → List ℕ
items_text items = number w32 (length items) ++ flat_map frame_text items

items_field : IsField items_at items_text AreItems
unfolding items_at
items_field =
    same_field (list_by item_count_at no_place (λ _. item_frame_at)) items_text (λ items. (length items ≤ 65536) × Chained no_place (λ _. IsWritten) None items) AreItems
    (λ items h. (items_each None items h.1, le-leb _ _ h.0)) (λ items h. (leb-true _ _ h.1, items_chained None items h.0))
    (listed_field no_place (λ _. item_frame_at) frame_text (λ _. IsWritten) (λ _. frame_field) w32 item_count_at (λ n. n ≤ 65536) count_field)

abbrev delta_of : ℕ → WrittenRequest
delta_of base = Delta base

abbrev ask_of : ℕ × Query → WrittenRequest
ask_of p = Ask p.0 p.1

abbrev prune_of : ℕ → WrittenRequest
prune_of horizon = Prune horizon

abbrev join_of : WireFragment → WrittenRequest
join_of fragment = JoinThis fragment

abbrev merge_of : WireFragment → WrittenRequest
merge_of fragment = MergeThis fragment

abbrev items_of : List WrittenItem → WrittenRequest
items_of items = Items items

abbrev feed_of : List WrittenItem → WrittenRequest
feed_of items = Feed items

abbrev Keeps : WrittenRequest → Type 0
Keeps r = RequestFits r × (keeps_rules r ≡ true)

abbrev IsRequestOf : ℕ → List ℕ → WrittenRequest × List ℕ → Type 0
IsRequestOf k bytes x = (request_kind x.0 ≡ k) × (Takes bytes (request_body x.0) x.1 × Keeps x.0)

abbrev later_of : later.RequestValue → WrittenRequest
later_of r = Later r

later_takes : (k : ℕ) (bytes : List ℕ) (x : WrittenRequest × List ℕ) → IsBytes bytes → mapped_value later_of (later.request_of k) bytes ≡ Ok x → IsRequestOf k bytes x
later_takes k bytes x fits e =
    let y = bind_ok (later.request_of k bytes) (λ a. Ok (Later a.0, a.1)) x e in
    subst (IsRequestOf k bytes) {x = (Later y.0.0, y.0.1)} (ok_is (Later y.0.0, y.0.1) x y.2) (later_request_takes k bytes y.0 fits y.1)

request_takes : (k : ℕ) (bytes : List ℕ) (x : WrittenRequest × List ℕ) → IsBytes bytes → request_of items_at k bytes ≡ Ok x → IsRequestOf k bytes x
unfolding request_of
request_takes k bytes x fits e =
    this_or k 16 _ _ x (IsRequestOf k bytes x) e
    (λ is f. made_takes items_of items_at _ _ items_field request_kind request_body Keeps k (λ a. sym is) (λ a. refl) (λ a h. h) bytes x fits f)
    (λ e1. this_or k 17 _ _ x (IsRequestOf k bytes x) e1
    (λ is f. nothing_takes Front request_kind request_body Keeps k (sym is) refl (tt, refl) bytes x fits f)
    (λ e2. this_or k 18 _ _ x (IsRequestOf k bytes x) e2
    (λ is f. made_takes delta_of time_at _ _ time_field request_kind request_body Keeps k (λ a. sym is) (λ a. refl) (λ a h. (h, refl)) bytes x fits f)
    (λ e3. this_or k 19 _ _ x (IsRequestOf k bytes x) e3
    (λ is f. nothing_takes Full request_kind request_body Keeps k (sym is) refl (tt, refl) bytes x fits f)
    (λ e4. this_or k 20 _ _ x (IsRequestOf k bytes x) e4
    (λ is f. made_takes ask_of (both time_at query_at) _ _ ask_field request_kind request_body Keeps k (λ a. sym is) (λ a. refl) (λ a h. (h, refl)) bytes x fits f)
    (λ e5. this_or k 21 _ _ x (IsRequestOf k bytes x) e5
    (λ is f. made_takes join_of fragment_at _ _ fragment_field request_kind request_body Keeps k (λ a. sym is) (λ a. refl) (λ a h. h) bytes x fits f)
    (λ e6. this_or k 22 _ _ x (IsRequestOf k bytes x) e6
    (λ is f. made_takes merge_of whole_at _ _ whole_field request_kind request_body Keeps k (λ a. sym is) (λ a. refl) (λ a h. h) bytes x fits f)
    (λ e7. this_or k 23 _ _ x (IsRequestOf k bytes x) e7
    (λ is f. made_takes prune_of time_at _ _ time_field request_kind request_body Keeps k (λ a. sym is) (λ a. refl) (λ a h. (h, refl)) bytes x fits f)
    (λ e8. this_or k 58 _ _ x (IsRequestOf k bytes x) e8
    (λ is f. made_takes feed_of items_at _ _ items_field request_kind request_body Keeps k (λ a. sym is) (λ a. refl) (λ a h. h) bytes x fits f)
    (λ e9. later_takes k bytes x fits e9)))))))))

later_again : (r : later.RequestValue) (rest : List ℕ) → LaterKeeps r → mapped_value later_of (later.request_of (later.request_kind r)) (later.request_body r ++ rest) ≡ Ok (later_of r, rest)
later_again r rest h = ap (λ (y : Result (later.RequestValue × List ℕ) FormFault). y >>= λ a. Ok (later_of a.0, a.1)) (later_request_again r rest h)

request_again : (r : WrittenRequest) (rest : List ℕ) → Keeps r → request_of items_at (request_kind r) (request_body r ++ rest) ≡ Ok (r, rest)
unfolding request_of
request_again (Items items) rest h = made_again items_of items_at _ _ items_field items rest h
request_again Front rest h = refl
request_again (Delta base) rest h = made_again delta_of time_at _ _ time_field base rest h.0
request_again Full rest h = refl
request_again (Ask t query) rest h = made_again ask_of (both time_at query_at) _ _ ask_field (t, query) rest h.0
request_again (JoinThis fragment) rest h = made_again join_of fragment_at _ _ fragment_field fragment rest h
request_again (MergeThis fragment) rest h = made_again merge_of whole_at _ _ whole_field fragment rest h
request_again (Prune horizon) rest h = made_again prune_of time_at _ _ time_field horizon rest h.0
request_again (Feed items) rest h = made_again feed_of items_at _ _ items_field items rest h
request_again (Later Streams) rest h = later_again Streams rest h
request_again (Later (AskLatest query)) rest h = later_again (AskLatest query) rest h
request_again (Later (Page t table low high most)) rest h = later_again (Page t table low high most) rest h
request_again (Later (Whole base most_bytes)) rest h = later_again (Whole base most_bytes) rest h
request_again (Later More) rest h = later_again More rest h
request_again (Later (AddPart facts)) rest h = later_again (AddPart facts) rest h
request_again (Later (JoinParts head)) rest h = later_again (JoinParts head) rest h
request_again (Later (MergeParts head)) rest h = later_again (MergeParts head) rest h
request_again (Later (Hold t)) rest h = later_again (Hold t) rest h
request_again (Later (Release hold)) rest h = later_again (Release hold) rest h
request_again (Later (Await t milliseconds)) rest h = later_again (Await t milliseconds) rest h
request_again (Later Stats) rest h = later_again Stats rest h
request_again (Later Tables) rest h = later_again Tables rest h

-- those of versions up to the latest that is read
pub requests_up_to : (latest : ℕ) → IsFormat 2 268435456 (request_at latest) request_rest (IsRequestUpTo latest)
unfolding request_at request_rest
requests_up_to latest =
    same_format 2 268435456 (message_at latest (request_of items_at)) _ (IsMessage latest request_kind request_body Keeps) (IsRequestUpTo latest)
    (λ r h. ((h.0.0, and_from (keeps_rules r) _ h.0.1 h.1.0), h.1.1))
    (λ r h. let b = both_true (keeps_rules r) (leb (length (message_text (request_kind r) (request_body r))) 268435456) h.0.1 in ((h.0.0, b.0), (b.1, h.1)))
    (message_format latest (request_of items_at) request_kind request_body Keeps (record { takes = request_takes; again = request_again }))

-- all of them
pub requests_are_sound : IsFormat 2 268435456 (request_at 2) request_rest IsRequest
requests_are_sound = same_format 2 268435456 (request_at 2) request_rest (IsRequestUpTo 2) IsRequest (λ r h. h.0) (λ r h. (h, at_most_two (request_kind r))) (requests_up_to 2)
