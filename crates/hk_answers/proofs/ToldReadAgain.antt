-- Pages and what is told of streams: what is read is encoded so, and what is encoded so is read again.
use Rattle.std.proofs.Common.{◌≡◌, ℕ, zero, suc, ◌^◌, ◌<◌, ◌≤◌, Bool, true, false, ◌&&◌, ltb, leb, List, [], ◌∷◌, ◌++◌, length, Option, Some, None, Ok, refl, sym, arith}
use Rattle.std.specs.Int.{w16, w64}
use Rattle.std.specs.List.{AllByRecursion}
use Rattle.std.proofs.lemmas.Bool.{and_from, ltb-false, le-ltb, le-leb, leb-true}
use Rattle.hk_types.specs.Values.{RowValue}
use Rattle.hk_frames.specs.Fields.{IsBytes, number, number_at, list_at}
use Rattle.hk_frames.proofs.ReadingSteps.{Takes, neither, both as both_true}
use Rattle.hk_answers.specs.Readers.{both, list_by, time_at, Chained, stream_count_at, DiedFits, is_ops, ops_at, front_at}
use Rattle.hk_answers.specs.Answers.{rows_text, rows_at}
use Rattle.hk_answers.proofs.ReadersAndEncodings.{IsField, field64, time_field, both_field, same_field, made_field, kinded_field, listed_field, this_or, made_takes, nothing_takes, made_again, stream_count_field, StreamCount, or_false, ops_field, front_field, AreTimes}
use Rattle.hk_answers.proofs.AnswersReadAgain.{rows_field, AreRows}
use Rattle.hk_model.specs.declared.streams_told.StreamTold.{StreamTold}
use Rattle.hk_model.specs.Replica.Pages.{PageValue}
use Rattle.hk_model.specs.Replica.StreamsTold.{StreamsValue}
use Rattle.hk_answers.specs.Told.{flag, flag_text, flag_of, flag_at, page_text, page_at, page_keeps_rules, PageFits, told_text, hold_flag, hold_fields, hold_text, told_streams_text, streams_text, are_streams, streams_keep_rules, ToldFits, StreamsFit, told_at, no_place, told_list_at, told_streams_at, hold_of, hold_at, streams_at}

-- ---- flags

abbrev no_text : Bool → List ℕ
no_text b = []

abbrev Any : Bool → Type 0
Any b = Unit {0}

abbrev IsFlagOf : ℕ → List ℕ → Bool × List ℕ → Type 0
IsFlagOf k bytes x = (flag x.0 ≡ k) × (Takes bytes (no_text x.0) x.1 × Any x.0)

flag_takes : (k : ℕ) (bytes : List ℕ) (x : Bool × List ℕ) → IsBytes bytes → flag_of k bytes ≡ Ok x → IsFlagOf k bytes x
unfolding flag_of
flag_takes k bytes x fits e =
    this_or k 0 _ _ x (IsFlagOf k bytes x) e
    (λ is f. nothing_takes false flag no_text Any k (sym is) refl tt bytes x fits f)
    (λ e2. this_or k 1 _ _ x (IsFlagOf k bytes x) e2
    (λ is f. nothing_takes true flag no_text Any k (sym is) refl tt bytes x fits f)
    (λ e3. absurd cc))

flag_again : (b : Bool) (rest : List ℕ) → Any b → flag_of (flag b) (no_text b ++ rest) ≡ Ok (b, rest)
unfolding flag_of
flag_again false rest h = refl
flag_again true rest h = refl

flag_field : IsField flag_at flag_text Any
unfolding flag_at
flag_field = kinded_field flag_of flag no_text Any (record { takes = flag_takes; again = flag_again })

-- ---- pages

abbrev page_made : Bool × List (ℕ × RowValue) → PageValue
page_made p = record { rows = p.1; more = p.0 }

pub page_field : IsField page_at page_text (λ page. PageFits page × (page_keeps_rules page ≡ true))
unfolding page_at
page_field =
    made_field page_made (λ page. (page.more, page.rows)) (both flag_at rows_at) (λ p. flag_text p.0 ++ rows_text p.1) page_text (λ p. Any p.0 × AreRows p.1) (λ page. PageFits page × (page_keeps_rules page ≡ true))
    (both_field flag_at rows_at flag_text rows_text Any AreRows flag_field rows_field)
    (λ p h. (refl, h.1)) (λ page h. (refl, (refl, (tt, h))))

-- ---- streams

abbrev ToldParts : Type 0
ToldParts = ℕ × (ℕ × (ℕ × ℕ))

abbrev told_made : ToldParts → StreamTold
told_made p = record { prefix = p.0; closed = p.1.0; extra = p.1.1.0; waiting = p.1.1.1 }

abbrev told_parts_text : ToldParts → List ℕ
told_parts_text p = number w64 p.0 ++ (number w64 p.1.0 ++ (number w64 p.1.1.0 ++ number w64 p.1.1.1))

abbrev AreTold : ToldParts → Type 0
AreTold p = (p.0 < 2 ^ 64) × ((p.1.0 ≤ 2 ^ 62) × ((p.1.1.0 < 2 ^ 64) × (p.1.1.1 < 2 ^ 64)))

told_field : IsField told_at told_text ToldFits
unfolding told_at told_text
told_field =
    made_field told_made (λ s. (s.prefix, (s.closed, (s.extra, s.waiting)))) _ told_parts_text _ AreTold ToldFits
    (both_field (number_at w64) (both time_at (both (number_at w64) (number_at w64))) (number w64) _ _ _ field64
    (both_field time_at (both (number_at w64) (number_at w64)) (number w64) _ _ _ time_field
    (both_field (number_at w64) (number_at w64) (number w64) (number w64) _ _ field64 field64)))
    (λ p h. (refl, h)) (λ s h. (refl, (refl, h)))

told_chained : (before : Option (Unit {0})) (streams : List StreamTold) → AllByRecursion ToldFits streams → Chained no_place (λ _. ToldFits) before streams
told_chained before [] h = tt
told_chained before (s ∷ streams) h = (h.0, told_chained (Some tt) streams h.1)

told_each : (before : Option (Unit {0})) (streams : List StreamTold) → Chained no_place (λ _. ToldFits) before streams → AllByRecursion ToldFits streams
told_each before [] h = tt
told_each before (s ∷ streams) h = (h.0, told_each (Some tt) streams h.1)

count_there : (n : ℕ) → StreamCount n → are_streams n ≡ true
count_there n h =
    let b = neither (ltb n 1) (ltb 64 n) h.1 in
    and_from (leb 1 n) (leb n 64) (le-leb 1 n (ltb-false n 1 b.0)) (le-leb n 64 (ltb-false 64 n b.1))

count_back : (n : ℕ) → are_streams n ≡ true → StreamCount n
count_back n e =
    let b = both_true (leb 1 n) (leb n 64) e in
    let most : n ≤ 64 = leb-true n 64 b.1 in
    (omega (arith, most), or_false (ltb n 1) (ltb 64 n) (le-ltb n 1 (leb-true 1 n b.0)) (le-ltb 64 n most))

abbrev AreAllTold : List StreamTold → Type 0
AreAllTold streams = AllByRecursion ToldFits streams × (are_streams (length streams) ≡ true)

told_streams_field : IsField told_streams_at told_streams_text AreAllTold
unfolding told_streams_at
told_streams_field =
    same_field (list_by stream_count_at no_place (λ _. told_at)) told_streams_text (λ streams. StreamCount (length streams) × Chained no_place (λ _. ToldFits) None streams) AreAllTold
    (λ streams h. (told_each None streams h.1, count_there (length streams) h.0)) (λ streams h. (count_back (length streams) h.1, told_chained None streams h.0))
    (listed_field no_place (λ _. told_at) told_text (λ _. ToldFits) (λ _. told_field) w16 stream_count_at StreamCount stream_count_field)

-- streams don't depend on what stands before them
pub any_told_before : (n : ℕ) (bytes : List ℕ) → told_list_at n None bytes ≡ told_list_at n (Some tt) bytes
unfolding list_at
any_told_before zero bytes = refl
any_told_before (suc n) bytes = refl

-- ---- holds

abbrev some_time : ℕ → Option ℕ
some_time t = Some t

abbrev IsHoldOf : ℕ → List ℕ → Option ℕ × List ℕ → Type 0
IsHoldOf k bytes x = (hold_flag x.0 ≡ k) × (Takes bytes (hold_fields x.0) x.1 × DiedFits x.0)

hold_takes : (k : ℕ) (bytes : List ℕ) (x : Option ℕ × List ℕ) → IsBytes bytes → hold_of k bytes ≡ Ok x → IsHoldOf k bytes x
unfolding hold_of
hold_takes k bytes x fits e =
    this_or k 0 _ _ x (IsHoldOf k bytes x) e
    (λ is f. nothing_takes None hold_flag hold_fields DiedFits k (sym is) refl tt bytes x fits f)
    (λ e2. this_or k 1 _ _ x (IsHoldOf k bytes x) e2
    (λ is f. made_takes some_time time_at _ _ time_field hold_flag hold_fields DiedFits k (λ a. sym is) (λ a. refl) (λ a h. h) bytes x fits f)
    (λ e3. absurd cc))

hold_again : (o : Option ℕ) (rest : List ℕ) → DiedFits o → hold_of (hold_flag o) (hold_fields o ++ rest) ≡ Ok (o, rest)
unfolding hold_of
hold_again None rest h = refl
hold_again (Some t) rest h = made_again some_time time_at _ _ time_field t rest h

hold_field : IsField hold_at hold_text DiedFits
unfolding hold_at
hold_field = kinded_field hold_of hold_flag hold_fields DiedFits (record { takes = hold_takes; again = hold_again })

-- ---- all of it

abbrev Parts : Type 0
Parts = ℕ × ((ℕ × ℕ) × (Bool × (ℕ × (Option ℕ × List StreamTold))))

abbrev streams_made : Parts → StreamsValue
streams_made p = record { log = p.0; horizon = p.1.0.0; readable = p.1.0.1; damaged = p.1.1.0; operations = p.1.1.1.0; least_hold = p.1.1.1.1.0; streams = p.1.1.1.1.1 }

abbrev parts_of : StreamsValue → Parts
parts_of s = (s.log, ((s.horizon, s.readable), (s.damaged, (s.operations, (s.least_hold, s.streams)))))

abbrev front_text : ℕ × ℕ → List ℕ
front_text p = number w64 p.0 ++ number w64 p.1

abbrev parts_text : Parts → List ℕ
parts_text p = number w64 p.0 ++ (front_text p.1.0 ++ (flag_text p.1.1.0 ++ (number w64 p.1.1.1.0 ++ (hold_text p.1.1.1.1.0 ++ told_streams_text p.1.1.1.1.1))))

abbrev AreOps : ℕ → Type 0
AreOps n = (n < 2 ^ 64) × (is_ops n ≡ true)

abbrev IsFront : ℕ × ℕ → Type 0
IsFront p = AreTimes p × (leb p.0 p.1 ≡ true)

abbrev PartsFit : Parts → Type 0
PartsFit p = (p.0 < 2 ^ 64) × (IsFront p.1.0 × (Any p.1.1.0 × (AreOps p.1.1.1.0 × (DiedFits p.1.1.1.1.0 × AreAllTold p.1.1.1.1.1))))

abbrev StreamsAre : StreamsValue → Type 0
StreamsAre s = StreamsFit s × (streams_keep_rules s ≡ true)

streams_there : (p : Parts) → PartsFit p → StreamsAre (streams_made p)
streams_there p h = (
  record { log = h.0; horizon = h.1.0.0.0; readable = h.1.0.0.1; operations = h.1.1.1.0.0; least_hold = h.1.1.1.1.0; streams = h.1.1.1.1.1.0 },
  and_from (leb p.1.0.0 p.1.0.1) (is_ops p.1.1.1.0 && are_streams (length p.1.1.1.1.1)) h.1.0.1 (and_from (is_ops p.1.1.1.0) (are_streams (length p.1.1.1.1.1)) h.1.1.1.0.1 h.1.1.1.1.1.1),
)

streams_back : (s : StreamsValue) → StreamsAre s → PartsFit (parts_of s)
streams_back s h =
    let k : StreamsFit s = h.0 in
    let b = both_true (leb s.horizon s.readable) (is_ops s.operations && are_streams (length s.streams)) h.1 in
    let c = both_true (is_ops s.operations) (are_streams (length s.streams)) b.1 in
    (k.log, (((k.horizon, k.readable), b.0), (tt, ((k.operations, c.0), (k.least_hold, (k.streams, c.1))))))

pub streams_field : IsField streams_at streams_text StreamsAre
unfolding streams_at streams_text
streams_field =
    made_field streams_made parts_of _ parts_text _ PartsFit StreamsAre
    (both_field (number_at w64) _ (number w64) _ _ _ field64
    (both_field front_at _ front_text _ IsFront _ front_field
    (both_field flag_at _ flag_text _ Any _ flag_field
    (both_field ops_at _ (number w64) _ AreOps _ ops_field
    (both_field hold_at told_streams_at hold_text told_streams_text DiedFits AreAllTold hold_field told_streams_field)))))
    (λ p h. (refl, streams_there p h)) (λ s h. (refl, (refl, streams_back s h)))
