-- What is written of streams and fragments.
use Rattle.std.proofs.Common.{◌≡◌, refl, sym, ap, ◌∙◌, ℕ, zero, suc, ◌+◌, ◌-◌, ◌<◌, true, List, [], ◌∷◌, ◌++◌, length, map, take, get_or, append_assoc, arith}
use Rattle.std.specs.Int.{w16, w32, w64}
use Rattle.std.specs.List.{flat_map}
use Rattle.std.proofs.lemmas.List.{length-append, append-nil, take_more, map-append}
use Rattle.std.proofs.lemmas.Grind.{flat_map-append}
use Rattle.std.proofs.lemmas.List.Concat.{flat_map-cons}
use Rattle.hk_model.specs.Replica.Streams.{StreamContent, stream_at as content_at, unknown}
use Rattle.hk_frames.specs.Fields.{number}
use Rattle.hk_frames.proofs.ReadingSteps.{both as both_true}
use Rattle.hk_fragment_bytes.specs.Fragments.{WireFragment, wire_stream_of, stream_text, fact_text, fragment_text, fragment_front, stream_is_counted, streams_are_counted}

-- each stream of streams that can be counted can be counted
counted_each : (got : List StreamContent) (i : ℕ) → i < length got → streams_are_counted (map wire_stream_of got) ≡ true → stream_is_counted (wire_stream_of (get_or got i unknown)) ≡ true
counted_each [] i lt e = absurd (omega arith)
counted_each (x ∷ got) zero lt e = (both_true (stream_is_counted (wire_stream_of x)) (streams_are_counted (map wire_stream_of got)) e).0
counted_each (x ∷ got) (suc i) lt e = counted_each got i (omega arith) (both_true (stream_is_counted (wire_stream_of x)) (streams_are_counted (map wire_stream_of got)) e).1

pub counted_at : (got : List StreamContent) (i s : ℕ) → i < length got → s ≡ i + 1 → streams_are_counted (map wire_stream_of got) ≡ true → stream_is_counted (wire_stream_of (content_at got s)) ≡ true
counted_at got i s lt is e =
    let place : s - 1 ≡ i = omega (arith, is) in
    ap (λ (j : ℕ). stream_is_counted (wire_stream_of (get_or got j unknown))) place ∙ counted_each got i lt e

-- one stream more
pub texts_more : (got : List StreamContent) (i s : ℕ) → i < length got → s ≡ i + 1 → flat_map stream_text (map wire_stream_of (take (i + 1) got)) ≡ flat_map stream_text (map wire_stream_of (take i got)) ++ stream_text (wire_stream_of (content_at got s))
texts_more got i s lt is =
    let place : i ≡ s - 1 = omega (arith, is) in
    ap (λ (xs : List StreamContent). flat_map stream_text (map wire_stream_of xs)) (take_more got i unknown lt)
    ∙ ap (flat_map stream_text) (map-append wire_stream_of (take i got) (get_or got i unknown ∷ []))
    ∙ flat_map-append stream_text (map wire_stream_of (take i got)) (wire_stream_of (get_or got i unknown) ∷ [])
    ∙ ap (λ (t : List ℕ). flat_map stream_text (map wire_stream_of (take i got)) ++ t) (flat_map-cons stream_text (wire_stream_of (get_or got i unknown)) [] ∙ append-nil (stream_text (wire_stream_of (get_or got i unknown))))
    ∙ ap (λ (j : ℕ). flat_map stream_text (map wire_stream_of (take i got)) ++ stream_text (wire_stream_of (get_or got j unknown))) place

pub put_more : (got : List StreamContent) (i s : ℕ) (start before after : List ℕ) → i < length got → s ≡ i + 1 → before ≡ start ++ flat_map stream_text (map wire_stream_of (take i got)) → after ≡ before ++ stream_text (wire_stream_of (content_at got s)) → after ≡ start ++ flat_map stream_text (map wire_stream_of (take (i + 1) got))
put_more got i s start before after lt is e f =
    f ∙ ap (λ (t : List ℕ). t ++ stream_text (wire_stream_of (content_at got s))) e ∙ append_assoc start (flat_map stream_text (map wire_stream_of (take i got))) (stream_text (wire_stream_of (content_at got s)))
    ∙ ap (λ (t : List ℕ). start ++ t) (sym (texts_more got i s lt is))

pub len_more : (got : List StreamContent) (i s n m : ℕ) → i < length got → s ≡ i + 1 → n ≡ length (flat_map stream_text (map wire_stream_of (take i got))) → m ≡ length (stream_text (wire_stream_of (content_at got s))) → n + m ≡ length (flat_map stream_text (map wire_stream_of (take (i + 1) got)))
len_more got i s n m lt is e f =
    (λ k. e k + f k) ∙ sym (length-append (flat_map stream_text (map wire_stream_of (take i got))) (stream_text (wire_stream_of (content_at got s)))) ∙ ap length (sym (texts_more got i s lt is))

map_length : {A B : Type 0} (f : A → B) (xs : List A) → length (map f xs) ≡ length xs
map_length f [] = refl
map_length f (x ∷ xs) = ap suc (map_length f xs)

-- the parts of a fragment before its facts, one after the other
pub put_parts : (f : WireFragment) (got : List StreamContent) (n : ℕ) (x0 x1 x2 x3 x4 x5 x6 : List ℕ) → f.streams ≡ map wire_stream_of got → n ≡ length got → x1 ≡ x0 ++ number w64 f.log → x2 ≡ x1 ++ number w16 n → x3 ≡ x2 ++ number w64 f.base → x4 ≡ x3 ++ number w64 f.horizon
    → x5 ≡ x4 ++ flat_map stream_text f.streams → x6 ≡ x5 ++ number w32 (length f.facts) → x6 ≡ x0 ++ fragment_front f
unfolding fragment_front
put_parts f got n x0 x1 x2 x3 x4 x5 x6 streams is e1 e2 e3 e4 e5 e6 =
    let count : n ≡ length f.streams = is ∙ sym (map_length wire_stream_of got) ∙ sym (ap length streams) in
    rw (e6, e5, e4, e3, e2, e1, count) (simp append_assoc)

-- a fragment is what comes before its facts, and the facts
pub fragment_parts : (f : WireFragment) → fragment_front f ++ flat_map fact_text f.facts ≡ fragment_text f
unfolding fragment_front fragment_text
fragment_parts f = simp append_assoc refl
