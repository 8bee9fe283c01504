-- How long the encodings of fragments, their heads and their chunks are.
use Rattle.std.proofs.Common.{◌≡◌, ℕ, suc, ◌+◌, ◌*◌, List, [], ◌∷◌, Option, Some, None, length, refl, ap, ◌∙◌, arith}
use Rattle.std.specs.List.{flat_map}
use Rattle.std.proofs.lemmas.List.{length-append}
use Rattle.std.proofs.lemmas.List.Concat.{flat_map-cons}
use Rattle.hk_types.specs.Values.{RowValue}
use Rattle.hk_codec.proofs.Lengths.{len16, len32, len64}
use Rattle.hk_fragment_bytes.specs.Fragments.{WireStream, WireFragment, mark_text, stream_text, parts_text, fact_text, fragment_text, facts_text}
use Rattle.hk_log.specs.Versions.{VersionValue}
use Rattle.hk_types.specs.declared.version_key.VersionKey.{VersionKey}
use Rattle.hk_frames.specs.Fields.{number}
use Rattle.std.specs.Int.{w64}
use Rattle.hk_fragment.specs.Parts.{Known}
use Rattle.hk_fragment_bytes.specs.Parts.{WireHead, head_text}

-- elements of one length
each_len : {X : Type 0} (text : X → List ℕ) (n : ℕ) → ((x : X) → length (text x) ≡ n) → (xs : List X) → length (flat_map text xs) ≡ n * length xs
each_len text n each [] = omega arith
each_len text n each (x ∷ xs) =
    let rest = each_len text n each xs in
    let first = each x in
    ap length (flat_map-cons text x xs) ∙ length-append (text x) (flat_map text xs) ∙ (λ i. first i + rest i) ∙ times n (length xs)
  where
    times : (n k : ℕ) → n + n * k ≡ n * suc k
    times n k = omega arith

mark_len : (m : ℕ × ℕ) → length (mark_text m) ≡ 16
mark_len m = simp (length-append, len64) refl

pub stream_text_len : (s : WireStream) → length (stream_text s) ≡ 24 + 8 * length s.extra + 16 * length s.waiting
unfolding stream_text
stream_text_len s =
    let e = each_len (number w64) 8 (λ n. len64 n) s.extra in
    let w = each_len mark_text 16 mark_len s.waiting in
    simp (length-append, len64, len32) (omega (arith, e, w))

pub fact_text_len : (v : VersionKey) (x : VersionValue) → length (fact_text (v, x)) ≡ 19 + (length (parts_text x.row None) + length (parts_text None x.died))
unfolding fact_text
fact_text_len v x = simp (length-append, len64, len16) (parts x.row x.died)
  where
    parts : (row : Option RowValue) (died : Option ℕ) → 18 + suc (length (parts_text row died)) ≡ 19 + (length (parts_text row None) + length (parts_text None died))
    parts None None = refl
    parts None (Some d) = omega arith
    parts (Some r) None = omega arith
    parts (Some r) (Some d) = simp length-append (omega arith)

pub fragment_text_len : (f : WireFragment) → length (fragment_text f) ≡ 30 + (length (flat_map stream_text f.streams) + length (flat_map fact_text f.facts))
unfolding fragment_text
fragment_text_len f = simp (length-append, len64, len32, len16) (omega arith)

-- ---- items

pub head_text_len : (h : WireHead) → length (head_text h) ≡ 34 + length (flat_map stream_text h.streams)
unfolding head_text
head_text_len h = simp (length-append, len64, len16) (omega arith)

pub facts_text_len : (facts : List Known) → length (facts_text facts) ≡ 4 + length (flat_map fact_text facts)
facts_text_len facts = simp (length-append, len32) refl
