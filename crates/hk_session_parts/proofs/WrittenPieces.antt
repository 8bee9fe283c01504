-- A text that is written in pieces.
use Rattle.std.proofs.Common.{◌≡◌, ℕ, ◌+◌, ◌-◌, ◌<◌, ◌≤◌, List, ◌++◌, length, take, drop, Option, sym, ap, subst, ◌∙◌, arith}
use Rattle.std.specs.Io.KnownBytes.{Appends}
use Rattle.std.proofs.KnownBytes.{Appends-trans}
use Rattle.std.proofs.lemmas.List.{take-append-drop, take-take, drop-take, length-drop, length-take-le}
use Rattle.std.proofs.Math.Seq.{take-length}
use Rattle.hk_session_parts.specs.Transcript.{IsProperPrefixOf}

split_take : (text : List ℕ) (d n : ℕ) → take (d + n) text ≡ take d text ++ take n (drop d text)
split_take text d n = sym (take-append-drop d (take (d + n) text)) ∙ ap (λ (t : List ℕ). take d (take (d + n) text) ++ t) (drop-take d n text) ∙ ap (λ (t : List ℕ). t ++ take n (drop d text)) (take-take d (d + n) text (omega arith))

pub sent_more : (o p q : Option (List ℕ)) (text : List ℕ) (d n : ℕ) → Appends o p (take d text) → Appends p q (take n (take (length text - d) (drop d text))) → Appends o q (take (d + n) text)
sent_more o p q text d n h k =
    let tail : take (length text - d) (drop d text) ≡ drop d text = ap (λ (i : ℕ). take i (drop d text)) (sym (length-drop d text)) ∙ take-length (drop d text) in
    let next = subst (λ (t : List ℕ). Appends p q (take n t)) tail k in
    subst (Appends o q) (sym (split_take text d n)) (Appends-trans o p q (take d text) (take n (drop d text)) h next)

pub is_front : (d : ℕ) (text : List ℕ) → d < length text → IsProperPrefixOf (take d text) text
is_front d text less = ((drop d text, take-append-drop d text), omega (arith, length-take-le d text (omega arith), less))

pub whole : (d : ℕ) (text : List ℕ) → length text ≤ d → d ≤ length text → take d text ≡ text
whole d text h k = let same : d ≡ length text = omega (arith, h, k) in ap (λ (i : ℕ). take i text) same ∙ take-length text
