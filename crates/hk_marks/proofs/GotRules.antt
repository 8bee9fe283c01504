-- What all values of a `Got` keep, and the least of their closed times.
use Rattle.std.proofs.Common.{◌≡◌, sym, ap, ◌∙◌, ℕ, ◌<◌, ◌≤◌, ◌+◌, List, [], ◌∷◌, ◌++◌, length, replicate, set as set_at, arith, min, max, length-set, get_or, take}
use Rattle.std.proofs.lemmas.List.{length-replicate, take_more, take_all}
use Rattle.std.proofs.lemmas.List.Elements.{All-set, All-replicate}
use Rattle.std.specs.FinMap as finmap
use Rattle.hk_model.proofs.Replica.Lawful.{settled_lawful}
use Rattle.hk_model.specs.Replica.Streams.{StreamContent, unknown}
use Rattle.hk_model.specs.Replica.Content.{least_closed}
use Rattle.hk_model.specs.Replica.Lawful.{IsLawfulStream}
use Rattle.hk_marks.proofs.Limits.{unknown_numbered}
use Rattle.hk_marks.specs.Seen.{AreStreams, IsNumbered, up_to}
use Rattle.hk_marks.specs.Steps.{with_number, with_mark, with_prefix}
use Rattle.std.specs.FinSet as set

pub AreStreams-set : (streams : List StreamContent) (i : ℕ) (s : StreamContent) → AreStreams streams → IsLawfulStream s → IsNumbered s → AreStreams (set_at streams i s)
AreStreams-set streams i s are lawful numbered =
    record {
      least = omega (arith, length-set {A = StreamContent}, are.least);
      most = omega (arith, length-set {A = StreamContent}, are.most);
      lawful = All-set IsLawfulStream streams i s lawful are.lawful;
      numbered = All-set IsNumbered streams i s numbered are.numbered;
    }

pub AreStreams-unknown : (n : ℕ) → 1 ≤ n → n ≤ 64 → AreStreams (replicate n unknown)
AreStreams-unknown n above within =
    let count = length-replicate n unknown in
    record {
      least = omega arith;
      most = omega arith;
      lawful = All-replicate IsLawfulStream n unknown (settled_lawful set.empty 0 []);
      numbered = All-replicate IsNumbered n unknown unknown_numbered;
    }

-- the least of a time and the closed times
abbrev pub least_from : ℕ → List StreamContent → ℕ
least_from t [] = t
least_from t (s ∷ more) = min s.closed (least_from t more)

pub least_from-push : (t : ℕ) (xs : List StreamContent) (s : StreamContent) → least_from t (xs ++ s ∷ []) ≡ min (least_from t xs) s.closed
least_from-push t [] s = let e : min s.closed t ≡ min t s.closed = omega arith in e
least_from-push t (x ∷ xs) s =
    let rest = least_from-push t xs s in
    let e : min x.closed (min (least_from t xs) s.closed) ≡ min (min x.closed (least_from t xs)) s.closed = omega arith in
    ap (min x.closed) rest ∙ e

least_from-least : (t : ℕ) (xs : List StreamContent) (s : StreamContent) → least_from t (s ∷ xs) ≡ min t (least_closed (s ∷ xs))
least_from-least t [] s = let e : min s.closed t ≡ min t s.closed = omega arith in e
least_from-least t (x ∷ xs) s =
    let rest = least_from-least t xs x in
    let e : min s.closed (min t (least_closed (x ∷ xs))) ≡ min t (min s.closed (least_closed (x ∷ xs))) = omega arith in
    ap (min s.closed) rest ∙ e

-- the first closed time is no less than the least
pub least_from_first : (xs : List StreamContent) → 1 ≤ length xs → least_from (get_or xs 0 unknown).closed xs ≡ least_closed xs
least_from_first [] above = absurd (omega arith)
least_from_first (s ∷ xs) above =
    let below : least_closed (s ∷ xs) ≤ s.closed = first_bound s xs in
    least_from-least s.closed xs s ∙ omega arith
  where
    first_bound : (s : StreamContent) (xs : List StreamContent) → least_closed (s ∷ xs) ≤ s.closed
    first_bound s [] = omega arith
    first_bound s (x ∷ xs) = omega arith

pub with_number_lawful : (s : StreamContent) (n : ℕ) → IsLawfulStream (with_number s n)
with_number_lawful s n = settled_lawful (set.insert s.taken n) s.closed (finmap.entries s.waiting)

pub with_mark_lawful : (s : StreamContent) (n m : ℕ) → IsLawfulStream (with_mark s n m)
with_mark_lawful s n m = settled_lawful s.taken s.closed ((n, m) ∷ finmap.entries s.waiting)

pub raised_lawful : (s : StreamContent) (prefix closed : ℕ) → IsLawfulStream (with_prefix s prefix closed)
raised_lawful s prefix closed = settled_lawful (set.union s.taken (up_to prefix)) (max s.closed closed) (finmap.entries s.waiting)

-- one more stream
pub least_from-more : (t : ℕ) (xs : List StreamContent) (i : ℕ) (s : StreamContent) (n m r : ℕ) → i < length xs → s ≡ get_or xs i s → n ≡ least_from t (take i xs) → m ≡ s.closed → r ≡ min n m → r ≡ least_from t (take (i + 1) xs)
least_from-more t xs i s n m r within here so_far is least =
    least
    ∙ (λ k. min (so_far k) (is k))
    ∙ sym (least_from-push t (take i xs) s)
    ∙ ap (least_from t) (sym (take_more xs i s within ∙ ap (λ x. take i xs ++ x ∷ []) (sym here)))

-- all streams
pub least_from-all : (xs : List StreamContent) (i n : ℕ) → 1 ≤ length xs → length xs ≤ i → n ≡ least_from (get_or xs 0 unknown).closed (take i xs) → n ≡ least_closed xs
least_from-all xs i n above beyond is = is ∙ ap (least_from (get_or xs 0 unknown).closed) (take_all i xs beyond) ∙ least_from_first xs above
