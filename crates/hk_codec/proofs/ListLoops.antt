-- What loops over the lists of an entry know.
use Rattle.std.proofs.Common.{◌≡◌, ◌≢◌, ℕ, zero, suc, ◌-◌, ◌≤◌, ◌<◌, true, false, eqb, ltb, ◌&&◌, List, [], ◌∷◌, ◌++◌, All, length, map, take, drop, get_or, Option, Some, None, refl, sym, ap, subst, ◌∙◌, append_assoc, append-nil, arith, inl, inr}
use Rattle.std.specs.Int.{w16}
use Rattle.std.specs.List.{flat_map, slice_get, AllByRecursion}
use Rattle.std.proofs.lemmas.Bool.{ltb-true, eqb-true}
use Rattle.std.proofs.lemmas.List.{take-append-drop, length-take, length-drop}
use Rattle.std.proofs.lemmas.List.Concat.{flat_map-cons}
use Rattle.std.proofs.lemmas.List.Elements.{recursion_from_All}
use Rattle.std.proofs.Math.Seq.{drop-cons}
use Rattle.hk_log.specs.Items.{is_before, rise_after, rise}
use Rattle.hk_frames.specs.Fields.{number}
use Rattle.hk_frames.proofs.ReadingSteps.{both, either}
use Rattle.hk_frames.proofs.Prefix.{kept_both}
use Rattle.hk_codec.specs.Lists.{groups_of, group_text, grouped_text, list_text, last_place, StartsOther, IsFirstGroup}
use Rattle.hk_codec.proofs.LongestRuns.{not_same, run_then}

-- ---- the last place

abbrev some_of : {X : Type 0} → X → Option X
some_of x = Some x

some_is : {X : Type 0} (x y : X) → some_of x ≡ some_of y → x ≡ y
some_is x y e = cc

last_from : {X : Type 0} (place : X → ℕ × ℕ) (before : Option (ℕ × ℕ)) (x : X) (xs : List X) (y : X) → some_of y ≡ slice_get (x ∷ xs) (length xs) → some_of (place y) ≡ last_place place before (x ∷ xs)
last_from place before x [] y e = ap (λ z. Some (place z)) (some_is y x e)
last_from place before x (z ∷ xs) y e = last_from place (Some (place x)) z xs y e

pub last_is : {X : Type 0} (place : X → ℕ × ℕ) (xs : List X) (y : X) → some_of y ≡ slice_get xs (length xs - 1) → some_of (place y) ≡ last_place place None xs
last_is place [] y e = absurd cc
last_is {X = X} place (x ∷ xs) y e =
    let n : length (x ∷ xs) - 1 ≡ length xs = omega arith in
    last_from place None x xs y (e ∙ ap (slice_get (x ∷ xs)) n)

pub no_last : {X : Type 0} (place : X → ℕ × ℕ) (xs : List X) → None ≡ slice_get xs (length xs - 1) → None ≡ last_place place None xs
no_last place [] e = refl
no_last {X = X} place (x ∷ xs) e = absurd (there x xs (e ∙ ap (slice_get (x ∷ xs)) (omega arith)))
  where
    there : (x : X) (xs : List X) → None ≡ slice_get (x ∷ xs) (length xs) → ⊥
    there x [] h = cc
    there x (y ∷ xs) h = there y xs h

-- ---- runs

pub other_at : {X : Type 0} (place : X → ℕ × ℕ) (t : ℕ) (xs : List X) (i : ℕ) (x : X) → i < length xs → x ≡ get_or xs i x → (place x).0 ≢ t → StartsOther place t (drop i xs)
other_at {X = X} place t xs i x lt is never =
    let cut : drop i xs ≡ get_or xs i x ∷ drop (suc i) xs = drop-cons xs i x lt in
    let here : (place (get_or xs i x)).0 ≢ t = subst (λ (y : X). (place y).0 ≢ t) is never in
    subst (λ (l : List X). StartsOther place t l) (sym cut) here

pub none_other : {X : Type 0} (place : X → ℕ × ℕ) (t : ℕ) (xs : List X) → length xs ≡ 0 → StartsOther place t xs
none_other place t [] e = tt
none_other place t (x ∷ xs) e = absurd (omega (arith, e))

pub no_first : {X : Type 0} (xs : List X) → None ≡ slice_get xs 0 → length xs ≡ 0
no_first [] e = refl
no_first (x ∷ xs) e = absurd cc

pub first_is : {X : Type 0} (place : X → ℕ × ℕ) (xs : List X) (x : X) (t n : ℕ) → some_of x ≡ slice_get xs 0 → (place x).0 ≡ t → n ≤ length xs → All (λ y. (place y).0 ≡ t) (take n xs) → StartsOther place t (drop n xs) → IsFirstGroup place xs t n
first_is place [] x t n e in_ most same other = absurd cc
first_is place (y ∷ xs) x t zero e in_ most same other = absurd (other (ap (λ z. (place z).0) (sym (some_is x y e)) ∙ in_))
first_is {X = X} place (y ∷ xs) x t (suc n) e in_ most same other =
    let front = take (suc n) (y ∷ xs) in
    let back = drop (suc n) (y ∷ xs) in
    let some : 1 ≤ length front = omega (arith, length-take (suc n) (y ∷ xs), most) in
    let whole : front ++ back ≡ y ∷ xs = take-append-drop (suc n) (y ∷ xs) in
    record {
      least = omega arith;
      most = most;
      groups = ap (groups_of place) (sym whole) ∙ run_then place t front back some (recursion_from_All (λ z. (place z).0 ≡ t) front same) other;
    }

-- a place is of no lower table than one before it
no_lower : (p q : ℕ × ℕ) → is_before p q ≡ true → p.0 ≤ q.0
no_lower p q before =
    elim (either (ltb p.0 q.0) (eqb p.0 q.0 && ltb p.1 q.1) before) [
      | inl lt ↦ omega (arith, ltb-true p.0 q.0 lt)
      | inr h ↦ omega (arith, eqb-true p.0 q.0 (both (eqb p.0 q.0) (ltb p.1 q.1) h).0)
    ]

-- places that rise, and end in the table that they begin in, are all of it
all_of_it : {X : Type 0} (place : X → ℕ × ℕ) (t : ℕ) (p q : ℕ × ℕ) (xs : List X) → t ≤ p.0 → q.0 ≡ t → rise_after (Some p) (map place xs) ≡ true → some_of q ≡ last_place place (Some p) xs → (p.0 ≡ t) × AllByRecursion (λ x. (place x).0 ≡ t) xs
all_of_it place t p q [] least is rises last = (ap (λ r. r.0) (sym (some_is q p last)) ∙ is, tt)
all_of_it place t p q (x ∷ xs) least is rises last =
    let r = both (is_before p (place x)) (rise_after (Some (place x)) (map place xs)) rises in
    let up : p.0 ≤ (place x).0 = no_lower p (place x) r.0 in
    let rest = all_of_it place t (place x) q xs (omega (arith, least, up)) is r.1 last in
    (omega (arith, least, up, rest.0), (rest.0, rest.1))

-- elements that rise, of which the first and the last are of one table, are one group
pub one_run_only : {X : Type 0} (place : X → ℕ × ℕ) (xs : List X) (x y : X) (t : ℕ) → rise (map place xs) ≡ true → some_of x ≡ slice_get xs 0 → some_of y ≡ slice_get xs (length xs - 1) → (place x).0 ≡ t → (place y).0 ≡ t → groups_of place xs ≡ (t, xs) ∷ []
unfolding groups_of
one_run_only place [] x y t rises first last in_ out = absurd cc
one_run_only {X = X} place (z ∷ zs) x y t rises first last in_ out =
    let at : (place z).0 ≡ t = ap (λ w. (place w).0) (sym (some_is x z first)) ∙ in_ in
    let ends : some_of (place y) ≡ last_place place (Some (place z)) zs = last_is place (z ∷ zs) y last in
    let all = all_of_it place t (place z) (place y) zs (omega (arith, at)) out (both true (rise_after (Some (place z)) (map place zs)) rises).1 ends in
    ap (groups_of place) (sym (append-nil (z ∷ zs))) ∙ run_then place t (z ∷ zs) [] (omega arith) (at, all.1) tt

-- how a list of one group is written
pub one_group_text : {X : Type 0} (version : ℕ) (place : X → ℕ × ℕ) (text : X → List ℕ) (xs : List X) (t : ℕ) → version ≢ 1 → groups_of place xs ≡ (t, xs) ∷ [] → number w16 1 ++ group_text text (t, xs) ≡ list_text version place text xs
unfolding list_text grouped_text
one_group_text {X = X} version place text xs t never one =
    let other : eqb version 1 ≡ false = not_same version 1 never in
    let texts : flat_map (group_text text) ((t, xs) ∷ []) ≡ group_text text (t, xs) = flat_map-cons (group_text text) (t, xs) [] ∙ append-nil (group_text text (t, xs)) in
    rw other (ap (λ (l : List ℕ). number w16 1 ++ l) (sym texts) ∙ ap (λ (gs : List (ℕ × List X)). number w16 (length gs) ++ flat_map (group_text text) gs) (sym one))

-- ---- counting and writing groups

-- what was written so far, and what is still to write
pub record ToWrite {X : Type 0} (place : X → ℕ × ℕ) (text : X → List ℕ) (old out all : List ℕ) (rest : List X) : Type 0 where
  pub total : out ++ flat_map (group_text text) (groups_of place rest) ≡ all
  pub kept : take (length old) out ≡ old
  pub short : length rest ≤ 1024

module _ {X : Type 0} (place : X → ℕ × ℕ) (text : X → List ℕ) (old out all : List ℕ) (rest : List X) (w : ToWrite place text old out all rest) where
  pub write_more : (t n : ℕ) (group behind : List X) (next : List ℕ) → IsFirstGroup place rest t n → group ≡ take n rest → behind ≡ drop n rest → next ≡ out ++ group_text text (t, group) → ToWrite place text old next all behind
  write_more t n group behind next g front back is =
      let texts : flat_map (group_text text) (groups_of place rest) ≡ group_text text (t, take n rest) ++ flat_map (group_text text) (groups_of place (drop n rest)) = ap (flat_map (group_text text)) g.groups ∙ flat_map-cons (group_text text) (t, take n rest) (groups_of place (drop n rest)) in
      let wrote : next ≡ out ++ group_text text (t, take n rest) = is ∙ ap (λ (l : List X). out ++ group_text text (t, l)) front in
      let total : next ++ flat_map (group_text text) (groups_of place behind) ≡ all =
      ap (λ (l : List X). next ++ flat_map (group_text text) (groups_of place l)) back
      ∙ ap (λ (l : List ℕ). l ++ flat_map (group_text text) (groups_of place (drop n rest))) wrote
      ∙ append_assoc out (group_text text (t, take n rest)) (flat_map (group_text text) (groups_of place (drop n rest)))
      ∙ ap (λ (l : List ℕ). out ++ l) (sym texts)
      ∙ w.total in
      let whole : out ≡ old ++ drop (length old) out = sym (take-append-drop (length old) out) ∙ ap (λ (l : List ℕ). l ++ drop (length old) out) w.kept in
      record {
        total = total;
        kept = kept_both old (drop (length old) out) out next whole (kept_front out (group_text text (t, group)) next is);
        short = omega (arith, ap length back, length-drop n rest, w.short);
      }
    where
      kept_front : (a t b : List ℕ) → b ≡ a ++ t → take (length a) b ≡ a
      kept_front a t b e = ap (take (length a)) e ∙ take_seam a t
        where
          take_seam : (a t : List ℕ) → take (length a) (a ++ t) ≡ a
          take_seam [] t = refl
          take_seam (x ∷ a) t = ap (λ (l : List ℕ). x ∷ l) (take_seam a t)

  pub write_stops : (next : List ℕ) → take (length out) next ≡ out → take (length old) next ≡ old
  write_stops next k =
      let whole : out ≡ old ++ drop (length old) out = sym (take-append-drop (length old) out) ∙ ap (λ (l : List ℕ). l ++ drop (length old) out) w.kept in
      kept_both old (drop (length old) out) out next whole k

  pub written : length rest ≡ 0 → out ≡ all
  unfolding groups_of
  written none = done rest none w.total
    where
      done : (l : List X) → length l ≡ 0 → out ++ flat_map (group_text text) (groups_of place l) ≡ all → out ≡ all
      done [] e h = sym (append-nil out) ∙ h
      done (x ∷ l) e h = absurd (omega (arith, e))
