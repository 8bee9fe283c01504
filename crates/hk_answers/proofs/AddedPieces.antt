-- Elements of a list that are added from a place on.
use Rattle.std.proofs.Common.{◌≡◌, refl, sym, ap, ◌∙◌, ℕ, ◌+◌, ◌<◌, ◌≤◌, List, [], ◌∷◌, ◌++◌, length, take, drop, get_or, append_assoc, append-nil, arith}
use Rattle.std.specs.List.{flat_map}
use Rattle.std.proofs.lemmas.List.{length-append, drop_more, drop_all}
use Rattle.std.proofs.lemmas.List.Concat.{flat_map-cons}
use Rattle.hk_frames.proofs.Prefix.{kept_both}
use Rattle.hk_model.specs.Replica.Answers.{AnswerValue, One, Rows, Number}
use Rattle.hk_answers.specs.Answers.{keyed_text, answer_text}
use Rattle.hk_answers.specs.Pieces.{AddsFrom, rows_of, answer_front}

-- the elements from the first of these numbers on were added, up to the second one
pub record AddedTo {X : Type 0} (text : X → List ℕ) (xs : List X) (from to : ℕ) (before after : List ℕ) : Type 0 where
  pub more : List ℕ
  pub added : after ≡ before ++ more
  pub rest : more ++ flat_map text (drop to xs) ≡ flat_map text (drop from xs)
  pub first : from ≤ to
  pub within : to ≤ length xs

pub added_none : {X : Type 0} (text : X → List ℕ) (xs : List X) (from : ℕ) (before : List ℕ) → from ≤ length xs → AddedTo text xs from from before before
added_none text xs from before h = record { more = []; added = sym (append-nil before); rest = refl; first = omega arith; within = h }

-- one element more
pub added_one : {X : Type 0} (text : X → List ℕ) (xs : List X) (from to : ℕ) (before mid after : List ℕ) (x : X) → AddedTo text xs from to before mid → to < length xs → x ≡ get_or xs to x → after ≡ mid ++ text x → AddedTo text xs from (to + 1) before after
added_one text xs from to before mid after x h lt is e =
    let later = drop (to + 1) xs in
    let left : text x ++ flat_map text later ≡ flat_map text (drop to xs) = sym (flat_map-cons text x later) ∙ ap (λ y. flat_map text (y ∷ later)) is ∙ ap (flat_map text) (sym (drop_more xs to x lt)) in
    record {
      more = h.more ++ text x;
      added = e ∙ ap (λ (t : List ℕ). t ++ text x) h.added ∙ append_assoc before h.more (text x);
      rest = append_assoc h.more (text x) (flat_map text later) ∙ ap (λ (t : List ℕ). h.more ++ t) left ∙ h.rest;
      first = omega (arith, h.first);
      within = omega (arith, lt);
    }

-- what was there stays there where one more fails
pub added_kept : {X : Type 0} (text : X → List ℕ) (xs : List X) (from to : ℕ) (before mid after : List ℕ) → AddedTo text xs from to before mid → take (length mid) after ≡ mid → take (length before) after ≡ before
added_kept text xs from to before mid after h k = kept_both before h.more mid after h.added k

-- where it ends
pub added_some : {X : Type 0} (text : X → List ℕ) (xs : List X) (from most to : ℕ) (before after : List ℕ) → AddedTo text xs from to before after → length before + most < length after → AddsFrom text xs from most to before after
added_some text xs from most to before after h many =
    let both = ap length h.added ∙ length-append before h.more in
    record { more = h.more; added = h.added; rest = h.rest; first = h.first; within = h.within; many = λ _. omega (arith, many, both) }

pub added_whole : {X : Type 0} (text : X → List ℕ) (xs : List X) (from most to : ℕ) (before after : List ℕ) → AddedTo text xs from to before after → length xs ≤ to → AddsFrom text xs from most to before after
added_whole text xs from most to before after h all =
    record { more = h.more; added = h.added; rest = h.rest; first = h.first; within = h.within; many = λ lt. absurd (omega (arith, lt, all)) }

-- no output has more bytes than that
pub all_added : {X : Type 0} (text : X → List ℕ) (xs : List X) (most to : ℕ) (before after : List ℕ) → AddsFrom text xs 0 most to before after → length after ≤ most → after ≡ before ++ flat_map text xs
all_added text xs most to before after h few =
    let both = ap length h.added ∙ length-append before h.more in
    let end : length xs ≤ to = grind (arith, h.many, few, both) in
    let none : drop to xs ≡ [] = drop_all to xs end in
    h.added ∙ ap (λ (t : List ℕ). before ++ t) (sym (append-nil h.more) ∙ ap (λ l. h.more ++ flat_map text l) (sym none) ∙ h.rest)

-- an answer is what comes before, and the rows
pub answer_parts : (a : AnswerValue) → answer_front a ++ flat_map keyed_text (rows_of a) ≡ answer_text a
unfolding answer_front answer_text
answer_parts (One row) = append-nil (answer_text (One row))
answer_parts (Rows rows) = refl
answer_parts (Number n) = append-nil (answer_text (Number n))
