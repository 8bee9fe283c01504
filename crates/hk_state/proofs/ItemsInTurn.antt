-- Items that are added one after the other add what they say together.
use Rattle.std.proofs.Common.{◌≡◌, refl, sym, ap, ◌∙◌, ℕ, ◌+◌, ◌<◌, Bool, true, false, ◌||◌, List, [], ◌∷◌, ◌++◌, take, drop, length, get_or, inl, inr, cond, Result, Ok, Err, IfErr}
use Rattle.std.proofs.lemmas.List.{take_more, take-append-drop}
use Rattle.hk_types.specs.declared.faults.Refusal.{Refusal}
use Rattle.hk_types.specs.declared.faults.Refusal.TheVariants.{Conflict, Memory}
use Rattle.hk_log.specs.declared.item.Item.{Item}
use Rattle.hk_log.specs.declared.item.Item.TheVariants.{Closed}
use Rattle.hk_log.specs.Items.{MarkValue}
use Rattle.hk_model.specs.History.Facts.{rows_of, ends_of}
use Rattle.hk_model.specs.Replica.Maps.{union}
use Rattle.hk_model.proofs.Replica.Changes.{no_more_facts}
use Rattle.hk_store.specs.Facts.{FactsValue}
use Rattle.hk_state.specs.Items.{facts_with, item_conflicts, conflict_in_turn, RefusesWhere}
use Rattle.hk_state.proofs.MapsInConflict.{union_assoc, rows_both, ends_both}

-- no item adds nothing, nor does a mark
pub with_none : (f : FactsValue) → facts_with f [] ≡ f
with_none f = λ i. record { rows = no_more_facts f.rows i; ends = no_more_facts f.ends i }

pub with_mark : (f : FactsValue) (m : MarkValue) → facts_with f (Closed m ∷ []) ≡ f
with_mark f m = λ i. record { rows = no_more_facts f.rows i; ends = no_more_facts f.ends i }

-- some items, and then others
pub with_both : (f : FactsValue) (p q : List Item) → facts_with (facts_with f p) q ≡ facts_with f (p ++ q)
with_both f p q = λ i. record {
  rows = (union_assoc f.rows (rows_of p) (rows_of q) ∙ ap (union f.rows) (rows_both p q)) i;
  ends = (union_assoc f.ends (ends_of p) (ends_of q) ∙ ap (union f.ends) (ends_both p q)) i;
}

or_assoc : (a b c : Bool) → (a || (b || c)) ≡ ((a || b) || c)
or_assoc true b c = refl
or_assoc false b c = refl

pub turn-append : (f : FactsValue) (p q : List Item) → conflict_in_turn f (p ++ q) ≡ (conflict_in_turn f p || conflict_in_turn (facts_with f p) q)
turn-append f [] q = ap (λ g. conflict_in_turn g q) (sym (with_none f))
turn-append f (x ∷ p) q =
    let g = facts_with f (x ∷ []) in
    ap (λ b. item_conflicts f x || b) (turn-append g p q ∙ ap (λ h. conflict_in_turn g p || conflict_in_turn h q) (with_both f (x ∷ []) p))
    ∙ or_assoc (item_conflicts f x) (conflict_in_turn g p) (conflict_in_turn (facts_with f (x ∷ p)) q)

or_none : (a : Bool) → (a || false) ≡ a
or_none true = refl
or_none false = refl

or_true : (a : Bool) → (a || true) ≡ true
or_true true = refl
or_true false = refl

module _ (f now : FactsValue) (items : List Item) (i : ℕ) (x : Item) (is : x ≡ get_or items i x) (below : i < length items) (before : now ≡ facts_with f (take i items)) where
  up_to : take (i + 1) items ≡ take i items ++ x ∷ []
  up_to = take_more items i x below ∙ ap (λ (y : Item). take i items ++ y ∷ []) (sym is)

  -- one item more
  pub one_more : (new : FactsValue) → new ≡ facts_with now (x ∷ []) → new ≡ facts_with f (take (i + 1) items)
  one_more new put = put ∙ ap (λ g. facts_with g (x ∷ [])) before ∙ with_both f (take i items) (x ∷ []) ∙ ap (facts_with f) (sym up_to)

  turn_here : conflict_in_turn f (take (i + 1) items) ≡ (conflict_in_turn f (take i items) || item_conflicts now x)
  turn_here =
      ap (conflict_in_turn f) up_to ∙ turn-append f (take i items) (x ∷ [])
      ∙ ap (λ g. conflict_in_turn f (take i items) || (item_conflicts g x || false)) (sym before)
      ∙ ap (λ b. conflict_in_turn f (take i items) || b) (or_none (item_conflicts now x))

  pub still_none : conflict_in_turn f (take i items) ≡ false → item_conflicts now x ≡ false → conflict_in_turn f (take (i + 1) items) ≡ false
  still_none none here = turn_here ∙ (λ i. none i || here i)

  -- why an item is refused is why the items are
  pub refused_in : (why : Refusal) → RefusesWhere (item_conflicts now x) why → RefusesWhere (conflict_in_turn f items) why
  refused_in why (inl m) = inl m
  refused_in why (inr e) = inr (
    e.0,
    ap (conflict_in_turn f) (sym (take-append-drop (i + 1) items))
        ∙ turn-append f (take (i + 1) items) (drop (i + 1) items)
        ∙ ap (λ b. b || conflict_in_turn (facts_with f (take (i + 1) items)) (drop (i + 1) items)) (turn_here ∙ ap (λ b. conflict_in_turn f (take i items) || b) e.1 ∙ or_true (conflict_in_turn f (take i items))),
  )

-- why an entry is refused
pub refused_where : (conflicts : Bool) (r : Result (Unit {0}) Refusal) → IfErr r (λ why. why ≡ cond conflicts Conflict Memory) → IfErr r (RefusesWhere conflicts)
refused_where conflicts (Ok done) e = tt
refused_where true (Err why) e = inr (e, refl)
refused_where false (Err why) e = inl e
