use Rattle.std.proofs.Common.{◌≡◌, ◌∙◌}
use Rattle.std.proofs.lemmas.Map.Entries.{entries_from_clone}
use Rattle.hk_slots.proofs.CopiedSlots.{same_slots, same_seen, laid_again}
use Rattle.hk_slots.proofs.slot_map.SlotMap.copy.Goals as goal

pub invariant_of-result : goal.invariant_of-result
invariant_of-result g c =
    let keys = entries_from_clone g.K.Clone.is_clone (λ x y. y ≡ x) g.met.K.Key.copies (λ x y e. e) c.self.inside.slots.entries c.in_ok-slots.slots.entries c.in_ok-slots.ensures.cases in
    let slots = same_slots (λ x y. g.K.Clone.is_clone x.0 y.0 × g.V.Clone.is_clone x.1 y.1) (λ x y e i. (g.met.K.Key.copies x.0 y.0 e.0 i, c.requires x.1 y.1 e.1 i)) c.self.inside.entries c.in_ok-entries.entries c.in_ok-entries.ensures.cases in
    laid_again c.self.inside.slots c.in_ok-slots.slots c.self.inside.entries c.in_ok-entries.entries keys slots g.K.Ord.cmp c.self.invariant

pub returns : goal.returns
returns g c =
    let keys = entries_from_clone g.K.Clone.is_clone (λ x y. y ≡ x) g.met.K.Key.copies (λ x y e. e) c.self.inside.slots.entries c.in_ok-slots.slots.entries c.in_ok-slots.ensures.cases in
    let slots = same_slots (λ x y. g.K.Clone.is_clone x.0 y.0 × g.V.Clone.is_clone x.1 y.1) (λ x y e i. (g.met.K.Key.copies x.0 y.0 e.0 i, c.requires x.1 y.1 e.1 i)) c.self.inside.entries c.in_ok-entries.entries c.in_ok-entries.ensures.cases in
    same_seen c.self.inside.slots c.in_ok-slots.slots c.self.inside.entries c.in_ok-entries.entries keys slots ∙ c.self.view_is
