-- A hold that waits to be published.
use Rattle.std.proofs.Common.{◌≡◌, ℕ, ◌+◌, true, List, [], ◌∷◌, ◌++◌, length, Some, refl, sym, ap, ◌∙◌, subst, length-append}
use Rattle.std.proofs.lemmas.List.Elements.{filter_map-append}
use Rattle.hk_types.specs.declared.faults.Refusal.TheVariants.{Unpublished}
use Rattle.hk_oplog.specs.declared.op.Op.{Op}
use Rattle.hk_oplog.specs.declared.op.Op.TheVariants.{Hold as HoldAt}
use Rattle.hk_oplog.specs.Replay.{replay, is_legal}
use Rattle.hk_oplog.specs.Lists.{hold_time, hold_times}
use Rattle.hk_node.specs.Changes.{Lists, all_of, Refuses, IsHandedOut}
use Rattle.hk_oplog.proofs.LegalLists.{legal-snoc, last_snoc}
use Rattle.hk_oplog.proofs.Holds.{replay_count}

-- with one more hold
one_hold : (ops : List Op) (t : ℕ) → length (hold_times (ops ++ HoldAt t ∷ [])) ≡ length (hold_times ops) + 1
one_hold ops t = ap length (filter_map-append hold_time ops (HoldAt t ∷ [])) ∙ length-append (hold_times ops) (t ∷ [])

pub hold_waits : (old new : Lists) (t ops count : ℕ) → Refuses old (HoldAt t) (Unpublished ops) new → is_legal new.0 ≡ true → count ≡ (replay new.0).hold_count
    → IsHandedOut (all_of new) t (Some (record { reader = count + 1; at = t })) (Unpublished ops)
hold_waits old new t ops count h legal is =
    let first : new.0 ≡ all_of old = ap (λ (l : Lists). l.0) h.1 in
    let whole : all_of new ≡ all_of old ++ HoldAt t ∷ [] = ap all_of h.1 in
    let lawful : is_legal (all_of old) ≡ true = subst (λ (l : List Op). is_legal l ≡ true) first legal in
    let counted : count ≡ length (hold_times (all_of old)) = is ∙ ap (λ (l : List Op). (replay l).hold_count) first ∙ replay_count (all_of old) lawful in
    let number : count + 1 ≡ length (hold_times (all_of old ++ HoldAt t ∷ [])) = ap (λ (n : ℕ). n + 1) counted ∙ sym (one_hold (all_of old) t) in
    let long : ops ≡ length (all_of old ++ HoldAt t ∷ []) = h.2 ∙ sym (length-append (all_of old) (HoldAt t ∷ [])) in
    let all : IsHandedOut (all_of old ++ HoldAt t ∷ []) t (Some (record { reader = count + 1; at = t })) (Unpublished ops) =
    (legal-snoc (all_of old) (HoldAt t) lawful h.0, last_snoc (all_of old) (HoldAt t), (refl, number), ap Unpublished long) in
    subst (λ (l : List Op). IsHandedOut l t (Some (record { reader = count + 1; at = t })) (Unpublished ops)) (sym whole) all
