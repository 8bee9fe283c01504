-- Items of one history are taken without a refusal.
use Rattle.std.proofs.Common.{◌≡◌, ℕ, Bool, true, false, cond, List, [], ◌∷◌, Some, None, Result, Ok, Err, inl, inr, refl, ap, ◌∙◌}
use Rattle.std.proofs.lemmas.List.Elements.{All-head, All-tail}
use Rattle.hk_types.specs.Values.{ConfigValue}
use Rattle.hk_types.specs.declared.faults.Refusal.{Refusal}
use Rattle.hk_types.specs.declared.faults.Refusal.TheVariants.{Conflict, Damaged}
use Rattle.hk_log.specs.declared.item.Item.{Item}
use Rattle.hk_model.specs.declared.took.Took.{Took}
use Rattle.hk_model.specs.Replica.Content.{Content}
use Rattle.hk_model.specs.Replica.Maps.{or_else}
use Rattle.hk_model.specs.Replica.Replicas.{Represents}
use Rattle.hk_model.specs.History.Histories.{History, IsHistory, IsItemOf, AreItemsOf}
use Rattle.hk_model.proofs.Replica.Steps.{absorb_law_proof}
use Rattle.hk_model.proofs.Replica.Members.{In}
use Rattle.hk_delta.specs.Agreeing.{content_taken, take_all, absorb_all}
use Rattle.hk_delta.specs.Repeats.{if_as_told, absorb_so}
use Rattle.hk_delta.proofs.ComparedRepeats.{all_as_told}
use Rattle.hk_oplog.specs.Replay.{full_refusal}
use Rattle.hk_oplog.specs.Guarded.{refusal_in}
use Rattle.hk_node.specs.Taken.{with_newest, TakeLaw}

module _ (config : ConfigValue) (history : History) (is : IsHistory config history) where
  taken : (items own : List Item) (g : ℕ) (a : Content) → Represents config history own g a → AreItemsOf config history items → (d : Content) × (absorb_all a items ≡ Ok d) × Represents config history (with_newest own items) g d
  taken [] own g a s of = (a, refl, s)
  taken (x ∷ xs) own g a s of =
      let one = absorb_law_proof config history is own g a s x (All-head (IsItemOf config history) x xs of) in
      let rest = taken xs (x ∷ own) g one.1 one.3 (All-tail (IsItemOf config history) x xs of) in
      (rest.0, ap (λ (r : Result (Took × Content) Refusal). take_all (content_taken r) xs) one.2 ∙ rest.1, rest.2)

newest_keeps : (items own : List Item) (x : Item) → In x own → In x (with_newest own items)
newest_keeps [] own x i = i
newest_keeps (y ∷ ys) own x i = newest_keeps ys (y ∷ own) x (inr i)

newest_has : (items own : List Item) (x : Item) → In x items → In x (with_newest own items)
newest_has [] own x i = elim i [ ]
newest_has (y ∷ ys) own x (inl e) = newest_keeps ys (y ∷ own) x (inl e)
newest_has (y ∷ ys) own x (inr i) = newest_has ys (y ∷ own) x i

pub take_law_proof : TakeLaw
take_law_proof config history own items g c is s whole of =
    let all = taken config history is items own g c.content s of in
    (λ i. or_else (cond (whole i) (Some Damaged) None) (or_else (refusal_in (compared c.guarded all.0 all.1 all.2 i)) (full_refusal c)), all)
  where
    compared : (b : Bool) (d : Content) → absorb_all c.content items ≡ Ok d → Represents config history (with_newest own items) g d → absorb_so b c.content items ≡ Ok d
    compared false d e r = e
    compared true d e r = ap (if_as_told items) e ∙ (λ i. cond (all_as_told config history is (with_newest own items) g d r items (newest_has items own) i) (Err Conflict) (Ok d))
