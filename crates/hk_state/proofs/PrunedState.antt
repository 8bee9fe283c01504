-- What pruning makes of a state's parts.
use Rattle.std.proofs.Common.{◌≡◌, sym, ap, ◌∙◌, subst, ℕ, ◌≤◌, false, cond, Result, Ok, Err, IsErr, IsErrAnd, List, nat_lt, nat_le, nat_cmp, is_lt, is_le, inr, arith, ltb-false, true≢false}
use Rattle.std.proofs.lemmas.Bool.Decides.{nat_tests}
use Rattle.hk_types.specs.Values.{ConfigValue}
use Rattle.hk_types.specs.declared.faults.Refusal.{Refusal}
use Rattle.hk_types.specs.declared.faults.Refusal.TheVariants.{AheadOfMark, Memory}
use Rattle.hk_model.specs.Replica.Content.{Content, readable}
use Rattle.hk_model.specs.Replica.Streams.{StreamContent}
use Rattle.hk_model.specs.Replica.Rules.{prune_result}
use Rattle.hk_model.specs.Replica.Lawful.{IsLawful}
use Rattle.hk_model.proofs.Replica.Lawful.{pruned_lawful}
use Rattle.hk_state.specs.Calls.{Prunes}
use Rattle.hk_store.specs.Drops.{pruned_facts}
use Rattle.hk_store.specs.Facts.{FactsValue}
use Rattle.hk_state.specs.Replica.{content_of_parts, IsReplica}

module _ (config : ConfigValue) (h : ℕ) (facts : FactsValue) (got : List StreamContent) (t : ℕ) where
  abbrev here : Content
  here = content_of_parts config h facts got

  pub cut : nat_lt (readable here) t ≡ false → nat_le t h ≡ false → prune_result here t ≡ Ok (content_of_parts config t (pruned_facts facts t) got)
  cut below above =
      ap (λ b. cond b (Err (AheadOfMark (readable here))) (cond (nat_le t h) (Ok here) (Ok (content_of_parts config t (pruned_facts facts t) got)))) below
      ∙ ap (λ b. cond b (Ok here) (Ok (content_of_parts config t (pruned_facts facts t) got))) above

  pub prune_refused : nat_lt (readable here) t ≡ false → nat_le t h ≡ false → (r : Result (Unit {0}) Refusal) → IsErr r → IsErrAnd r (λ why. why ≡ Memory) → (facts' : FactsValue) → facts' ≡ facts → Prunes here (content_of_parts config h facts' got) t r
  prune_refused below above (Ok done) err memory facts' same = absurd (true≢false (sym err))
  prune_refused below above (Err why) err memory facts' same = ((λ i. content_of_parts config h (same i) got), inr (memory, (content_of_parts config t (pruned_facts facts t) got, cut below above)))

  pub prune_keeps : IsReplica config h facts got → nat_lt (readable here) t ≡ false → (facts' : FactsValue) → facts' ≡ pruned_facts facts t → IsReplica config t facts' got
  prune_keeps is below facts' same = record {
    as_many = is.as_many;
    lawful = subst (λ (f : FactsValue). IsLawful (content_of_parts config t f got)) (sym same) (pruned_lawful here t is.lawful within);
  }
    where
      within : t ≤ readable here
      within = ltb-false (readable here) t below

pub not_below : (a b : ℕ) → is_lt (nat_cmp a b) ≡ nat_lt a b
not_below a b = grind (arith, nat_tests)

pub not_above : (a b : ℕ) → is_le (nat_cmp a b) ≡ nat_le a b
not_above a b = grind (arith, nat_tests)
