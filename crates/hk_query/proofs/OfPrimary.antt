-- What a reply says of the primary's rows.
use Rattle.std.proofs.Common.{◌≡◌, sym, ◌∙◌, ℕ, Result, Ok, Err, MatchResult, ◌⊎◌, inl, inr}
use Rattle.hk_types.specs.declared.faults.Refusal.{Refusal}
use Rattle.hk_types.specs.declared.faults.Refusal.TheVariants.{Memory}
use Rattle.hk_model.specs.declared.answer.Answer.{Answer}
use Rattle.hk_model.specs.declared.query.Query.{Query}
use Rattle.hk_model.specs.Replica.Content.{Content}
use Rattle.hk_model.specs.Replica.Answers.{answer, answer_seen, reply, visible}
use Rattle.hk_model.proofs.Laws.{reply_law_proof}
use Rattle.hk_query.specs.Primary.{IsOfPrimary}
use Rattle.hk_state.proofs.Represented.{inside, has_conflict_with}

pub of_primary : (c : Content) (t : ℕ) (query : Query) (r : Result Answer Refusal) → MatchResult r (λ a. reply c t query ≡ Ok (answer_seen a)) (λ why. (reply c t query ≡ Err why) ⊎ ((why ≡ Memory) × (reply c t query ≡ Ok (answer (visible c t) query)))) → IsOfPrimary c t query r
of_primary c t query (Ok a) gave config history items horizon is represents old soon = (inside _ _ (sym gave ∙ reply_law_proof config history is items horizon c represents t old soon query), tt)
of_primary c t query (Err why) gave config history items horizon is represents old soon = (
  tt,
  elim gave [
    | inl e ↦ absurd (has_conflict_with _ why (sym (reply_law_proof config history is items horizon c represents t old soon query) ∙ e))
    | inr m ↦ m.0
  ],
)
