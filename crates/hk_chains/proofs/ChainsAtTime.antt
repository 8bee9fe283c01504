-- What chains tell of a state at a time.
use Rattle.std.proofs.Common.{◌≡◌, sym, ap, ◌∙◌, ℕ, Option, Some, None}
use Rattle.std.specs.FinMap as finmap
use Rattle.hk_types.specs.Values.{RowValue}
use Rattle.hk_model.specs.History.Rows.{RowKey, version_of}
use Rattle.hk_model.specs.Replica.Content.{Content}
use Rattle.hk_model.specs.Replica.Answers.{visible}
use Rattle.hk_model.proofs.Replica.Shown.{none_visible}
use Rattle.hk_facts.specs.Chains.{ChainValue, row_at}
use Rattle.hk_facts.specs.Facts.{row_of, died_of}
use Rattle.hk_facts.proofs.ShownRow.{IsChainOf, chain_visible}
use Rattle.hk_chains.specs.Facts.{FactsValue, known_at}
use Rattle.hk_chains.proofs.StoredFacts.{known_row, known_end}

abbrev pub facts_in : Content → FactsValue
facts_in c = record { rows = c.rows; ends = c.ends }

module _ (c : Content) (k : RowKey) where
  pub chain_of : (chain : ChainValue) → ((born : ℕ) → finmap.get chain born ≡ known_at (facts_in c) (version_of k born)) → IsChainOf c k chain
  chain_of chain has = record {
    rows = λ born. ap row_of (has born) ∙ known_row (facts_in c) (version_of k born);
    ends = λ born. ap died_of (has born) ∙ known_end (facts_in c) (version_of k born);
  }

  pub row_found : (chain : ChainValue) (t : ℕ) (r : Option RowValue) → ((born : ℕ) → finmap.get chain born ≡ known_at (facts_in c) (version_of k born)) → r ≡ row_at chain t → r ≡ finmap.get (visible c t) k
  row_found chain t r has is = is ∙ sym (chain_visible c k chain (chain_of chain has) t)

  no_row : (born : ℕ) → known_at (facts_in c) (version_of k born) ≡ None → finmap.get c.rows (version_of k born) ≡ None
  no_row born e = sym (known_row (facts_in c) (version_of k born)) ∙ ap row_of e

  pub row_missed : (t : ℕ) → ((born : ℕ) → known_at (facts_in c) (version_of k born) ≡ None) → None ≡ finmap.get (visible c t) k
  row_missed t none = sym (none_visible c t k (λ born r here. absurd (has_conflict_with r (sym (no_row born (none born)) ∙ here))))
    where
      has_conflict_with : (r : RowValue) → ◌≡◌ {A = Option RowValue} None (Some r) → ⊥
      has_conflict_with r e = cc
