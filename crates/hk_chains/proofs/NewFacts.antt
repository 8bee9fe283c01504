-- Facts that are added where nothing like them is known.
use Rattle.std.proofs.Common.{◌≡◌, refl, sym, ap, ◌∙◌, ℕ, Bool, true, false, cond, not, Option, Some, None}
use Rattle.std.specs.Option.{is_some}
use Rattle.std.specs.FinMap as finmap
use Rattle.hk_types.specs.Values.{RowValue}
use Rattle.hk_types.specs.declared.version_key.VersionKey.{VersionKey}
use Rattle.hk_log.specs.Versions.{VersionValue}
use Rattle.hk_facts.specs.declared.fact.Fact.{Fact}
use Rattle.hk_facts.specs.declared.fact.Fact.TheVariants.{Row, End}
use Rattle.hk_facts.specs.Facts.{has_like, row_of, died_of}
use Rattle.hk_chains.specs.Facts.{ChainsValue, FactsValue, stored_version, facts_of, with_fact_at}
use Rattle.hk_chains.specs.Indexed.{IsNew}
use Rattle.hk_chains.proofs.StoredFacts.{get_row, get_end}

none_of : {X : Type 0} (o : Option X) → is_some o ≡ false → o ≡ None
none_of None e = refl
none_of (Some x) e = cc

-- what is known already is not added again
added_again : (f : FactsValue) (v : VersionKey) (row : RowValue) → is_some (finmap.get f.rows v) ≡ true → f ≡ with_fact_at f v (Row row)
added_again f v row is = ap (λ b. record { rows = cond b f.rows (finmap.insert f.rows v row); ends = f.ends }) (sym is)

ended_again : (f : FactsValue) (v : VersionKey) (died : ℕ) → is_some (finmap.get f.ends v) ≡ true → f ≡ with_fact_at f v (End died)
ended_again f v died is = ap (λ b. record { rows = f.rows; ends = cond b f.ends (finmap.insert f.ends v died) }) (sym is)

-- ---- what is known of a version, as it is stored

module _ (m : ChainsValue) (v : VersionKey) (x : Option VersionValue) (is : x ≡ stored_version m v) where
  pub new_to : (fact : Fact) → has_like x fact ≡ false → IsNew (facts_of m) v fact
  new_to (Row row) e = get_row m v ∙ ap row_of (sym is) ∙ none_of (row_of x) e
  new_to (End died) e = get_end m v ∙ ap died_of (sym is) ∙ none_of (died_of x) e

  pub known_to : (fact : Fact) → has_like x fact ≡ true → facts_of m ≡ with_fact_at (facts_of m) v fact
  known_to (Row row) e = added_again (facts_of m) v row (ap is_some (get_row m v ∙ ap row_of (sym is)) ∙ e)
  known_to (End died) e = ended_again (facts_of m) v died (ap is_some (get_end m v ∙ ap died_of (sym is)) ∙ e)

pub turned : (b c : Bool) → b ≡ not c → c ≡ not b
turned b true e = ap not (sym e)
turned b false e = ap not (sym e)
