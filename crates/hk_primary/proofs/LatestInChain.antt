-- What a chain tells of the latest version of its row.
use Rattle.std.proofs.Common.{◌≡◌, refl, sym, ap, ◌∙◌, ℕ, ◌≤◌, Option, Some, None, is_some, true, true≢false, le-leb}
use Rattle.std.specs.FinMap as finmap
use Rattle.hk_types.specs.Values.{RowValue}
use Rattle.hk_log.specs.Versions.{VersionValue}
use Rattle.hk_model.specs.History.Rows.{RowKey, version_of}
use Rattle.hk_facts.specs.Chains.{ChainValue, latest_at}
use Rattle.hk_facts.specs.Facts.{row_of, died_of}
use Rattle.hk_facts.proofs.LatestVersion.{newest, no_newest}
use Rattle.hk_facts.proofs.ShownRow.{IsChainOf}
use Rattle.hk_store.specs.Facts.{FactsValue, known_at}
use Rattle.hk_store.specs.Reads.{with_facts}
use Rattle.hk_store.proofs.StoredFacts.{known_row}
use Rattle.hk_store.proofs.ChainsAtTime.{chain_of}
use Rattle.hk_primary.specs.Looks.{IsLatest}

module _ (f : FactsValue) (k : RowKey) (t : ℕ) where
  pub latest_nowhere : ((born : ℕ) → known_at f (version_of k born) ≡ None) → IsLatest f t k None
  latest_nowhere none born r here l = let gone : None ≡ finmap.get f.rows (version_of k born) = sym (ap row_of (none born)) ∙ known_row f (version_of k born) in let g : None ≡ Some r = gone ∙ here in cc

  module _ (chain : ChainValue) (has : (born : ℕ) → finmap.get chain born ≡ known_at f (version_of k born)) where
    is : IsChainOf (with_facts f) k chain
    is = chain_of (with_facts f) k chain has

    row_there : (born : ℕ) (r : RowValue) → finmap.get f.rows (version_of k born) ≡ Some r → (w : VersionValue) × (finmap.get chain born ≡ Some w) × (is_some w.row ≡ true)
    row_there born r here = by (finmap.get chain born) refl (is.rows born ∙ here)
      where
        by : (o : Option VersionValue) → finmap.get chain born ≡ o → row_of o ≡ Some r → (w : VersionValue) × (finmap.get chain born ≡ Some w) × (is_some w.row ≡ true)
        by None e g = absurd cc
        by (Some w) e g = (w, e, ap is_some g)

    there : (x : Option RowValue) → is_some x ≡ true → (r : RowValue) × (x ≡ Some r)
    there None e = absurd (true≢false (sym e))
    there (Some r) e = (r, refl)

    pub latest_none : None ≡ latest_at chain t → IsLatest f t k None
    latest_none none born r here l =
        let w = row_there born r here in
        no_newest chain t (sym none) born w.0 w.1 (le-leb born t l) w.2

    pub latest_some : (born : ℕ) (v : VersionValue) → Some (born, v) ≡ latest_at chain t → IsLatest f t k (Some (born, v.died))
    latest_some born v found =
        let n = newest chain t (born, v) (sym found) in
        let row = there v.row n.2 in (
          (row.0, sym (is.rows born) ∙ ap row_of n.0 ∙ row.1),
          sym (sym (is.ends born) ∙ ap died_of n.0),
          λ b r here l. let w = row_there b r here in n.3 b w.0 w.1 (le-leb b t l) w.2,
        )
