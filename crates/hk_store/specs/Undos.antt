-- The facts without what was added to them, and what keeps writes from being added.
use Rattle.std.specs.Prelude.{ℕ, Bool, List, [], ◌∷◌}
use Rattle.std.specs.List.{list_any}
use Rattle.hk_types.specs.Values.{RowValue}
use Rattle.hk_types.specs.declared.version_key.VersionKey.{VersionKey}
use Rattle.hk_model.specs.History.Facts.{inserted_version}
use Rattle.hk_facts.specs.declared.fact.Fact.{Fact}
use Rattle.hk_facts.specs.declared.fact.Fact.TheVariants.{Row, End}
use Rattle.hk_facts.specs.declared.fact.Part.{Part}
use Rattle.hk_facts.specs.declared.fact.Part.TheVariants.{Row as RowPart, End as EndPart}
use Rattle.hk_chains.specs.Facts.{FactsValue, conflicts_at, facts_without}

-- the facts without these parts, the last taken out first
abbrev pub rolled_back : List (VersionKey × Part) → FactsValue → FactsValue
rolled_back [] f = f
rolled_back (part ∷ added) f = facts_without (rolled_back added f) part.0 part.1

-- the part of a version that a fact is
abbrev pub part_of : Fact → Part
part_of (Row row) = RowPart
part_of (End died) = EndPart

-- whether another row is known than one of these, which were put in at t
abbrev pub rows_conflict : FactsValue → ℕ → List (ℕ × ℕ × RowValue) → Bool
rows_conflict f t rows = list_any (λ r. conflicts_at f (inserted_version t r).0 (Row r.2)) rows

-- whether another end of one of these versions is known than t
abbrev pub ends_conflict : FactsValue → ℕ → List VersionKey → Bool
ends_conflict f t versions = list_any (λ v. conflicts_at f v (End t)) versions
