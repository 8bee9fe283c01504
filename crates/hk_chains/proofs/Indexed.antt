-- Indexes follow the facts.
use Rattle.std.proofs.Common.{◌≡◌, refl, sym, ap, ◌∙◌, ℕ, Bool, true, false, cond, ◌||◌, Option, Some, None, Ok, Err}
use Rattle.std.specs.Option.{is_some}
use Rattle.std.specs.FinMap as finmap
use Rattle.hk_types.specs.Values.{RowValue}
use Rattle.hk_types.specs.declared.version_key.VersionKey.{VersionKey}
use Rattle.hk_types.specs.declared.faults.Refusal.TheVariants.{Conflict}
use Rattle.hk_model.specs.History.Rows.{version_key_cmp}
use Rattle.hk_model.specs.Replica.Maps.{or_else}
use Rattle.hk_index.specs.Tags.{TagKeysValue, StillListed, is_listed}
use Rattle.hk_facts.specs.declared.fact.Fact.{Fact}
use Rattle.hk_facts.specs.declared.fact.Fact.TheVariants.{Row}
use Rattle.hk_facts.specs.declared.fact.Part.{Part}
use Rattle.hk_facts.specs.declared.fact.Part.TheVariants.{Row as RowPart, End as EndPart, Whole}
use Rattle.hk_facts.specs.Facts.{if_known}
use Rattle.hk_chains.specs.Facts.{FactsValue, no_facts, known_at, with_fact_at, facts_put, facts_without, conflicts_at}
use Rattle.hk_chains.specs.Indexed.{has_fact, AllListed}
use Rattle.hk_chains.proofs.StoredFacts.{tied}
use Rattle.hk_chains.proofs.ChangedChains.{get-added, get-without, tied_is}

no_value : {X : Type 0} {x : X} → None ≡ Some x → ⊥
no_value e = cc

pub none_tagged : AllListed no_facts finmap.empty
none_tagged v row e = absurd (no_value (sym (finmap.get-empty version_key_cmp v) ∙ e))

-- nothing is listed in vain for a row that goes, and what was listed serves the rows that stay
pub fewer_listed : (f g : FactsValue) (keys : TagKeysValue) → ((v : VersionKey) (row : RowValue) → finmap.get g.rows v ≡ Some row → finmap.get f.rows v ≡ Some row) → AllListed f keys → AllListed g keys
fewer_listed f g keys less all v row e = all v row (less v row e)

pub more_listed : (f : FactsValue) (old new : TagKeysValue) → StillListed old new → AllListed f old → AllListed f new
more_listed f old new still all v row e = still v.table row.tag v.key (all v row e)

still_there : (b : Bool) (o : Option RowValue) (row : RowValue) → cond b None o ≡ Some row → o ≡ Some row
still_there true o row e = absurd (no_value e)
still_there false o row e = e

pub part_listed : (f : FactsValue) (v : VersionKey) (keys : TagKeysValue) → AllListed f keys → (part : Part) → AllListed (facts_without f v part) keys
part_listed f v keys all RowPart = fewer_listed f (facts_without f v RowPart) keys (λ q row e. still_there (tied q v) (finmap.get f.rows q) row (sym (get-without f.rows v q) ∙ e)) all
part_listed f v keys all Whole = fewer_listed f (facts_without f v Whole) keys (λ q row e. still_there (tied q v) (finmap.get f.rows q) row (sym (get-without f.rows v q) ∙ e)) all
part_listed f v keys all EndPart = all

-- a row where none was known
pub row_listed : (f : FactsValue) (v : VersionKey) (keys : TagKeysValue) → AllListed f keys → (row : RowValue) → finmap.get f.rows v ≡ None → is_listed keys v.table row.tag v.key ≡ true → AllListed (with_fact_at f v (Row row)) keys
row_listed f v keys all row none here q r e =
    by (tied q v) refl (sym (get-added f.rows v row q ∙ ap (λ o. cond (tied q v) (or_else o (Some row)) (finmap.get f.rows q)) none) ∙ e)
  where
    one : (x y : RowValue) → Some x ≡ Some y → x ≡ y
    one x y e = cc

    by : (b : Bool) → tied q v ≡ b → cond b (Some row) (finmap.get f.rows q) ≡ Some r → is_listed keys q.table r.tag q.key ≡ true
    by true t e = ap (λ (w : VersionKey). is_listed keys w.table r.tag w.key) (tied_is q v t) ∙ ap (λ (x : RowValue). is_listed keys v.table x.tag v.key) (sym (one row r e)) ∙ here
    by false t e = all q r e

-- ---- what is known

pub known_fact : (f : FactsValue) (v : VersionKey) → is_some (known_at f v) ≡ has_fact f v
known_fact f v = cases (finmap.get f.rows v) (finmap.get f.ends v)
  where
    cases : (r : Option RowValue) (d : Option ℕ) → is_some (if_known (record { row = r; died = d })) ≡ (is_some r || is_some d)
    cases None None = refl
    cases None (Some d) = refl
    cases (Some r) d = refl

-- what a put leaves
pub put_is : (f g : FactsValue) (v : VersionKey) (fact : Fact) → facts_put f v fact ≡ Ok g → g ≡ with_fact_at f v fact
put_is f g v fact e = go (conflicts_at f v fact) (with_fact_at f v fact) e
  where
    go : (b : Bool) (w : FactsValue) → cond b (Err Conflict) (Ok w) ≡ Ok g → g ≡ w
    go true w e = cc
    go false w e = cc
