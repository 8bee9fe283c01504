-- The rows by time follow the facts.
use Rattle.std.proofs.Common.{◌≡◌, refl, sym, ap, ◌∙◌, ℕ, ◌≤◌, ◌<◌, ◌+◌, Bool, true, false, cond, not, Option, Some, None, nat_le, min, max, arith}
use Rattle.std.proofs.lemmas.Bool.Decides.{nat_tests}
use Rattle.std.specs.FinMap as finmap
use Rattle.std.specs.FinSet as set
use Rattle.hk_types.specs.Values.{RowValue}
use Rattle.hk_types.specs.declared.version_key.VersionKey.{VersionKey}
use Rattle.hk_model.specs.History.Rows.{row_key_of, version_key_cmp}
use Rattle.hk_model.specs.Replica.Content.{at_most, ended_by}
use Rattle.hk_model.specs.Replica.Maps.{or_else}
use Rattle.hk_model.proofs.Replica.Maps.{version_key_total, version_key_same, get-retain}
use Rattle.hk_index.specs.Tags.{TagKeysValue}
use Rattle.hk_index.specs.Timed.{has_row}
use Rattle.hk_index.proofs.TimedSets.{Times, now_there, still_there}
use Rattle.hk_facts.specs.declared.fact.Fact.TheVariants.{Row, End}
use Rattle.hk_facts.specs.declared.fact.Part.{Part}
use Rattle.hk_facts.specs.declared.fact.Part.TheVariants.{Row as RowPart, End as EndPart, Whole}
use Rattle.hk_chains.specs.Facts.{FactsValue, no_facts, with_fact_at, facts_without}
use Rattle.hk_chains.specs.Drops.{pruned_facts}
use Rattle.hk_chains.specs.Indexed.{AllListed, AreStated}
use Rattle.hk_chains.proofs.Indexed.{fewer_listed}
use Rattle.hk_chains.proofs.StoredFacts.{tied}
use Rattle.hk_chains.proofs.ChangedChains.{get-added, get-without, tied_is}

-- ---- what is known of fewer

-- no fact is known that was not
pub record AreFewer (f g : FactsValue) : Type 0 where
  pub rows : (v : VersionKey) (row : RowValue) → finmap.get g.rows v ≡ Some row → finmap.get f.rows v ≡ Some row
  pub ends : (v : VersionKey) (died : ℕ) → finmap.get g.ends v ≡ Some died → finmap.get f.ends v ≡ Some died

pub fewer_stated : (f g : FactsValue) (index : Times) → AreFewer f g → AreStated f index → AreStated g index
fewer_stated f g index fewer are = record { born = λ v row e. are.born v row (fewer.rows v row e); dead = λ v died e. are.dead v died (fewer.ends v died e) }

-- no end is before a first time
abbrev pub AreLater : FactsValue → ℕ → Type 0
AreLater f first = (v : VersionKey) (died : ℕ) → finmap.get f.ends v ≡ Some died → first ≤ died

pub fewer_later : (f g : FactsValue) (first : ℕ) → AreFewer f g → AreLater f first → AreLater g first
fewer_later f g first fewer are v died e = are v died (fewer.ends v died e)

in_rest : {X : Type 0} (b : Bool) (o : Option X) (x : X) → cond b None o ≡ Some x → o ≡ Some x
in_rest true o x e = cc
in_rest false o x e = e

pub part_fewer : (f : FactsValue) (v : VersionKey) (part : Part) → AreFewer f (facts_without f v part)
part_fewer f v RowPart = record { rows = λ q row e. in_rest (tied q v) (finmap.get f.rows q) row (sym (get-without f.rows v q) ∙ e); ends = λ q died e. e }
part_fewer f v EndPart = record { rows = λ q row e. e; ends = λ q died e. in_rest (tied q v) (finmap.get f.ends q) died (sym (get-without f.ends v q) ∙ e) }
part_fewer f v Whole = record { rows = λ q row e. in_rest (tied q v) (finmap.get f.rows q) row (sym (get-without f.rows v q) ∙ e); ends = λ q died e. in_rest (tied q v) (finmap.get f.ends q) died (sym (get-without f.ends v q) ∙ e) }

kept : {X : Type 0} (b : Bool) (o : Option X) (x : X) → cond b o None ≡ Some x → o ≡ Some x
kept true o x e = e
kept false o x e = cc

module _ (f : FactsValue) (h : ℕ) where
  left : {X : Type 0} (m : finmap.FinMap version_key_cmp X) (q : VersionKey) → finmap.get (finmap.retain_keys m (λ v. not (ended_by f.ends h v))) q ≡ cond (not (ended_by f.ends h q)) (finmap.get m q) None
  left m q = get-retain version_key_total version_key_same m (λ v. not (ended_by f.ends h v)) q

  pub pruned_fewer : AreFewer f (pruned_facts f h)
  pruned_fewer = record {
    rows = λ q row e. kept (not (ended_by f.ends h q)) (finmap.get f.rows q) row (sym (left f.rows q) ∙ e);
    ends = λ q died e. kept (not (ended_by f.ends h q)) (finmap.get f.ends q) died (sym (left f.ends q) ∙ e);
  }

  pub pruned_listed : (keys : TagKeysValue) → AllListed f keys → AllListed (pruned_facts f h) keys
  pruned_listed keys all = fewer_listed f (pruned_facts f h) keys pruned_fewer.rows all

  -- what is left ended after h
  pub pruned_later : (v : VersionKey) (died : ℕ) → finmap.get (pruned_facts f h).ends v ≡ Some died → h < died
  pruned_later v died e = by (finmap.get f.ends v) (sym (left f.ends v) ∙ e)
    where
      above : (d : ℕ) (b : Bool) → nat_le d h ≡ b → cond (not b) (Some d) None ≡ Some died → h < died
      above d true is e = cc
      above d false is e = let same : d ≡ died = one d died e in grind (arith, nat_tests)
        where
          one : (x y : ℕ) → Some x ≡ Some y → x ≡ y
          one x y e = cc

      by : (o : Option ℕ) → cond (not (at_most h o)) o None ≡ Some died → h < died
      by None e = cc
      by (Some d) e = above d (nat_le d h) refl e

-- ---- a fact more

one : {X : Type 0} (x y : X) → Some x ≡ Some y → x ≡ y
one x y e = cc

module _ (f : FactsValue) (index : Times) (are : AreStated f index) (v : VersionKey) where
  -- a row where none was known
  pub row_stated : (row : RowValue) → finmap.get f.rows v ≡ None → AreStated (with_fact_at f v (Row row)) (set.insert index (record { time = v.born; row = row_key_of v }))
  row_stated row none = record {
    born = λ q r e. by q r (tied q v) refl (sym (get-added f.rows v row q ∙ ap (λ o. cond (tied q v) (or_else o (Some row)) (finmap.get f.rows q)) none) ∙ e);
    dead = λ q died e. still_there index v.born died (row_key_of v) (row_key_of q) (are.dead q died e);
  }
    where
      by : (q : VersionKey) (r : RowValue) (b : Bool) → tied q v ≡ b → cond b (Some row) (finmap.get f.rows q) ≡ Some r → has_row (set.insert index (record { time = v.born; row = row_key_of v })) q.born (row_key_of q) ≡ true
      by q r true t e = ap (λ (w : VersionKey). has_row (set.insert index (record { time = v.born; row = row_key_of v })) w.born (row_key_of w)) (tied_is q v t) ∙ now_there index v.born (row_key_of v)
      by q r false t e = still_there index v.born q.born (row_key_of v) (row_key_of q) (are.born q r e)

  -- an end where none was known
  pub end_stated : (died : ℕ) → finmap.get f.ends v ≡ None → AreStated (with_fact_at f v (End died)) (set.insert index (record { time = died; row = row_key_of v }))
  end_stated died none = record {
    born = λ q r e. still_there index died q.born (row_key_of v) (row_key_of q) (are.born q r e);
    dead = λ q d e. by q d (tied q v) refl (sym (get-added f.ends v died q ∙ ap (λ o. cond (tied q v) (or_else o (Some died)) (finmap.get f.ends q)) none) ∙ e);
  }
    where
      by : (q : VersionKey) (d : ℕ) (b : Bool) → tied q v ≡ b → cond b (Some died) (finmap.get f.ends q) ≡ Some d → has_row (set.insert index (record { time = died; row = row_key_of v })) d (row_key_of q) ≡ true
      by q d true t e = ap (λ (n : ℕ). has_row (set.insert index (record { time = died; row = row_key_of v })) n (row_key_of q)) (sym (one died d e)) ∙ ap (λ (w : VersionKey). has_row (set.insert index (record { time = died; row = row_key_of v })) died (row_key_of w)) (tied_is q v t) ∙ now_there index died (row_key_of v)
      by q d false t e = still_there index died d (row_key_of v) (row_key_of q) (are.dead q d e)

pub end_later : (f : FactsValue) (v : VersionKey) (first died : ℕ) → AreLater f first → finmap.get f.ends v ≡ None → AreLater (with_fact_at f v (End died)) (min first died)
end_later f v first died are none q d e = by (tied q v) (sym (get-added f.ends v died q ∙ ap (λ o. cond (tied q v) (or_else o (Some died)) (finmap.get f.ends q)) none) ∙ e)
  where
    by : (b : Bool) → cond b (Some died) (finmap.get f.ends q) ≡ Some d → min first died ≤ d
    by true e = let same : died ≡ d = one died d e in grind (arith, nat_tests)
    by false e = let old : first ≤ d = are q d e in grind (arith, nat_tests)

-- ---- no facts

pub none_stated : AreStated no_facts set.empty
none_stated = record { born = λ v row e. cc (sym (finmap.get-empty version_key_cmp v) ∙ e); dead = λ v died e. cc (sym (finmap.get-empty version_key_cmp v) ∙ e) }

pub none_later : (first : ℕ) → AreLater no_facts first
none_later first v died e = cc (sym (finmap.get-empty version_key_cmp v) ∙ e)

-- the later of two first times
pub max_later : (first h n later died : ℕ) → n ≡ h → later ≡ max first (n + 1) → first ≤ died → h < died → later ≤ died
max_later first h n later died same up low high = grind (arith, nat_tests)
