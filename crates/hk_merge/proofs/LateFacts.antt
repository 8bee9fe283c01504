-- Which of a join's facts touch the past, by the lists of versions.
use Rattle.std.proofs.Common.{◌≡◌, refl, sym, ap, ◌∙◌, ℕ, Bool, true, false, not, cond, Option, Some, None, List, [], ◌∷◌, map, All, ◌&&◌, ◌||◌, ◌==◌, nat_le, nat_lt, is_some}
use Rattle.std.proofs.lemmas.Bool.{and_parts}
use Rattle.std.proofs.lemmas.List.Elements.{All-head, All-tail}
use Rattle.std.specs.List.{list_any}
use Rattle.std.specs.FinMap as finmap
use Rattle.hk_types.specs.declared.version_key.VersionKey.{VersionKey}
use Rattle.hk_log.specs.Versions.{VersionValue}
use Rattle.hk_model.specs.Replica.Content.{Content, readable, at_most, ended_by}
use Rattle.hk_model.specs.Replica.Fragments.{FragmentValue}
use Rattle.hk_model.specs.Replica.Touches.{joined_horizon, row_is_late, end_is_late, is_stray, brings_late, leaves_strays}
use Rattle.hk_facts.specs.Facts.{row_of, died_of}
use Rattle.hk_store.specs.Drops.{is_among}
use Rattle.hk_store.specs.Facts.{FactsValue, known_at}
use Rattle.hk_store.specs.Reads.{facts_of_content}
use Rattle.hk_store.specs.Versions.{AreVersions}
use Rattle.hk_store.proofs.Indexed.{known_fact}
use Rattle.hk_store.proofs.ListedVersions.{any_either}
use Rattle.hk_store.proofs.StoredFacts.{known_row, known_end}
use Rattle.hk_state.proofs.TouchedPast.{any_of_map, row_listed}
use Rattle.hk_merge.specs.declared.plan.Admission.{Admission}
use Rattle.hk_merge.specs.Late.{is_late}
use Rattle.hk_merge.specs.Plans.{is_sent}

-- a test of the versions of facts, by their keys
any_known : (g : FactsValue) (es : List (VersionKey × VersionValue)) → All (λ e. known_at g e.0 ≡ Some e.1) es → (p : VersionKey × VersionValue → Bool) (q : VersionKey → Bool) → ((v : VersionKey) (x : VersionValue) → known_at g v ≡ Some x → p (v, x) ≡ q v) → list_any p es ≡ list_any q (map (λ e. e.0) es)
any_known g [] known p q same = refl
any_known g (e ∷ es) known p q same = λ i.
    same e.0 e.1 (All-head (λ e. known_at g e.0 ≡ Some e.1) e es known) i || any_known g es (All-tail (λ e. known_at g e.0 ≡ Some e.1) e es known) p q same i

module _ (g : FactsValue) (es : List (VersionKey × VersionValue)) (are : AreVersions g es) where
  has_end : (v : VersionKey) → is_some (finmap.get g.ends v) ≡ true → is_among (map (λ e. e.0) es) v ≡ true
  has_end v e = sym (are.all v) ∙ known_fact g v ∙ ap (λ b. is_some (finmap.get g.rows v) || b) e ∙ either (is_some (finmap.get g.rows v))
    where
      either : (b : Bool) → (b || true) ≡ true
      either true = refl
      either false = refl

  row_is : (v : VersionKey) (x : VersionValue) → known_at g v ≡ Some x → x.row ≡ finmap.get g.rows v
  row_is v x e = ap row_of (sym e) ∙ known_row g v

  end_is : (v : VersionKey) (x : VersionValue) → known_at g v ≡ Some x → x.died ≡ finmap.get g.ends v
  end_is v x e = ap died_of (sym e) ∙ known_end g v

-- ---- what comes late

-- a test of a row or an end that there is
moved : (a b c : Bool) → (a && (b && c)) ≡ (b && (a && c))
moved true b c = refl
moved false true c = refl
moved false false c = refl

there : (t : ℕ) (x : Option ℕ) (c : Bool) → (at_most t x && c) ≡ (is_some x && (at_most t x && c))
there t None c = refl
there t (Some d) c = refl

pub late_listed : (t : Content) (f : FragmentValue) (coming : Admission) → coming.old ≡ ((f.base == 0) && (f.content.horizon == joined_horizon t f)) → coming.horizon ≡ joined_horizon t f → (es : List (VersionKey × VersionValue)) → AreVersions (facts_of_content f.content) es
    → list_any (λ e. is_late (facts_of_content t) (readable t) coming e.0 e.1) es ≡ brings_late t f
late_listed t f coming old at es are =
    let g = facts_of_content f.content in
    let rows : VersionKey → Bool = λ v. is_some (finmap.get g.rows v) && row_is_late t f v in
    let ends : VersionKey → Bool = λ v. is_some (finmap.get g.ends v) && end_is_late t f v in
    any_known g es are.known (λ e. is_late (facts_of_content t) (readable t) coming e.0 e.1) (λ v. rows v || ends v) (λ v x e.
    (λ i. (nat_le v.born (readable t) && (is_some (row_is g es are v x e i) && (not (is_some (finmap.get t.rows v)) && (nat_lt (at i) v.born || old i))))
    || (at_most (readable t) (end_is g es are v x e i) && (not (is_some (finmap.get t.ends v)) && not (at_most (at i) (end_is g es are v x e i)))))
    ∙ (λ i. moved (nat_le v.born (readable t)) (is_some (finmap.get g.rows v)) (not (is_some (finmap.get t.rows v)) && (nat_lt (joined_horizon t f) v.born || ((f.base == 0) && (f.content.horizon == joined_horizon t f)))) i
    || there (readable t) (finmap.get g.ends v) (not (is_some (finmap.get t.ends v)) && not (at_most (joined_horizon t f) (finmap.get g.ends v))) i))
    ∙ any_either rows ends (map (λ e. e.0) es)
    ∙ (λ i. any_of_map g.rows (row_is_late t f) (map (λ e. e.0) es) (λ v e. row_listed g es are v (and_parts (is_some (finmap.get g.rows v)) (row_is_late t f v) e).0) i
    || any_of_map g.ends (end_is_late t f) (map (λ e. e.0) es) (λ v e. has_end g es are v (and_parts (is_some (finmap.get g.ends v)) (end_is_late t f v) e).0) i)

-- ---- what goes astray

-- a whole of a greater horizon
pub strays_listed : (t : Content) (f : FragmentValue) → nat_lt t.horizon f.content.horizon ≡ true → (f.base == 0) ≡ true → (es : List (VersionKey × VersionValue)) → AreVersions (facts_of_content t) es
    → list_any (λ e. nat_le e.0.born f.content.horizon && (is_some e.1.row && cond (at_most f.content.horizon e.1.died) (is_sent t f e.0) (not (is_sent t f e.0)))) es ≡ leaves_strays t f
strays_listed t f rises whole es are =
    let g = facts_of_content t in
    any_known g es are.known (λ e. nat_le e.0.born f.content.horizon && (is_some e.1.row && cond (at_most f.content.horizon e.1.died) (is_sent t f e.0) (not (is_sent t f e.0)))) (λ v. is_some (finmap.get g.rows v) && is_stray t f v) (λ v x e.
    (λ i. nat_le v.born f.content.horizon && (is_some (row_is g es are v x e i) && cond (at_most f.content.horizon (end_is g es are v x e i)) (is_sent t f v) (not (is_sent t f v))))
    ∙ moved (nat_le v.born f.content.horizon) (is_some (finmap.get g.rows v)) (cond (ended_by t.ends f.content.horizon v) (is_sent t f v) (not (is_sent t f v)))
    ∙ (λ i. is_some (finmap.get g.rows v) && (sym rises i && (sym whole i && (nat_le v.born f.content.horizon && cond (ended_by t.ends f.content.horizon v) (is_sent t f v) (not (is_sent t f v)))))))
    ∙ any_of_map g.rows (is_stray t f) (map (λ e. e.0) es) (λ v e. row_listed g es are v (and_parts (is_some (finmap.get g.rows v)) (is_stray t f v) e).0)

-- what is no such whole leaves none
pub none_stray : (t : Content) (f : FragmentValue) → (nat_lt t.horizon f.content.horizon && (f.base == 0)) ≡ false → leaves_strays t f ≡ false
none_stray t f neither = none (finmap.keys t.rows)
  where
    fails : (a b c : Bool) → (a && b) ≡ false → (a && (b && c)) ≡ false
    fails true b c e = ap (λ x. x && c) e
    fails false b c e = refl

    none : (vs : List VersionKey) → list_any (is_stray t f) vs ≡ false
    none [] = refl
    none (v ∷ vs) = λ i. fails (nat_lt t.horizon f.content.horizon) (f.base == 0) (nat_le v.born f.content.horizon && cond (ended_by t.ends f.content.horizon v) (is_sent t f v) (not (is_sent t f v))) neither i || none vs i
