-- What follows from the rules of a fragment's parts.
use Rattle.std.proofs.Common.{◌≡◌, refl, sym, subst, ◌∙◌, ℕ, ◌<◌, ◌≤◌, Bool, true, false, cond, not, ◌||◌, ◌&&◌, ◌==◌, eqb, ltb, Option, Some, None, List, [], ◌∷◌, ◌⊎◌, inl, inr, T, nat_le}
use Rattle.std.specs.declared.cmp.Ordering.TheVariants.{Less}
use Rattle.std.specs.Option.{option_and_then}
use Rattle.std.specs.Ordering.{is_lt}
use Rattle.std.specs.FinMap.Entries.{find, is_sorted, below_all}
use Rattle.std.specs.FinMap as finmap
use Rattle.std.proofs.lemmas.Bool.{ltb-true, ltb-false, leb-true, eqb-true, and_parts}
use Rattle.hk_types.specs.Values.{ConfigValue, RowValue}
use Rattle.hk_types.specs.declared.version_key.VersionKey.{VersionKey}
use Rattle.hk_types.specs.declared.faults.FormFault.{FormFault}
use Rattle.hk_types.specs.declared.faults.FormFault.TheVariants.{BadNumber, BadOrder}
use Rattle.hk_log.specs.Versions.{VersionValue, is_known}
use Rattle.hk_model.specs.History.Rows.{version_key_cmp}
use Rattle.hk_model.specs.Replica.Streams.{StreamContent}
use Rattle.hk_model.specs.Replica.Content.{least_closed}
use Rattle.hk_model.specs.Replica.Lawful.{IsLawfulFragment}
use Rattle.hk_model.proofs.Replica.Maps.{version_key_total, version_key_same}
use Rattle.hk_model.proofs.Replica.Members.{In, In-find}
use Rattle.hk_model.proofs.Replica.Visible.{T_both, less}
use Rattle.hk_fragment.specs.Parts.{Known, values_by_version, fragment_seen, follows, is_valid_row, is_valid_end, is_valid_fact, facts_fault, fragment_fault, versions_listed, IsFragment}
use Rattle.hk_fragment.proofs.ListedVersions.{get-among, lists_back}
use Rattle.hk_facts.proofs.StoredTrees.{and_T}

-- a test that shows no fault failed, and what follows it shows none
pub passed : (b : Bool) (f : FormFault) (rest : Option FormFault) → cond (not b) (Some f) rest ≡ None → (b ≡ true) × (rest ≡ None)
passed true f rest e = (refl, e)
passed false f rest e = absurd cc

true_T : (b : Bool) → b ≡ true → T b
true_T b e = subst T (sym e) tt

-- below all that follow a version is what is below the version
below_more : (a b : VersionKey) (facts : List Known) → T (is_lt (version_key_cmp a b)) → T (below_all version_key_cmp b facts) → T (below_all version_key_cmp a facts)
below_more a b [] l h = tt
below_more a b (e ∷ facts) l h =
    let both = T_both (is_lt (version_key_cmp b e.0)) (below_all version_key_cmp b facts) h in
    let lt : version_key_cmp a e.0 ≡ Less = version_key_total.trans a b e.0 (less (version_key_cmp a b) l) (less (version_key_cmp b e.0) both.0) in
    and_T (is_lt (version_key_cmp a e.0)) (below_all version_key_cmp a facts) (subst (λ r. T (is_lt r)) (sym lt) tt) (below_more a b facts l both.1)

abbrev pub AllFollow : Option VersionKey → List Known → Type 0
AllFollow None facts = Unit {0}
AllFollow (Some before) facts = T (below_all version_key_cmp before facts)

abbrev pub AreValidFacts : ℕ → ℕ → List Known → Type 0
AreValidFacts base horizon facts = (v : VersionKey) (x : VersionValue) → In (v, x) facts → is_valid_fact base horizon (v, x) ≡ true

pub record AreFacts (base horizon : ℕ) (before : Option VersionKey) (facts : List Known) : Type 0 where
  pub sorted : T (is_sorted version_key_cmp facts)
  pub after : AllFollow before facts
  pub each : AreValidFacts base horizon facts

follow_all : (before : Option VersionKey) (e : Known) (facts : List Known) → follows before e.0 ≡ true → T (below_all version_key_cmp e.0 facts) → AllFollow before (e ∷ facts)
follow_all None e facts f b = tt
follow_all (Some last) e facts f b =
    let l = true_T (is_lt (version_key_cmp last e.0)) f in
    and_T (is_lt (version_key_cmp last e.0)) (below_all version_key_cmp last facts) l (below_more last e.0 facts l b)

pub are_facts : (base horizon : ℕ) (before : Option VersionKey) (facts : List Known) → facts_fault base horizon before facts ≡ None → AreFacts base horizon before facts
are_facts base horizon None [] h = record { sorted = tt; after = tt; each = λ v x i. elim i [ ] }
are_facts base horizon (Some last) [] h = record { sorted = tt; after = tt; each = λ v x i. elim i [ ] }
are_facts base horizon before (e ∷ facts) h =
    let a = passed (follows before e.0) BadOrder _ h in
    let b = passed (is_valid_fact base horizon e) BadNumber (facts_fault base horizon (Some e.0) facts) a.1 in
    let rest = are_facts base horizon (Some e.0) facts b.1 in
    record {
      sorted = and_T (below_all version_key_cmp e.0 facts) (is_sorted version_key_cmp facts) rest.after rest.sorted;
      after = follow_all before e facts a.0 rest.after;
      each = λ v x i. elim i [ inl s ↦ subst (λ (p : Known). is_valid_fact base horizon p ≡ true) (sym s) b.0 | inr j ↦ rest.each v x j ];
    }

-- ---- the parts of a fragment

pub record Parts (base horizon : ℕ) (v : VersionKey) (x : VersionValue) : Type 0 where
  pub born : 0 < v.born
  pub known : is_known x ≡ true
  pub row : is_valid_row base v.born x.row ≡ true
  pub died : is_valid_end base horizon v.born x.died ≡ true

pub parts_of : (base horizon : ℕ) (v : VersionKey) (x : VersionValue) → is_valid_fact base horizon (v, x) ≡ true → Parts base horizon v x
parts_of base horizon v x e =
    let a = and_parts (ltb 0 v.born && is_known x && is_valid_row base v.born x.row) (is_valid_end base horizon v.born x.died) e in
    let b = and_parts (ltb 0 v.born && is_known x) (is_valid_row base v.born x.row) a.0 in
    let c = and_parts (ltb 0 v.born) (is_known x) b.0 in
    record { born = ltb-true _ _ c.0; known = c.1; row = b.1; died = a.1 }

pub record EndIs (base horizon born died : ℕ) : Type 0 where
  pub above : base < died
  pub over : horizon < died
  pub later : born < died

pub end_is : (base horizon born died : ℕ) → is_valid_end base horizon born (Some died) ≡ true → EndIs base horizon born died
end_is base horizon born died e =
    let a = and_parts (ltb base died && ltb horizon died) (ltb born died) e in
    let b = and_parts (ltb base died) (ltb horizon died) a.0 in
    record { above = ltb-true _ _ b.0; over = ltb-true _ _ b.1; later = ltb-true _ _ a.1 }

some_of : {Y : Type 0} (read : VersionValue → Option Y) (o : Option VersionValue) (y : Y) → option_and_then read o ≡ Some y → (x : VersionValue) × (o ≡ Some x) × (read x ≡ Some y)
some_of read None y e = absurd cc
some_of read (Some x) y e = (x, refl, e)

-- what is known of a version of which something is read
pub stated : {Y : Type 0} (read : VersionValue → Option Y) (base horizon : ℕ) (facts : List Known) → facts_fault base horizon None facts ≡ None → (v : VersionKey) (y : Y) → finmap.get (values_by_version read facts) v ≡ Some y → (x : VersionValue) × Parts base horizon v x × (read x ≡ Some y)
stated read base horizon facts h v y e =
    let f = are_facts base horizon None facts h in
    let w = some_of read (find version_key_cmp v facts) y (sym (get-among read facts f.sorted v) ∙ e) in
    (w.0, parts_of base horizon v w.0 (f.each v w.0 (In-find version_key_cmp version_key_total version_key_same v w.0 facts w.1)), w.2)

zero_or : (base horizon : ℕ) → ((base == 0) || nat_le horizon base) ≡ true → (base ≡ 0) ⊎ (horizon ≤ base)
zero_or base horizon e = by (eqb base 0) refl e
  where
    by : (b : Bool) → eqb base 0 ≡ b → (b || nat_le horizon base) ≡ true → (base ≡ 0) ⊎ (horizon ≤ base)
    by true t e = inl (eqb-true _ _ t)
    by false t e = inr (leb-true horizon base e)

record Tested (base horizon : ℕ) (streams : List StreamContent) (facts : List Known) : Type 0 where
  pub above : (base ≡ 0) ⊎ (horizon ≤ base)
  pub reach : horizon ≤ least_closed streams
  pub faultless : facts_fault base horizon None facts ≡ None

tested : (base horizon : ℕ) (streams : List StreamContent) (facts : List Known) → fragment_fault base horizon streams facts ≡ None → Tested base horizon streams facts
tested base horizon streams facts h =
    let a = passed ((base == 0) || nat_le horizon base) BadNumber _ h in
    by (ltb (least_closed streams) horizon) refl a.1
  where
    by : (b : Bool) → ltb (least_closed streams) horizon ≡ b → cond b (Some BadNumber) (facts_fault base horizon None facts) ≡ None → Tested base horizon streams facts
    by true t e = absurd cc
    by false t e = record { above = zero_or base horizon (passed ((base == 0) || nat_le horizon base) BadNumber _ h).0; reach = ltb-false _ _ t; faultless = e }

-- a fragment by its rules is lawful
pub lawful : (config : ConfigValue) (base horizon : ℕ) (streams : List StreamContent) (facts : List Known) → IsFragment config base horizon streams facts → IsLawfulFragment (fragment_seen config base horizon streams facts)
lawful config base horizon streams facts h =
    let t = tested base horizon streams facts h.faultless in
    record {
      content = record {
        born = λ v row e. (stated (λ x. x.row) base horizon facts t.faultless v row e).1.born;
        end_born = λ v d e. (stated (λ x. x.died) base horizon facts t.faultless v d e).1.born;
        end_later = λ v d e. (end_of base horizon facts t.faultless v d e).later;
        end_above = λ v d e. (end_of base horizon facts t.faultless v d e).over;
        in_reach = t.reach;
        streams = h.lawful_streams;
      };
      base_above = t.above;
      row_above = λ v row e. row_of base horizon facts t.faultless v row e;
      end_over = λ v d e. (end_of base horizon facts t.faultless v d e).above;
    }
  where
    end_of : (base horizon : ℕ) (facts : List Known) → facts_fault base horizon None facts ≡ None → (v : VersionKey) (d : ℕ) → finmap.get (values_by_version (λ x. x.died) facts) v ≡ Some d → EndIs base horizon v.born d
    end_of base horizon facts h v d e =
        let s = stated (λ x. x.died) base horizon facts h v d e in
        end_is base horizon v.born d (subst (λ o. is_valid_end base horizon v.born o ≡ true) s.2 s.1.died)

    row_of : (base horizon : ℕ) (facts : List Known) → facts_fault base horizon None facts ≡ None → (v : VersionKey) (row : RowValue) → finmap.get (values_by_version (λ x. x.row) facts) v ≡ Some row → base < v.born
    row_of base horizon facts h v row e =
        let s = stated (λ x. x.row) base horizon facts h v row e in
        ltb-true _ _ (subst (λ o. is_valid_row base v.born o ≡ true) s.2 s.1.row)

-- its content gives its list of versions back
pub listed : (config : ConfigValue) (base horizon : ℕ) (streams : List StreamContent) (facts : List Known) → facts_fault base horizon None facts ≡ None → versions_listed (fragment_seen config base horizon streams facts).content ≡ facts
listed config base horizon streams facts h =
    let f = are_facts base horizon None facts h in
    lists_back (fragment_seen config base horizon streams facts).content facts f.sorted
    (λ v x e. (parts_of base horizon v x (f.each v x (In-find version_key_cmp version_key_total version_key_same v x facts e))).known)
    (get-among (λ x. x.row) facts f.sorted) (get-among (λ x. x.died) facts f.sorted)

-- the facts of a fragment by its rules are faultless
pub facts_tested : (base horizon : ℕ) (streams : List StreamContent) (facts : List Known) → fragment_fault base horizon streams facts ≡ None → facts_fault base horizon None facts ≡ None
facts_tested base horizon streams facts h = (tested base horizon streams facts h).faultless
