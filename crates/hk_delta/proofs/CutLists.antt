-- What is left of a state's versions above a base makes a fragment, and it is the cut at the base.
use Rattle.std.proofs.Common.{◌≡◌, refl, sym, ap, subst, ◌∙◌, ℕ, ◌<◌, ◌≤◌, Bool, true, false, cond, not, true≢false, ◌||◌, ◌&&◌, ◌==◌, Option, Some, None, List, [], ◌∷◌, ◌++◌, All, ◌⊎◌, inl, inr, T, nat_lt, nat_le, arith}
use Rattle.std.proofs.lemmas.List.Elements.{All-head, All-tail}
use Rattle.std.proofs.lemmas.Bool.Decides.{nat_tests}
use Rattle.std.specs.Option.{is_some, option_and_then, option_map}
use Rattle.std.specs.Ordering.{is_lt}
use Rattle.std.specs.FinMap.Entries.{is_sorted, below_all}
use Rattle.std.specs.FinMap as finmap
use Rattle.hk_types.specs.Values.{ConfigValue, RowValue}
use Rattle.hk_types.specs.declared.version_key.VersionKey.{VersionKey}
use Rattle.hk_log.specs.Versions.{VersionValue, is_known}
use Rattle.hk_model.specs.History.Rows.{version_key_cmp}
use Rattle.hk_model.specs.Replica.Content.{Content, at_most, without_ended, least_closed}
use Rattle.hk_model.specs.Replica.Fragments.{cut}
use Rattle.hk_model.specs.Replica.Lawful.{IsLawful}
use Rattle.hk_model.proofs.Replica.Maps.{version_key_total, version_key_same, get-retain, get-without_ended}
use Rattle.hk_model.proofs.Replica.Visible.{T_both}
use Rattle.hk_marks.proofs.Readers.{is_sorted-from}
use Rattle.hk_facts.specs.Facts.{if_known}
use Rattle.hk_store.specs.Facts.{FactsValue, known_at, entry_if}
use Rattle.hk_store.specs.Indexed.{is_stated, passes_at}
use Rattle.hk_store.specs.Reads.{facts_of_content}
use Rattle.hk_store.specs.Versions.{AreVersions, AreVersionsOf}
use Rattle.hk_store.proofs.PickedVersions.{find_known, unlisted}
use Rattle.hk_fragment.specs.Parts.{Known, values_by_version, fragment_seen, follows, is_valid_row, is_valid_end, is_valid_fact, facts_fault, fragment_fault}
use Rattle.hk_delta.specs.Cuts.{row_above, end_above, left_above, all_left, HasLeft}
use Rattle.hk_fragment.proofs.ListedVersions.{get-among}
use Rattle.hk_fragment.proofs.FragmentRules.{AllFollow, are_facts}

pub if_known_is : (x y : VersionValue) → if_known x ≡ Some y → (x ≡ y) × (is_known x ≡ true)
if_known_is x y e = by (is_known x) refl e
  where
    by : (b : Bool) → is_known x ≡ b → cond b (Some x) None ≡ Some y → (x ≡ y) × (is_known x ≡ true)
    by true k e = (cc, k)
    by false k e = absurd cc

row_left : (base born : ℕ) (row : Option RowValue) → is_valid_row base born (row_above base born row) ≡ true
row_left base born row = by (nat_lt base born) refl row
  where
    by : (b : Bool) → nat_lt base born ≡ b → (row : Option RowValue) → is_valid_row base born (cond b row None) ≡ true
    by true k None = refl
    by true k (Some r) = k
    by false k row = refl

module _ (c : Content) (l : IsLawful c) (base : ℕ) where
  abbrev IsKnown : VersionKey × VersionValue → Type 0
  IsKnown e = known_at (facts_of_content c) e.0 ≡ Some e.1

  end_left : (v : VersionKey) (died : Option ℕ) → finmap.get c.ends v ≡ died → is_valid_end base c.horizon v.born (end_above base died) ≡ true
  end_left v None g = refl
  end_left v (Some d) g = by (nat_le d base) refl
    where
      later : v.born < d
      later = l.end_later v d g

      over : c.horizon < d
      over = l.end_above v d g

      by : (b : Bool) → nat_le d base ≡ b → is_valid_end base c.horizon v.born (cond b None (Some d)) ≡ true
      by true k = refl
      by false k = grind (arith, nat_tests)

  -- a version of which something is known was born at 1 or later
  born_of : (v : VersionKey) (x : VersionValue) → known_at (facts_of_content c) v ≡ Some x → nat_lt 0 v.born ≡ true
  born_of v x e = by (finmap.get c.rows v) (finmap.get c.ends v) refl refl e
    where
      by : (r : Option RowValue) (d : Option ℕ) → finmap.get c.rows v ≡ r → finmap.get c.ends v ≡ d → if_known (record { row = r; died = d }) ≡ Some x → nat_lt 0 v.born ≡ true
      by (Some r) d gr gd e = let above : 0 < v.born = l.born v r gr in grind (arith, nat_tests)
      by None (Some d) gr gd e = let above : 0 < v.born = l.end_born v d gd in grind (arith, nat_tests)
      by None None gr gd e = absurd cc

  left_stands : (v : VersionKey) (known x : VersionValue) → known_at (facts_of_content c) v ≡ Some known → left_above base v known ≡ Some x → is_valid_fact base c.horizon (v, x) ≡ true
  left_stands v known x k e =
      let is = if_known_is (record { row = finmap.get c.rows v; died = finmap.get c.ends v }) known k in
      let left = if_known_is (record { row = row_above base v.born known.row; died = end_above base known.died }) x e in
      subst (λ (y : VersionValue). is_valid_fact base c.horizon (v, y) ≡ true) left.0 (
      all_true (born_of v known k) left.1 (row_left base v.born known.row) (end_left v known.died (ap (λ (y : VersionValue). y.died) is.0)))
    where
      all_true : {p q r s : Bool} → p ≡ true → q ≡ true → r ≡ true → s ≡ true → (p && q && r && s) ≡ true
      all_true p q r s = rw (p, q, r, s) refl

  faultless_left : (es : List Known) → T (is_sorted version_key_cmp es) → (before : Option VersionKey) → AllFollow before es → All IsKnown es → facts_fault base c.horizon before (all_left base es) ≡ None
  faultless_left [] s before f k = refl
  faultless_left (e ∷ es) s before f k = by (λ before f. faultless_left es both.1 before f (All-tail IsKnown e es k)) (left_above base e.0 e.1) refl
    where
      both : T (below_all version_key_cmp e.0 es) × T (is_sorted version_key_cmp es)
      both = T_both (below_all version_key_cmp e.0 es) (is_sorted version_key_cmp es) s

      beyond : (before : Option VersionKey) → AllFollow before (e ∷ es) → AllFollow before es
      beyond None f = f
      beyond (Some last) f = (T_both (is_lt (version_key_cmp last e.0)) (below_all version_key_cmp last es) f).1

      next : (before : Option VersionKey) → AllFollow before (e ∷ es) → follows before e.0 ≡ true
      next None f = refl
      next (Some last) f = T_true (is_lt (version_key_cmp last e.0)) (T_both (is_lt (version_key_cmp last e.0)) (below_all version_key_cmp last es) f).0
        where
          T_true : (b : Bool) → T b → b ≡ true
          T_true true t = refl
          T_true false t = absurd t

      by : ((before : Option VersionKey) → AllFollow before es → facts_fault base c.horizon before (all_left base es) ≡ None)
          → (o : Option VersionValue) → left_above base e.0 e.1 ≡ o → facts_fault base c.horizon before (entry_if e.0 o ++ all_left base es) ≡ None
      by rest None o = rest before (beyond before f)
      by rest (Some x) o = rw (next before f, left_stands e.0 e.1 x (All-head IsKnown e es k) o) (rest (Some e.0) both.0)

  pub faultless : (versions : List Known) → HasLeft (facts_of_content c) base versions → facts_fault base c.horizon None (all_left base versions) ≡ None
  faultless versions are = faultless_left versions (is_sorted-from version_key_cmp versions are.rising) None tt are.known

  row_found : (v : VersionKey) → option_and_then (λ x. x.row) (option_and_then (left_above base v) (known_at (facts_of_content c) v)) ≡ cond (nat_lt base v.born) (finmap.get c.rows v) None
  row_found v = by (nat_lt base v.born) (at_most base) (finmap.get c.rows v) (finmap.get c.ends v)
    where
      none : (b : Bool) → None ≡ cond {A = Option RowValue} b None None
      none true = refl
      none false = refl

      by : (b : Bool) (old : Option ℕ → Bool) (r : Option RowValue) (d : Option ℕ)
          → option_and_then (λ x. x.row) (option_and_then (λ x. if_known (record { row = cond b x.row None; died = cond (old x.died) None x.died })) (if_known (record { row = r; died = d }))) ≡ cond b r None
      by b old None None = none b
      by true old (Some r) d = refl
      by false old (Some r) d = ends (old d) d
        where
          ends : (k : Bool) (d : Option ℕ) → option_and_then (λ (x : VersionValue). x.row) (if_known (record { row = None; died = cond k None d })) ≡ None
          ends true d = refl
          ends false None = refl
          ends false (Some d) = refl
      by b old None (Some d) = rows b (old (Some d))
        where
          rows : (b k : Bool) → option_and_then (λ (x : VersionValue). x.row) (if_known (record { row = cond {A = Option RowValue} b None None; died = cond k None (Some d) })) ≡ cond b None None
          rows true true = refl
          rows true false = refl
          rows false true = refl
          rows false false = refl

  end_found : (v : VersionKey) → option_and_then (λ x. x.died) (option_and_then (left_above base v) (known_at (facts_of_content c) v)) ≡ cond (not (at_most base (finmap.get c.ends v))) (finmap.get c.ends v) None
  end_found v = by (nat_lt base v.born) (finmap.get c.rows v) (finmap.get c.ends v)
    where
      by : (b : Bool) (r : Option RowValue) (d : Option ℕ)
          → option_and_then (λ x. x.died) (option_and_then (λ x. if_known (record { row = cond b x.row None; died = cond (at_most base x.died) None x.died })) (if_known (record { row = r; died = d }))) ≡ cond (not (at_most base d)) d None
      by b None None = refl
      by true (Some r) None = refl
      by false (Some r) None = refl
      by b None (Some d) = some (nat_le d base) b None
        where
          some : (k b : Bool) (r : Option RowValue) → option_and_then (λ (x : VersionValue). x.died) (if_known (record { row = cond b r None; died = cond k None (Some d) })) ≡ cond (not k) (Some d) None
          some true true None = refl
          some true true (Some r) = refl
          some true false r = refl
          some false true None = refl
          some false true (Some r) = refl
          some false false r = refl
      by b (Some r) (Some d) = some (nat_le d base) b
        where
          some : (k b : Bool) → option_and_then (λ (x : VersionValue). x.died) (if_known (record { row = cond b (Some r) None; died = cond k None (Some d) })) ≡ cond (not k) (Some d) None
          some true true = refl
          some true false = refl
          some false true = refl
          some false false = refl

  pub cut_is : (config : ConfigValue) → config.log ≡ c.log → (versions : List Known) → HasLeft (facts_of_content c) base versions → fragment_seen config base c.horizon c.streams (all_left base versions) ≡ cut c base
  cut_is config log versions are = λ i. record { base = base; content = record { log = log i; horizon = c.horizon; rows = rows i; ends = ends i; streams = c.streams } }
    where
      sorted : T (is_sorted version_key_cmp (all_left base versions))
      sorted = (are_facts base c.horizon None (all_left base versions) (faultless versions are)).sorted

      rows : values_by_version (λ x. x.row) (all_left base versions) ≡ finmap.retain_keys c.rows (λ v. nat_lt base v.born)
      rows = finmap.same_map version_key_total version_key_same _ _ (λ v.
          get-among (λ x. x.row) (all_left base versions) sorted v
          ∙ ap (option_and_then (λ x. x.row)) (find_known (facts_of_content c) (left_above base) v versions are.known (are.others v))
          ∙ row_found v ∙ sym (get-retain version_key_total version_key_same c.rows (λ v. nat_lt base v.born) v))

      ends : values_by_version (λ x. x.died) (all_left base versions) ≡ without_ended c.ends base c.ends
      ends = finmap.same_map version_key_total version_key_same _ _ (λ v.
          get-among (λ x. x.died) (all_left base versions) sorted v
          ∙ ap (option_and_then (λ x. x.died)) (find_known (facts_of_content c) (left_above base) v versions are.known (are.others v))
          ∙ end_found v ∙ sym (get-without_ended c.ends base c.ends v))

  base_stands : (base ≡ 0) ⊎ (c.horizon ≤ base) → ((base == 0) || nat_le c.horizon base) ≡ true
  base_stands (inl e) = rw e refl
  base_stands (inr b) = grind (arith, nat_tests)

  -- the parts of the cut at a base that is 0 or at least the horizon have no fault
  pub parts_faultless : (base ≡ 0) ⊎ (c.horizon ≤ base) → (versions : List Known) → HasLeft (facts_of_content c) base versions → fragment_fault base c.horizon c.streams (all_left base versions) ≡ None
  parts_faultless b versions are = rw (base_stands b, within c.horizon (least_closed c.streams) l.in_reach) (faultless versions are)
    where
      within : (h m : ℕ) → h ≤ m → nat_lt m h ≡ false
      within h m e = grind (arith, nat_tests)

-- ---- lists that have what is left

-- all versions
pub all_have : (f : FactsValue) (base : ℕ) (versions : List Known) → AreVersions f versions → HasLeft f base versions
all_have f base versions are = record {
  known = are.known;
  others = λ v x k e. absurd (true≢false (sym (ap is_some k) ∙ are.all v ∙ e));
  rising = are.rising;
}

-- those with a row or an end above the base
pub stated_have : (f : FactsValue) (base : ℕ) (some : VersionKey → Bool) → ((v : VersionKey) → some v ≡ is_stated f (λ t. nat_lt base t) v) → (versions : List Known) → AreVersionsOf f some versions → HasLeft f base versions
stated_have f base some is versions are = record {
  known = are.known;
  others = λ v x k e. subst (λ y. left_above base v y ≡ None) (if_known_is (record { row = finmap.get f.rows v; died = finmap.get f.ends v }) x k).0 (nothing_left v (finmap.get f.rows v) (finmap.get f.ends v) (sym (is v) ∙ unlisted f some versions are v x k e));
  rising = are.rising;
}
  where
    turned : (a b : ℕ) → nat_lt a b ≡ false → nat_le b a ≡ true
    turned a b e = grind (arith, nat_tests)

    gone : (k b : Bool) (r : Option RowValue) (d : ℕ) → b ≡ true → k ≡ false → if_known (record { row = cond k r None; died = cond b None (Some d) }) ≡ None
    gone true b r d e h = absurd (true≢false h)
    gone false true r d e h = refl
    gone false false r d e h = absurd (true≢false (sym e))

    gone_row : (k : Bool) (r : Option RowValue) → k ≡ false → if_known (record { row = cond k r None; died = None }) ≡ None
    gone_row true r h = absurd (true≢false h)
    gone_row false r h = refl

    empty : (k b : Bool) (d : ℕ) → b ≡ true → if_known (record { row = cond {A = Option RowValue} k None None; died = cond b None (Some d) }) ≡ None
    empty true true d e = refl
    empty false true d e = refl
    empty k false d e = absurd (true≢false (sym e))

    none : (k : Bool) → if_known (record { row = cond {A = Option RowValue} k None None; died = None }) ≡ None
    none true = refl
    none false = refl

    neither : (a b : Bool) → (a || b) ≡ false → (a ≡ false) × (b ≡ false)
    neither false b e = (refl, e)
    neither true b e = absurd (true≢false e)

    nothing_left : (v : VersionKey) (r : Option RowValue) (d : Option ℕ) → (passes_at (λ t. nat_lt base t) (option_map (λ row. v.born) r) || passes_at (λ t. nat_lt base t) d) ≡ false → left_above base v (record { row = r; died = d }) ≡ None
    nothing_left v None None e = none (nat_lt base v.born)
    nothing_left v None (Some d) e = empty (nat_lt base v.born) (nat_le d base) d (turned base d e)
    nothing_left v (Some row) None e = gone_row (nat_lt base v.born) (Some row) (neither (nat_lt base v.born) false e).0
    nothing_left v (Some row) (Some d) e =
        let parts = neither (nat_lt base v.born) (nat_lt base d) e in
        gone (nat_lt base v.born) (nat_le d base) (Some row) d (turned base d parts.1) parts.0
