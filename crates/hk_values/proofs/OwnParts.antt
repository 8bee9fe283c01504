-- A fragment is the one of its head and its facts, and what is put together has them.
use Rattle.std.proofs.Common.{◌≡◌, refl, sym, ap, ◌∙◌, ℕ, ◌≤◌, ◌⊎◌, Bool, true, false, cond, ◌||◌, ◌==◌, eqb, nat_le, nat_lt, is_some, List, length, Option, Some, None, Ok, Err, T, arith}
use Rattle.std.proofs.lemmas.Bool.{eqb-true, eq-eqb}
use Rattle.std.proofs.lemmas.Bool.Decides.{nat_tests}
use Rattle.std.specs.Option.{option_and_then}
use Rattle.std.specs.FinMap as finmap
use Rattle.std.specs.FinMap.Entries.{find}
use Rattle.hk_types.specs.Values.{RowValue}
use Rattle.hk_types.specs.declared.version_key.VersionKey.{VersionKey}
use Rattle.hk_types.specs.declared.faults.FormFault.{FormFault}
use Rattle.hk_types.specs.declared.faults.FormFault.TheVariants.{BadCount}
use Rattle.hk_log.specs.Versions.{VersionValue, is_known}
use Rattle.hk_model.specs.History.Rows.{version_key_cmp}
use Rattle.hk_model.specs.Replica.Content.{Content, least_closed}
use Rattle.hk_model.specs.Replica.Fragments.{FragmentValue}
use Rattle.hk_model.specs.Replica.Lawful.{IsLawfulFragment}
use Rattle.hk_model.proofs.Replica.Maps.{version_key_total, version_key_same}
use Rattle.hk_fragment.specs.Parts.{Known, known_of, versions_listed, values_by_version, facts_fault, fragment_fault, fragment_seen, checked_fragment, unless}
use Rattle.hk_fragment.proofs.ListedVersions.{pairs, listed_of, get-among}
use Rattle.hk_fragment.proofs.FragmentRules.{listed, facts_tested}
use Rattle.hk_fragment.specs.Heads.{HeadValue, head_of, facts_of, config_of, of_facts}
use Rattle.hk_values.specs.Cutting.{facts_of_parts, of_parts, IsOfItsParts, IsPutTogether}
use Rattle.hk_values.proofs.CutParts.{are_parts}

-- ---- a content is read off its list

read_row : (row : Option RowValue) (died : Option ℕ) → option_and_then (λ (x : VersionValue). x.row) (cond (is_some row || is_some died) (Some (record { row = row; died = died })) None) ≡ row
read_row None None = refl
read_row (Some r) died = refl
read_row None (Some d) = refl

read_died : (row : Option RowValue) (died : Option ℕ) → option_and_then (λ (x : VersionValue). x.died) (cond (is_some row || is_some died) (Some (record { row = row; died = died })) None) ≡ died
read_died None None = refl
read_died (Some r) died = refl
read_died None (Some d) = refl

module _ (c : Content) where
  sorted : T (finmap.is_sorted version_key_cmp (versions_listed c))
  sorted = finmap.entries_sorted (finmap.from_entries {R = version_key_cmp} (pairs c))

  find_own : (v : VersionKey) → find version_key_cmp v (versions_listed c) ≡ cond (is_known (known_of c v)) (Some (known_of c v)) None
  find_own v = sym (finmap.get-entries (finmap.from_entries {R = version_key_cmp} (pairs c)) v) ∙ finmap.get-from_entries version_key_total (pairs c) v ∙ listed_of c v

  own_rows : values_by_version (λ x. x.row) (versions_listed c) ≡ c.rows
  own_rows = finmap.same_map version_key_total version_key_same _ _ (λ v.
      get-among (λ x. x.row) (versions_listed c) sorted v ∙ ap (option_and_then (λ (x : VersionValue). x.row)) (find_own v) ∙ read_row (finmap.get c.rows v) (finmap.get c.ends v))

  own_ends : values_by_version (λ x. x.died) (versions_listed c) ≡ c.ends
  own_ends = finmap.same_map version_key_total version_key_same _ _ (λ v.
      get-among (λ x. x.died) (versions_listed c) sorted v ∙ ap (option_and_then (λ (x : VersionValue). x.died)) (find_own v) ∙ read_died (finmap.get c.rows v) (finmap.get c.ends v))

-- ---- a fragment of its head and facts

-- as many facts as the head says are tested by the rules of fragments alone
of_counted : (head : HeadValue) (facts : List Known) → length facts ≡ head.count → of_facts head facts ≡ checked_fragment (config_of head) head.base head.horizon head.streams facts
of_counted head facts same = ap (λ b. cond b (checked_fragment (config_of head) head.base head.horizon head.streams facts) (Err BadCount)) (eq-eqb (length facts) head.count same)

base_test : (base horizon : ℕ) → (base ≡ 0) ⊎ (horizon ≤ base) → ((base == 0) || nat_le horizon base) ≡ true
base_test base horizon h = grind (arith, nat_tests)

reach_test : (least horizon : ℕ) → horizon ≤ least → nat_lt least horizon ≡ false
reach_test least horizon h = grind (arith, nat_tests)

module _ (f : FragmentValue) (lawful : IsLawfulFragment f) (faultless : facts_fault f.base f.content.horizon None (facts_of f) ≡ None) where
  own_seen : fragment_seen (config_of (head_of f)) f.base f.content.horizon f.content.streams (facts_of f) ≡ f
  own_seen = λ i. record {
    base = f.base;
    content = record { log = f.content.log; horizon = f.content.horizon; rows = own_rows f.content i; ends = own_ends f.content i; streams = f.content.streams };
  }

  own_faultless : fragment_fault f.base f.content.horizon f.content.streams (facts_of f) ≡ None
  own_faultless = rw (base_test f.base f.content.horizon lawful.base_above, reach_test (least_closed f.content.streams) f.content.horizon lawful.content.in_reach) faultless

  pub of_own_facts : of_facts (head_of f) (facts_of f) ≡ Ok f
  of_own_facts = of_counted (head_of f) (facts_of f) refl ∙ ap (λ o. unless o (fragment_seen (config_of (head_of f)) f.base f.content.horizon f.content.streams (facts_of f))) own_faultless ∙ ap Ok own_seen

  pub of_own_parts : IsOfItsParts f
  of_own_parts most = ap (of_facts (head_of f)) (are_parts most (facts_of f)).whole ∙ of_own_facts

-- ---- what is put together

pub put_together : (head : HeadValue) (parts : List (List Known)) (f : FragmentValue) → of_parts head parts ≡ Ok f → IsPutTogether head parts f
put_together head parts f e = by_count (eqb (length (facts_of_parts parts)) head.count) refl e
  where
    made : FragmentValue
    made = fragment_seen (config_of head) head.base head.horizon head.streams (facts_of_parts parts)

    by : (o : Option FormFault) → fragment_fault head.base head.horizon head.streams (facts_of_parts parts) ≡ o → length (facts_of_parts parts) ≡ head.count → unless o made ≡ Ok f → IsPutTogether head parts f
    by (Some fault) t same e = absurd cc
    by None t same e =
        let is : made ≡ f = cc in
        let facts : facts_of made ≡ facts_of_parts parts =
        listed (config_of head) head.base head.horizon head.streams (facts_of_parts parts) (facts_tested head.base head.horizon head.streams (facts_of_parts parts) t) in
        record {
          has_head = ap head_of (sym is) ∙ ap (λ (n : ℕ). record head { count = n }) (ap length facts ∙ same);
          has_facts = ap facts_of (sym is) ∙ facts;
        }

    by_count : (b : Bool) → eqb (length (facts_of_parts parts)) head.count ≡ b → cond b (checked_fragment (config_of head) head.base head.horizon head.streams (facts_of_parts parts)) (Err BadCount) ≡ Ok f → IsPutTogether head parts f
    by_count true t e = by (fragment_fault head.base head.horizon head.streams (facts_of_parts parts)) refl (eqb-true (length (facts_of_parts parts)) head.count t) e
    by_count false t e = absurd cc
