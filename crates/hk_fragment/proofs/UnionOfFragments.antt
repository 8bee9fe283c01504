-- A merged list of versions is the union of what the two say.
use Rattle.std.proofs.Common.{◌≡◌, refl, sym, ap, ◌∙◌, ℕ, false, Option, Some, None, List, [], ◌∷◌, ◌++◌, max, All, length, T, nat_lt, arith}
use Rattle.std.proofs.lemmas.Bool.Decides.{nat_tests}
use Rattle.std.proofs.lemmas.List.Elements.{All-nil, All-cons}
use Rattle.std.specs.Option.{option_and_then}
use Rattle.std.specs.FinMap as finmap
use Rattle.std.specs.FinMap.Entries.{find, is_sorted}
use Rattle.std.specs.FinSet as set
use Rattle.hk_types.specs.Values.{ConfigValue}
use Rattle.hk_types.specs.declared.version_key.VersionKey.{VersionKey}
use Rattle.hk_log.specs.Versions.{VersionValue}
use Rattle.hk_model.specs.Replica.Maps.{or_else, union}
use Rattle.hk_model.specs.History.Rows.{version_key_cmp}
use Rattle.hk_model.specs.Replica.Content.{least_closed}
use Rattle.hk_model.specs.Replica.Streams.{StreamContent, together, all_together}
use Rattle.hk_model.specs.Replica.Lawful.{IsLawfulStream}
use Rattle.hk_model.proofs.Replica.Lawful.{settled_lawful}
use Rattle.hk_model.proofs.Replica.Maps.{version_key_total, version_key_same, get-union}
use Rattle.hk_marks.specs.Seen.{IsNumbered}
use Rattle.hk_marks.proofs.Limits.{all_numbered}
use Rattle.hk_model.proofs.Replica.Streams.{as_many_together, no_gap_at_0}
use Rattle.hk_fragment.specs.Parts.{Known, values_by_version, fragment_seen, facts_fault, IsFragment}
use Rattle.hk_fragment.specs.Merging.{both_known, known_in_either, union_of}
use Rattle.hk_fragment.proofs.ListedVersions.{get-among}
use Rattle.hk_fragment.proofs.FragmentRules.{are_facts}
use Rattle.hk_store.proofs.StoredFacts.{or_none}

all_lawful : (xs ys : List StreamContent) → All IsLawfulStream (all_together xs ys)
all_lawful [] ys = All-nil IsLawfulStream
all_lawful (x ∷ xs) [] = All-nil IsLawfulStream
all_lawful (x ∷ xs) (y ∷ ys) = All-cons IsLawfulStream (together x y) (all_together xs ys) (settled_lawful (set.union x.taken y.taken) (max x.closed y.closed) (finmap.entries x.waiting ++ finmap.entries y.waiting)) (all_lawful xs ys)

-- what is read of a merged list is the union of what is read of both
module _ {Y : Type 0} (read : VersionValue → Option Y) (reads : (x y : VersionValue) → read (both_known x y) ≡ or_else (read x) (read y)) where
  read_either : (a b : Option VersionValue) → option_and_then read (known_in_either a b) ≡ or_else (option_and_then read a) (option_and_then read b)
  read_either None b = refl
  read_either (Some x) None = sym (or_none (read x))
  read_either (Some x) (Some y) = reads x y

  read_union : (own coming out : List Known) → T (is_sorted version_key_cmp own) → T (is_sorted version_key_cmp coming) → T (is_sorted version_key_cmp out)
      → ((v : VersionKey) → find version_key_cmp v out ≡ known_in_either (find version_key_cmp v own) (find version_key_cmp v coming)) → values_by_version read out ≡ union (values_by_version read own) (values_by_version read coming)
  read_union own coming out s t r found = finmap.same_map version_key_total version_key_same _ _ (λ v.
      get-among read out r v ∙ ap (option_and_then read) (found v) ∙ read_either (find version_key_cmp v own) (find version_key_cmp v coming)
      ∙ sym (get-union version_key_total version_key_same (values_by_version read own) (values_by_version read coming) v ∙ (λ i. or_else (get-among read own s v i) (get-among read coming t v i))))

module _ (config : ConfigValue) (base horizon : ℕ) (streams others new : List StreamContent) (own coming out : List Known) (at_zero : base ≡ 0) (no_horizon : horizon ≡ 0) (given : new ≡ all_together streams others) (faultless : facts_fault 0 0 None out ≡ None) where
  pub united_parts : IsFragment config base horizon streams own → length others ≡ length streams → All IsNumbered others → IsFragment config base horizon new out
  united_parts h many numbered = rw (given, at_zero, no_horizon) record {
    as_many = as_many_together streams others many ∙ h.as_many;
    lawful_streams = all_lawful streams others;
    numbered_streams = all_numbered streams others h.numbered_streams numbered;
    faultless = rw (no_gap_at_0 (least_closed (all_together streams others))) faultless;
  }

  pub united_seen : (other : ConfigValue) (other_base other_horizon : ℕ) → other_base ≡ 0 → other_horizon ≡ 0 → facts_fault base horizon None own ≡ None → facts_fault other_base other_horizon None coming ≡ None
      → ((v : VersionKey) → find version_key_cmp v out ≡ known_in_either (find version_key_cmp v own) (find version_key_cmp v coming))
      → fragment_seen config base horizon new out ≡ union_of (fragment_seen config base horizon streams own) (fragment_seen other other_base other_horizon others coming)
  united_seen other other_base other_horizon zero none f g found =
      let s = (are_facts base horizon None own f).sorted in
      let t = (are_facts other_base other_horizon None coming g).sorted in
      let r = (are_facts 0 0 None out faultless).sorted in
      λ i. record {
        base = at_zero i;
        content = record {
          log = config.log;
          horizon = no_horizon i;
          rows = read_union (λ x. x.row) (λ x y. refl) own coming out s t r found i;
          ends = read_union (λ x. x.died) (λ x y. refl) own coming out s t r found i;
          streams = given i;
        };
      }
