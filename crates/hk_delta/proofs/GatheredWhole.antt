-- What items say together is the content of them at horizon 0, and its cut at 0 is their fragment.
use Rattle.std.proofs.Common.{◌≡◌, refl, sym, ap, ◌∙◌, subst, ℕ, ◌<◌, ◌≤◌, Bool, true, false, cond, not, ◌||◌, ◌==◌, Option, Some, None, List, [], ◌∷◌, ◌++◌, All, Result, Ok, Err, ◌⊎◌, inl, inr, nat_le, nat_lt, arith}
use Rattle.std.proofs.lemmas.Bool.Decides.{nat_tests}
use Rattle.std.specs.List.{flat_map}
use Rattle.std.specs.FinMap as finmap
use Rattle.std.proofs.lemmas.List.Elements.{All-head, All-tail}
use Rattle.hk_types.specs.Values.{ConfigValue, RowValue, same_row}
use Rattle.hk_types.specs.declared.version_key.VersionKey.{VersionKey}
use Rattle.hk_types.specs.declared.faults.Refusal.{Refusal}
use Rattle.hk_types.specs.declared.faults.Refusal.TheVariants.{Conflict, Memory}
use Rattle.hk_log.specs.Items.{EntryValue}
use Rattle.hk_log.specs.declared.item.Item.{Item}
use Rattle.hk_log.specs.declared.item.Item.TheVariants.{Commit}
use Rattle.hk_model.specs.History.Rows.{version_key_cmp}
use Rattle.hk_model.specs.History.Facts.{row_facts, end_facts, rows_of, ends_of}
use Rattle.hk_model.specs.Replica.Content.{at_most, without_ended, readable}
use Rattle.hk_model.specs.Replica.ContentOf.{content_of}
use Rattle.hk_model.specs.Replica.Streams.{streams_of}
use Rattle.hk_model.specs.Replica.Fragments.{FragmentValue, part}
use Rattle.hk_model.specs.Replica.Lawful.{IsLawful, IsItem}
use Rattle.hk_model.specs.Replica.Rules.{conflict, gather_result, gather_result_unless, first_wrong_log}
use Rattle.hk_model.proofs.Replica.Maps.{version_key_total, version_key_same, get-without_ended}
use Rattle.hk_model.proofs.Replica.Members.{In, In-map}
use Rattle.hk_model.proofs.History.Logs.{fact_end, end_found}
use Rattle.hk_model.proofs.History.Writes.{All_In}
use Rattle.hk_model.proofs.Replica.Lawful.{IsSound, entry_sound, content_of_lawful}
use Rattle.hk_model.proofs.Replica.Gathers.{gathered_law}
use Rattle.hk_facts.specs.Facts.{if_known}
use Rattle.hk_store.specs.Facts.{FactsValue, known_at, entry_if}
use Rattle.hk_store.specs.Reads.{facts_of_content}
use Rattle.hk_store.specs.Versions.{AreVersions}
use Rattle.hk_fragment.specs.Parts.{Known, fragment_seen, fragment_fault}
use Rattle.hk_delta.specs.Cuts.{HasLeft, all_left, left_above, row_above, end_above}
use Rattle.hk_delta.specs.Gathers.{item_facts, have_conflict, Gathers, GathersOf}
use Rattle.hk_delta.specs.Versions.{facts_from, told, contradict}
use Rattle.hk_delta.proofs.FactsInConflict.{inserted_rows_in, stated_ends_in}
use Rattle.hk_delta.proofs.CutLists.{parts_faultless, cut_is, all_have, if_known_is}

-- what items say, fact by fact
pub items_told : (items : List Item) → told (flat_map item_facts items) ≡ facts_from (row_facts items) (end_facts items)
items_told items = λ i. facts_from (inserted_rows_in items i) (stated_ends_in items i)

pub items_contradict : (items : List Item) → contradict (flat_map item_facts items) ≡ have_conflict items
items_contradict items = λ i. conflict same_row (inserted_rows_in items i) || conflict (λ a b. a == b) (stated_ends_in items i)

module _ (config : ConfigValue) (items : List Item) (all : All IsItem items) where
  sound : (e : EntryValue) → In (Commit e) items → IsSound e
  sound e i = entry_sound e (All_In IsItem items all (Commit e) i)

  zero_within : 0 ≤ readable (content_of config items 0)
  zero_within = omega arith

  pub whole_lawful : IsLawful (content_of config items 0)
  whole_lawful = content_of_lawful config items 0 sound zero_within

  -- no item states an end at 0
  ends_later : (v : VersionKey) → at_most 0 (finmap.get (ends_of items) v) ≡ false
  ends_later v = by (finmap.get (ends_of items) v) refl
    where
      by : (o : Option ℕ) → finmap.get (ends_of items) v ≡ o → at_most 0 o ≡ false
      by None e = refl
      by (Some d) e =
          let f = fact_end v d items (end_found items v d e) in
          let m = In-map (λ (u : VersionKey). (u, f.0.time)) (v, d) f.0.ends f.2 in
          let dead : d ≡ f.0.time = ap (λ (z : VersionKey × ℕ). z.1) m.2 in
          above d f.0.time dead (sound f.0 f.1).time
        where
          above : (d t : ℕ) → d ≡ t → 0 < t → nat_le d 0 ≡ false
          above d t e l = grind (arith, nat_tests)

  pub all_kept : {X : Type 0} (facts : finmap.FinMap version_key_cmp X) → without_ended (ends_of items) 0 facts ≡ facts
  all_kept facts = finmap.same_map version_key_total version_key_same _ _ (λ v. get-without_ended (ends_of items) 0 facts v ∙ ap (λ b. cond (not b) (finmap.get facts v) None) (ends_later v))

  pub whole_facts : facts_from (row_facts items) (end_facts items) ≡ facts_of_content (content_of config items 0)
  whole_facts = λ i. record { rows = sym (all_kept (rows_of items)) i; ends = sym (all_kept (ends_of items)) i }

  module _ (f : FactsValue) (is : f ≡ facts_from (row_facts items) (end_facts items)) (es : List Known) (are : AreVersions f es) where
    listed : HasLeft (facts_of_content (content_of config items 0)) 0 es
    listed = all_have _ 0 es (subst (λ (g : FactsValue). AreVersions g es) (is ∙ whole_facts) are)

    -- all of each version is above 0
    row_stays : (v : VersionKey) (r : Option RowValue) → finmap.get (content_of config items 0).rows v ≡ r → row_above 0 v.born r ≡ r
    row_stays v None e = neither (nat_lt 0 v.born)
      where
        neither : (b : Bool) → ◌≡◌ {A = Option RowValue} (cond b None None) None
        neither true = refl
        neither false = refl
    row_stays v (Some row) e = ap (λ b. cond b (Some row) None) (later v.born (whole_lawful.born v row e))
      where
        later : (b : ℕ) → 0 < b → nat_lt 0 b ≡ true
        later b l = grind (arith, nat_tests)

    end_stays : (v : VersionKey) (d : Option ℕ) → finmap.get (content_of config items 0).ends v ≡ d → end_above 0 d ≡ d
    end_stays v None e = refl
    end_stays v (Some d) e = ap (λ b. cond b None (Some d)) (later d (whole_lawful.end_above v d e))
      where
        later : (d : ℕ) → 0 < d → nat_le d 0 ≡ false
        later d l = grind (arith, nat_tests)

    all_stays : (xs : List Known) → All (λ e. known_at (facts_of_content (content_of config items 0)) e.0 ≡ Some e.1) xs → all_left 0 xs ≡ xs
    all_stays [] known = refl
    all_stays (e ∷ xs) known = λ i. entry_if e.0 (one e (All-head (λ e. known_at (facts_of_content (content_of config items 0)) e.0 ≡ Some e.1) e xs known) i) ++ all_stays xs (All-tail (λ e. known_at (facts_of_content (content_of config items 0)) e.0 ≡ Some e.1) e xs known) i
      where
        one : (e : Known) → known_at (facts_of_content (content_of config items 0)) e.0 ≡ Some e.1 → left_above 0 e.0 e.1 ≡ Some e.1
        one e is =
            let c = content_of config items 0 in
            ap (left_above 0 e.0) (sym (if_known_is (record { row = finmap.get c.rows e.0; died = finmap.get c.ends e.0 }) e.1 is).0)
            ∙ (λ i. if_known (record { row = row_stays e.0 (finmap.get c.rows e.0) refl i; died = end_stays e.0 (finmap.get c.ends e.0) refl i }))
            ∙ is

    all_listed : all_left 0 es ≡ es
    all_listed = all_stays es listed.known

    pub whole_faultless : fragment_fault 0 0 (streams_of config.streams items) (all_left 0 es) ≡ None
    whole_faultless = parts_faultless (content_of config items 0) whole_lawful 0 (inl refl) es listed

    pub whole_is : fragment_seen config 0 0 (streams_of config.streams items) (all_left 0 es) ≡ part config items 0 0
    whole_is = cut_is (content_of config items 0) whole_lawful 0 config refl es listed

    -- the list as it is
    pub list_faultless : fragment_fault 0 0 (streams_of config.streams items) es ≡ None
    list_faultless = ap (fragment_fault 0 0 (streams_of config.streams items)) (sym all_listed) ∙ whole_faultless

    pub list_is : fragment_seen config 0 0 (streams_of config.streams items) es ≡ part config items 0 0
    list_is = ap (fragment_seen config 0 0 (streams_of config.streams items)) (sym all_listed) ∙ whole_is

-- ---- what is answered

pub gathered_ok : (config : ConfigValue) (items : List Item) → first_wrong_log config items ≡ None → have_conflict items ≡ false → gather_result config items ≡ Ok (part config items 0 0)
gathered_ok config items fits agree = ap (gather_result_unless config items) fits ∙ ap (λ b. cond b (Err Conflict) (Ok (part config items 0 0))) agree

pub gathered_err : (config : ConfigValue) (items : List Item) → first_wrong_log config items ≡ None → have_conflict items ≡ true → gather_result config items ≡ Err Conflict
gathered_err config items fits conflicting = ap (gather_result_unless config items) fits ∙ ap (λ b. cond b (Err Conflict) (Ok (part config items 0 0))) conflicting

-- a refusal of the growing, after the test for a conflict
pub refused : (config : ConfigValue) (items : List Item) → first_wrong_log config items ≡ None → (why told : Refusal) → (why ≡ Memory) ⊎ ((why ≡ Conflict) × (have_conflict items ≡ true)) → (have_conflict items ≡ true → told ≡ Conflict) → (have_conflict items ≡ false → told ≡ why)
    → (gather_result config items ≡ Err told) ⊎ ((told ≡ Memory) × ((f : FragmentValue) × (gather_result config items ≡ Ok f)))
refused config items fits why told is conflicting even = by (have_conflict items) refl
  where
    by : (b : Bool) → have_conflict items ≡ b → (gather_result config items ≡ Err told) ⊎ ((told ≡ Memory) × ((f : FragmentValue) × (gather_result config items ≡ Ok f)))
    by true e = inl (gathered_err config items fits e ∙ ap Err (sym (conflicting e)))
    by false e = elim is [
      | inl m ↦ inr (even e ∙ m, (part config items 0 0, gathered_ok config items fits e))
      | inr c ↦ absurd (values_conflict (sym e ∙ c.1))
    ]
      where
        values_conflict : false ≡ true → ⊥
        values_conflict e = cc

-- items of a history
pub of_history : (config : ConfigValue) (items : List Item) (r : Result FragmentValue Refusal) → Gathers config items r → GathersOf config items r
of_history config items (Ok f) gave history is all = (same f (part config items 0 0) (sym gave ∙ gathered_law config history is items all), tt)
  where
    same : (f g : FragmentValue) → ◌≡◌ {A = Result FragmentValue Refusal} (Ok f) (Ok g) → f ≡ g
    same f g e = cc
of_history config items (Err why) gave history is all = (tt, elim gave [ inl e ↦ absurd (values_conflict (part config items 0 0) why (sym (gathered_law config history is items all) ∙ e)) | inr m ↦ m.0 ])
  where
    values_conflict : (f : FragmentValue) (why : Refusal) → ◌≡◌ {A = Result FragmentValue Refusal} (Ok f) (Err why) → ⊥
    values_conflict f why e = cc
