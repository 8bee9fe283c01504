-- What a primary's tables show at a time is what its history left then.
use Rattle.std.proofs.Common.{◌≡◌, refl, sym, ap, ◌∙◌, ℕ, ◌<◌, ◌≤◌, arith, Bool, true, false, cond, not, Option, Some, None, List}
use Rattle.std.proofs.lemmas.Bool.Decides.{nat_tests}
use Rattle.std.specs.FinMap as finmap
use Rattle.hk_types.specs.Values.{ConfigValue}
use Rattle.hk_types.specs.declared.version_key.VersionKey.{VersionKey}
use Rattle.hk_log.specs.declared.item.Item.{Item}
use Rattle.hk_model.specs.History.Rows.{version_key_cmp}
use Rattle.hk_model.specs.History.Facts.{rows_of, ends_of}
use Rattle.hk_model.specs.Replica.Content.{at_most, without_ended}
use Rattle.hk_model.specs.Replica.ContentOf.{content_of}
use Rattle.hk_model.specs.Replica.Answers.{visible}
use Rattle.hk_model.specs.History.Histories.{History, commits, table_at, entries_of, IsHistory}
use Rattle.hk_model.proofs.Replica.Members.{In}
use Rattle.hk_model.proofs.Replica.Maps.{version_key_total, version_key_same, get-without_ended}
use Rattle.hk_model.proofs.History.Logs.{IsPart, fact_end, end_found}
use Rattle.hk_model.proofs.History.Histories.{are_commits, end_after}
use Rattle.hk_model.proofs.History.Honest.{items_part}
use Rattle.hk_model.proofs.Replica.Visible.{upto, visible_at}
use Rattle.hk_store.specs.Facts.{FactsValue}
use Rattle.hk_store.specs.Reads.{with_facts}
use Rattle.hk_primary.specs.Log.{IsPrimary, history_of}
use Rattle.hk_primary.proofs.HistoryOfLog.{history_is, items_are, log_has}

above_zero : (d : ℕ) → 0 < d → at_most 0 (Some d) ≡ false
above_zero d l = grind (arith, nat_tests)

module _ (config : ConfigValue) (newest : ℕ) (items : List Item) (facts : FactsValue) (counts : List ℕ) (retired : List Bool) (p : IsPrimary config newest items facts counts retired) where
  abbrev history : History
  history = history_of items

  is : IsHistory config history
  is = history_is config items p.logged

  part : IsPart (λ e. In e (entries_of config (commits history))) items
  part = items_part config history is items (items_are config items p.logged)

  -- no version ended at 0
  none_ended : (v : VersionKey) → at_most 0 (finmap.get (ends_of items) v) ≡ false
  none_ended v = by (finmap.get (ends_of items) v) refl
    where
      by : (o : Option ℕ) → finmap.get (ends_of items) v ≡ o → at_most 0 o ≡ false
      by None e = refl
      by (Some d) e =
          let f = fact_end v d items (end_found items v d e) in
          let after = end_after config (commits history) (are_commits config history is) f.0 (part.entry f.0 f.1) v d f.2 in
          above_zero d (omega arith)

  all_kept : {X : Type 0} (m : finmap.FinMap version_key_cmp X) → without_ended (ends_of items) 0 m ≡ m
  all_kept m = finmap.same_map version_key_total version_key_same _ _ (λ v. get-without_ended (ends_of items) 0 m v ∙ ap (λ b. cond (not b) (finmap.get m v) None) (none_ended v))

  rows_kept : facts.rows ≡ (content_of config items 0).rows
  rows_kept = p.rows_are ∙ sym (all_kept (rows_of items))

  ends_kept : facts.ends ≡ (content_of config items 0).ends
  ends_kept = p.ends_are ∙ sym (all_kept (ends_of items))

  pub shown_is : (t : ℕ) → visible (with_facts facts) t ≡ table_at (commits history) t
  shown_is t =
      let cut = upto config t (commits history) (are_commits config history is) in
      (λ i. visible (with_facts (record { rows = rows_kept i; ends = ends_kept i })) t)
      ∙ visible_at config (commits history) (are_commits config history is) items part 0 t (omega arith) (λ e i l. log_has config items e p.logged i) cut.0 cut.1
