-- Items that are added one after the other leave what a join of their fragment leaves.
use Rattle.std.proofs.Common.{◌≡◌, refl, sym, ap, ◌∙◌, subst, ℕ, Bool, true, false, cond, not, ◌&&◌, ◌||◌, ◌==◌, Option, Some, None, List, [], ◌∷◌, length, ◌<◌, max, arith, nat_lt, is_ok, Ok, Err, ◌⊎◌, inl, inr, true≢false, eq-eqb, All}
use Rattle.std.proofs.lemmas.Bool.{lt-leb, lt-ltb, or_parts, eqb-true}
use Rattle.std.proofs.lemmas.List.{append-nil}
use Rattle.std.proofs.lemmas.List.Elements.{All-head, All-tail}
use Rattle.std.specs.FinMap as finmap
use Rattle.hk_types.specs.Values.{RowValue, same_row}
use Rattle.hk_types.specs.declared.faults.Refusal.{Refusal}
use Rattle.hk_types.specs.declared.faults.Refusal.TheVariants.{ForeignLog, WrongStreams, Gap, Conflict, Memory}
use Rattle.hk_types.specs.declared.version_key.VersionKey.{VersionKey}
use Rattle.hk_log.specs.Items.{EntryValue, IsEntry}
use Rattle.hk_log.specs.declared.item.Item.{Item}
use Rattle.hk_log.specs.declared.item.Item.TheVariants.{Commit, Closed}
use Rattle.hk_model.specs.History.Facts.{entry_rows, entry_ends, row_facts, end_facts, rows_of, ends_of}
use Rattle.hk_model.specs.History.Rows.{version_key_cmp}
use Rattle.hk_model.specs.Replica.Content.{Content, readable, at_most, ended_by, without_ended}
use Rattle.hk_model.specs.Replica.ContentOf.{content_of}
use Rattle.hk_model.specs.Replica.Fragments.{FragmentValue, part}
use Rattle.hk_model.specs.Replica.Lawful.{IsItem, IsLawful}
use Rattle.hk_model.specs.Replica.Maps.{values_conflict, union, maps_conflict}
use Rattle.hk_model.specs.Replica.Rules.{conflict, first_wrong_log, gather_result, with_items, join_result, content_after_join}
use Rattle.hk_model.specs.Replica.Streams.{streams_of, all_together}
use Rattle.hk_model.proofs.History.Logs.{fact_row, fact_end, row_born, end_dead, row_found, end_found}
use Rattle.hk_model.proofs.History.Writes.{All_In}
use Rattle.hk_model.proofs.Replica.Lawful.{joined_lawful, cut_lawful}
use Rattle.hk_model.proofs.Replica.Maps.{version_key_total, version_key_same, get-retain, get-without_ended, no_entry_conflict}
use Rattle.hk_model.proofs.Replica.Members.{In}
use Rattle.hk_model.proofs.Replica.Streams.{no_gap_at_0}
use Rattle.hk_model.proofs.Replica.Visible.{find_sorted}
use Rattle.hk_store.specs.Facts.{FactsValue, conflicts_with_entry}
use Rattle.hk_store.specs.Reads.{facts_of_content}
use Rattle.hk_store.proofs.EntryConflicts.{rows_sorted, ends_sorted}
use Rattle.hk_store.proofs.SameRows.{same_value}
use Rattle.hk_state.specs.Items.{facts_with, conflict_in_turn, log_of_content}
use Rattle.hk_state.proofs.ItemsInTurn.{with_mark}
use Rattle.hk_state.proofs.MapsInConflict.{still_agrees, union_conflicts, rows_both, ends_both}
use Rattle.hk_state.proofs.WrongLogs.{count_streams}
use Rattle.hk_delta.proofs.FactsInConflict.{no_conflict, row_alike, time_alike}
use Rattle.hk_delta.specs.Agreeing.{IsAbove}
use Rattle.hk_delta.specs.Gathers.{have_conflict}
use Rattle.hk_delta.specs.Joins.{joined_if, JoinsItems}
use Rattle.hk_delta.proofs.GatheredWhole.{whole_lawful, gathered_ok, gathered_err}
use Rattle.hk_delta.proofs.UnionOfLists.{still_none, part_is}

-- ---- where none conflicts in turn, none conflicts at all

pub no_conflict_with_none : {X : Type 0} (same : X → X → Bool) (m : finmap.FinMap version_key_cmp X) → maps_conflict same m (finmap.from_entries []) ≡ false
no_conflict_with_none {X = X} same m = no_entry_conflict version_key_total version_key_same same m (finmap.from_entries []) (λ v.
    ap (values_conflict same (finmap.get m v)) (finmap.get-from_entries version_key_total [] v) ∙ with_nothing (finmap.get m v))
  where
    with_nothing : (o : Option X) → values_conflict same o None ≡ false
    with_nothing None = refl
    with_nothing (Some x) = refl

module _ (e : EntryValue) (w : IsEntry e) where
  own_rows_agree : conflict same_row (entry_rows e) ≡ false
  own_rows_agree = no_conflict same_row same_value row_alike (entry_rows e) (λ v x i. finmap.get-from_entries version_key_total (entry_rows e) v ∙ find_sorted version_key_cmp version_key_total v x (entry_rows e) (rows_sorted e.time e.rows w.rows_rise) i)

  own_ends_agree : conflict (λ a b. a == b) (entry_ends e) ≡ false
  own_ends_agree = no_conflict (λ a b. a == b) eqb-true time_alike (entry_ends e) (λ v d i. finmap.get-from_entries version_key_total (entry_ends e) v ∙ find_sorted version_key_cmp version_key_total v d (entry_ends e) (ends_sorted e.time e.ends w.ends_rise) i)

-- items that agree with facts, and with each other
pub record AgreeAll (f : FactsValue) (items : List Item) : Type 0 where
  pub rows : maps_conflict same_row f.rows (rows_of items) ≡ false
  pub ends : maps_conflict (λ a b. a == b) f.ends (ends_of items) ≡ false
  pub own_rows : conflict same_row (row_facts items) ≡ false
  pub own_ends : conflict (λ a b. a == b) (end_facts items) ≡ false

pub agree_in_turn : (items : List Item) → All IsItem items → (f : FactsValue) → conflict_in_turn f items ≡ false → AgreeAll f items
agree_in_turn [] all f none = record { rows = no_conflict_with_none same_row f.rows; ends = no_conflict_with_none (λ a b. a == b) f.ends; own_rows = refl; own_ends = refl }
agree_in_turn (Closed m ∷ items) all f none =
    let rest = agree_in_turn items (All-tail IsItem (Closed m) items all) f (ap (λ g. conflict_in_turn g items) (sym (with_mark f m)) ∙ none) in
    record { rows = rest.rows; ends = rest.ends; own_rows = rest.own_rows; own_ends = rest.own_ends }
agree_in_turn (Commit e ∷ items) all f none =
    let w : IsEntry e = All-head IsItem (Commit e) items all in
    let parts = or_parts (conflicts_with_entry f e) (conflict_in_turn (facts_with f (Commit e ∷ [])) items) none in
    let own = or_parts (maps_conflict same_row f.rows (rows_of (Commit e ∷ []))) (maps_conflict (λ a b. a == b) f.ends (ends_of (Commit e ∷ []))) parts.0 in
    let rest = agree_in_turn items (All-tail IsItem (Commit e) items all) (facts_with f (Commit e ∷ [])) parts.1 in
    let rows = or_parts (maps_conflict same_row f.rows (rows_of items)) (maps_conflict same_row (rows_of (Commit e ∷ [])) (rows_of items)) (sym (union_conflicts same_row same_value f.rows (rows_of (Commit e ∷ [])) (rows_of items) own.0) ∙ rest.rows) in
    let ends = or_parts (maps_conflict (λ a b. a == b) f.ends (ends_of items)) (maps_conflict (λ a b. a == b) (ends_of (Commit e ∷ [])) (ends_of items)) (sym (union_conflicts (λ a b. a == b) eqb-true f.ends (ends_of (Commit e ∷ [])) (ends_of items) own.1) ∙ rest.ends) in
    record {
      rows = ap (maps_conflict same_row f.rows) (sym (rows_both (Commit e ∷ []) items)) ∙ still_agrees same_row f.rows (rows_of (Commit e ∷ [])) (rows_of items) own.0 rows.0;
      ends = ap (maps_conflict (λ a b. a == b) f.ends) (sym (ends_both (Commit e ∷ []) items)) ∙ still_agrees (λ a b. a == b) f.ends (ends_of (Commit e ∷ [])) (ends_of items) own.1 ends.0;
      own_rows = still_none same_row same_value row_alike (entry_rows e) (row_facts items) (own_rows_agree e w) rest.own_rows (ap (λ es. maps_conflict same_row (finmap.from_entries es) (rows_of items)) (sym (append-nil (entry_rows e))) ∙ rows.1);
      own_ends = still_none (λ a b. a == b) eqb-true time_alike (entry_ends e) (end_facts items) (own_ends_agree e w) rest.own_ends (ap (λ es. maps_conflict (λ a b. a == b) (finmap.from_entries es) (ends_of items)) (sym (append-nil (entry_ends e))) ∙ ends.1);
    }

-- ---- the join

module _ (c : Content) (lawful : IsLawful c) where
  kept_all : {X : Type 0} (b : Bool) (o : Option X) → ((x : X) → o ≡ Some x → b ≡ true) → cond b o None ≡ o
  kept_all true o f = refl
  kept_all false None f = refl
  kept_all false (Some x) f = absurd (true≢false (sym (f x refl)))

  -- no end at most a time that all of them are above
  none_ended : (h : ℕ) (o : Option ℕ) → ((d : ℕ) → o ≡ Some d → h < d) → not (at_most h o) ≡ true
  none_ended h None f = refl
  none_ended h (Some d) f = ap not (lt-leb d h (f d refl))

  all_left : (h : ℕ) (ends : finmap.FinMap version_key_cmp ℕ) → ((v : VersionKey) (d : ℕ) → finmap.get ends v ≡ Some d → h < d) → without_ended ends h ends ≡ ends
  all_left h ends later = finmap.same_map version_key_total version_key_same _ _ (λ v. get-without_ended ends h ends v ∙ ap (λ b. cond b (finmap.get ends v) None) (none_ended h (finmap.get ends v) (later v)))

  -- with items of which each entry is above the horizon
  module _ (items : List Item) (each : All IsItem items) (later : (e : EntryValue) → In (Commit e) items → c.horizon < e.time) where
    later_row : (v : VersionKey) (r : RowValue) → finmap.get (rows_of items) v ≡ Some r → c.horizon < v.born
    later_row v r e = let f = fact_row v r items (row_found items v r e) in let b = row_born v r f.0 f.2 in let l = later f.0 f.1 in omega arith

    later_end : (v : VersionKey) (d : ℕ) → finmap.get (ends_of items) v ≡ Some d → c.horizon < d
    later_end v d e = let f = fact_end v d items (end_found items v d e) in let b = end_dead v d f.0 f.2 in let l = later f.0 f.1 in omega arith

    abbrev told : FragmentValue
    told = record { base = 0; content = record { log = c.log; horizon = 0; rows = rows_of items; ends = ends_of items; streams = streams_of (length c.streams) items } }

    no_rise : max c.horizon 0 ≡ c.horizon
    no_rise = omega arith

    own_rows : finmap.retain_keys c.rows (λ v. nat_lt (max c.horizon 0) v.born || (((c.horizon == max c.horizon 0) || nat_lt 0 0) && not (ended_by c.ends (max c.horizon 0) v))) ≡ c.rows
    own_rows = finmap.same_map version_key_total version_key_same _ _ (λ v.
        get-retain version_key_total version_key_same c.rows (λ v. nat_lt (max c.horizon 0) v.born || (((c.horizon == max c.horizon 0) || nat_lt 0 0) && not (ended_by c.ends (max c.horizon 0) v))) v
        ∙ ap (λ b. cond b (finmap.get c.rows v) None) (stays (nat_lt (max c.horizon 0) v.born) (c.horizon == max c.horizon 0) (not (ended_by c.ends (max c.horizon 0) v)) (eq-eqb c.horizon (max c.horizon 0) (sym no_rise)) (none_ended (max c.horizon 0) (finmap.get c.ends v) (λ d e. let a = lawful.end_above v d e in omega arith))))
      where
        stays : (a s k : Bool) → s ≡ true → k ≡ true → (a || ((s || nat_lt 0 0) && k)) ≡ true
        stays true s k e f = refl
        stays false true true e f = refl
        stays false true false e f = f
        stays false false k e f = absurd (true≢false (sym e))

    told_rows : finmap.retain_keys (rows_of items) (λ v. nat_lt (max c.horizon 0) v.born || ((0 == 0) && (0 == max c.horizon 0))) ≡ rows_of items
    told_rows = finmap.same_map version_key_total version_key_same _ _ (λ v.
        get-retain version_key_total version_key_same (rows_of items) (λ v. nat_lt (max c.horizon 0) v.born || ((0 == 0) && (0 == max c.horizon 0))) v
        ∙ kept_all (nat_lt (max c.horizon 0) v.born || ((0 == 0) && (0 == max c.horizon 0))) (finmap.get (rows_of items) v) (λ r e.
        let l = later_row v r e in
        let above : max c.horizon 0 < v.born = omega arith in
        ap (λ b. b || ((0 == 0) && (0 == max c.horizon 0))) (lt-ltb (max c.horizon 0) v.born above)))

    joined : content_after_join c told ≡ with_items c items
    joined = λ i. record {
      log = c.log;
      horizon = no_rise i;
      rows = union (own_rows i) (told_rows i);
      ends = union (all_left (max c.horizon 0) c.ends (λ v d e. let a = lawful.end_above v d e in omega arith) i) (all_left (max c.horizon 0) (ends_of items) (λ v d e. let a = later_end v d e in omega arith) i);
      streams = all_together c.streams (streams_of (length c.streams) items);
    }

    -- they leave a lawful content, whether they conflict or not
    pub added_lawful : IsLawful (with_items c items)
    added_lawful =
        subst IsLawful (ap (content_after_join c) (part_is (log_of_content c) items each) ∙ joined)
        (joined_lawful c (part (log_of_content c) items 0 0) lawful (cut_lawful (content_of (log_of_content c) items 0) 0 (whole_lawful (log_of_content c) items each) (inl refl)) (sym (count_streams (length c.streams) items)))

    module _ (rows : maps_conflict same_row c.rows (rows_of items) ≡ false) (ends : maps_conflict (λ a b. a == b) c.ends (ends_of items) ≡ false) where
      told_joins : join_result c told ≡ Ok (with_items c items)
      told_joins = λ i.
          cond (not (eq-eqb c.log c.log refl i)) (Err ForeignLog)
          (cond (not (eq-eqb (length (streams_of (length c.streams) items)) (length c.streams) (count_streams (length c.streams) items) i)) (Err WrongStreams)
          (cond (no_gap_at_0 (readable c) i) (Err (Gap 0 (readable c)))
          (cond (rows i || ends i) (Err Conflict) (Ok (joined i)))))

      pub added_joins : join_result c (part (log_of_content c) items 0 0) ≡ Ok (with_items c items)
      added_joins = ap (join_result c) (part_is (log_of_content c) items each) ∙ told_joins

-- ---- what is answered

module _ (c : Content) (items : List Item) (fits : first_wrong_log (log_of_content c) items ≡ None) where
  -- items that were added
  pub added_so : IsLawful c → All IsItem items → All (IsAbove c.horizon) items → conflict_in_turn (facts_of_content c) items ≡ false → (new : Content) → new ≡ with_items c items → JoinsItems c new items (Ok tt)
  added_so lawful each above none new is =
      let a = agree_in_turn items each (facts_of_content c) none in
      ap (joined_if c) (gathered_ok (log_of_content c) items fits (λ i. a.own_rows i || a.own_ends i))
      ∙ added_joins c lawful items each (λ e i. All_In (IsAbove c.horizon) items above (Commit e) i) a.rows a.ends
      ∙ ap Ok (sym is)

  -- items for which there was no memory
  pub lacked_so : (new : Content) (told : Refusal) → new ≡ c → (have_conflict items ≡ true → told ≡ Conflict) → (have_conflict items ≡ false → told ≡ Memory) → JoinsItems c new items (Err told)
  lacked_so new told same conflicting even = (same, by (have_conflict items) refl)
    where
      by : (b : Bool) → have_conflict items ≡ b → (joined_if c (gather_result (log_of_content c) items) ≡ Err told) ⊎ ((told ≡ Memory) × (is_ok (gather_result (log_of_content c) items) ≡ true))
      by true e = inl (ap (joined_if c) (gathered_err (log_of_content c) items fits e) ∙ ap Err (sym (conflicting e)))
      by false e = inr (even e, ap is_ok (gathered_ok (log_of_content c) items fits e))
