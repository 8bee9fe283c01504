-- What a primary's parts tell of its history.
use Rattle.std.proofs.Common.{◌≡◌, refl, sym, ap, ◌∙◌, subst, ℕ, ◌+◌, ◌-◌, ◌<◌, ◌≤◌, ◌^◌, ◌==◌, ◌||◌, ◌⊎◌, arith, Bool, true, false, cond, true≢false, eq-eqb, eqb-true, Option, Some, None, List, [], ◌∷◌, ◌++◌, map, length, get_or, set as set_at, get_or-set_other}
use Rattle.std.proofs.lemmas.List.FromFn.{length-map-range_with_len, get_or-map-range_with_len}
use Rattle.std.proofs.lemmas.Grind.{same_number_lists, get_or-set_at}
use Rattle.std.proofs.lemmas.List.{length-set, append-nil, same_lists, get_or-set_same}
use Rattle.std.specs.List.{range_with_len}
use Rattle.std.specs.FinMap as finmap
use Rattle.hk_types.specs.Values.{ConfigValue}
use Rattle.hk_log.specs.Items.{EntryValue, MarkValue}
use Rattle.hk_log.specs.declared.item.Item.{Item}
use Rattle.hk_log.specs.declared.item.Item.TheVariants.{Commit, Closed}
use Rattle.hk_model.specs.History.Rows.{RowKey}
use Rattle.hk_model.specs.History.Histories.Act.{Commits, Retires}
use Rattle.hk_model.specs.History.Histories.{Transaction, History, commits, is_retired, history_with_mark, last, entries_in, entries_of, IsHistory}
use Rattle.hk_model.specs.History.Commits.{last_written}
use Rattle.hk_model.specs.World.Worlds.{mark_upto}
use Rattle.hk_model.proofs.History.Formed.{few_entries, last_in_time}
use Rattle.hk_model.proofs.History.Histories.{are_commits}
use Rattle.hk_model.proofs.History.Logs.{IsPart}
use Rattle.hk_model.proofs.Replica.Members.{In}
use Rattle.hk_model.proofs.Replica.Steps.{mark_true}
use Rattle.hk_model.proofs.History.Honest.{count_step, items_part}
use Rattle.hk_model.proofs.Replica.Joins.{rows_of-append, ends_of-append}
use Rattle.hk_model.proofs.Replica.Maps.{version_key_total, version_key_same, get-union}
use Rattle.hk_model.proofs.Replica.Sets.{row_facts-append, end_facts-append}
use Rattle.hk_model.specs.History.Facts.{row_facts, end_facts, rows_of, ends_of}
use Rattle.hk_model.specs.Replica.Maps.{or_else}
use Rattle.hk_store.specs.Facts.{FactsValue, with_entry}
use Rattle.hk_primary.specs.Log.{IsNext, IsNextMark, IsPrimary, history_of, transaction_of}
use Rattle.hk_primary.specs.Looks.{IsLatest, put_time_of_row}
use Rattle.hk_primary.proofs.HistoryOfLog.{history_is, items_are, log_has, logged-push, marked_commits, read_on-push}
use Rattle.hk_primary.proofs.LatestVersions.{written_by, put_by, written_is, put_is}

omega_sum : (n m : ℕ) → n ≡ m → n + 1 ≡ 1 + m
omega_sum n m e = omega arith

zero_sum : (n : ℕ) → n ≡ 0 + n
zero_sum n = omega arith

module _ (config : ConfigValue) (newest : ℕ) (items : List Item) (facts : FactsValue) (counts : List ℕ) (retired : List Bool) (p : IsPrimary config newest items facts counts retired) where
  abbrev history : History
  history = history_of items

  pub is_history : IsHistory config history
  is_history = history_is config items p.logged

  pub last_bound : last (commits history) ≤ 2 ^ 62
  last_bound = last_in_time config (commits history) (are_commits config history is_history)

  part : IsPart (λ e. In e (entries_of config (commits history))) items
  part = items_part config history is_history items (items_are config items p.logged)

  pub last_written_is : (k : RowKey) (o : Option (ℕ × Option ℕ)) → IsLatest facts newest k o → written_by o ≡ last_written (commits history) k
  last_written_is k o latest =
      written_is config (commits history) (are_commits config history is_history) items part (λ e i. log_has config items e p.logged i) facts p.rows_are p.ends_are k o (subst (λ n. IsLatest facts n k o) p.newest_is latest)

  pub standing_is : (k : RowKey) (o : Option (ℕ × Option ℕ)) → IsLatest facts newest k o → put_by o ≡ put_time_of_row (commits history) k
  standing_is k o latest =
      put_is config (commits history) (are_commits config history is_history) items part (λ e i. log_has config items e p.logged i) facts p.rows_are p.ends_are k o (subst (λ n. IsLatest facts n k o) p.newest_is latest)

  -- ---- counts

  pub counts_length : length counts ≡ config.streams
  counts_length = ap length p.counts_are ∙ length-map-range_with_len (entries_in (commits history)) 1 config.streams

  pub count_is : (s d : ℕ) → 1 ≤ s → s ≤ config.streams → get_or counts (s - 1) d ≡ entries_in (commits history) s
  count_is s d least most = ap (λ cs. get_or cs (s - 1) d) p.counts_are ∙ get_or-map-range_with_len (entries_in (commits history)) 1 config.streams (s - 1) s d (omega arith) (omega arith)

  pub count_few : (s : ℕ) → entries_in (commits history) s ≤ last (commits history)
  count_few s = few_entries config (commits history) (are_commits config history is_history) s

  -- ---- marks

  pub next_mark : (s u : ℕ) → 1 ≤ s → s ≤ config.streams → is_retired history s ≡ false → last (commits history) ≤ u → (u ≤ last (commits history)) ⊎ (u ≡ 2 ^ 62) → IsNextMark config history (mark_upto config history s u)
  next_mark s u least most still late may = record { not_retired = still; truthful = mark_true config history is_history s u (omega arith) most late may (u == 2 ^ 62) refl }

  -- ---- retired streams

  pub retired_length : length retired ≡ config.streams
  retired_length = ap length p.retired_are ∙ length-map-range_with_len (is_retired history) 1 config.streams

  pub retired_is : (s : ℕ) (d : Bool) → 1 ≤ s → s ≤ config.streams → get_or retired (s - 1) d ≡ is_retired history s
  retired_is s d least most = ap (λ rs. get_or rs (s - 1) d) p.retired_are ∙ get_or-map-range_with_len (is_retired history) 1 config.streams (s - 1) s d (omega arith) (omega arith)

  retired_more : (m : MarkValue) → IsNextMark config history m → set_at retired (m.stream - 1) (m.upto == 2 ^ 62) ≡ map (is_retired (history_with_mark history m)) (range_with_len 1 config.streams)
  retired_more m next =
      same_lists (set_at retired (m.stream - 1) (m.upto == 2 ^ 62)) (map (is_retired (history_with_mark history m)) (range_with_len 1 config.streams))
      (length-set retired (m.stream - 1) (m.upto == 2 ^ 62) ∙ retired_length ∙ sym (length-map-range_with_len (is_retired (history_with_mark history m)) 1 config.streams))
      (λ k d l.
      let many = retired_length in
      let long = length-set retired (m.stream - 1) (m.upto == 2 ^ 62) in
      let within : k < config.streams = omega arith in
      by k d within (m.stream == k + 1) refl ∙ sym (get_or-map-range_with_len (is_retired (history_with_mark history m)) 1 config.streams k (k + 1) d within (omega arith)))
    where
      here : (full : Bool) → full ≡ is_retired (cond full (Retires m.stream ∷ history) history) m.stream
      here true = sym (ap (λ b. b || is_retired history m.stream) (eq-eqb m.stream m.stream refl))
      here false = sym next.not_retired

      there : (full : Bool) (s : ℕ) → (m.stream == s) ≡ false → is_retired history s ≡ is_retired (cond full (Retires m.stream ∷ history) history) s
      there true s e = sym (ap (λ b. b || is_retired history s) e)
      there false s e = refl

      by : (k : ℕ) (d : Bool) → k < config.streams → (b : Bool) → (m.stream == k + 1) ≡ b → get_or (set_at retired (m.stream - 1) (m.upto == 2 ^ 62)) k d ≡ is_retired (history_with_mark history m) (k + 1)
      by k d within true e =
          let same = eqb-true m.stream (k + 1) e in
          let many = retired_length in
          let place : k ≡ m.stream - 1 = omega arith in
          ap (λ j. get_or (set_at retired (m.stream - 1) (m.upto == 2 ^ 62)) j d) place ∙ get_or-set_same retired (m.stream - 1) (m.upto == 2 ^ 62) d (omega arith)
          ∙ here (m.upto == 2 ^ 62) ∙ ap (is_retired (history_with_mark history m)) same
      by k d within false e =
          let other : k ≡ m.stream - 1 → ⊥ = λ q. let above = next.truthful.stream_above in let s : m.stream ≡ k + 1 = omega arith in true≢false (sym (eq-eqb m.stream (k + 1) s) ∙ e) in
          get_or-set_other retired (m.stream - 1) k (m.upto == 2 ^ 62) d other
          ∙ ap (λ rs. get_or rs k d) p.retired_are ∙ get_or-map-range_with_len (is_retired history) 1 config.streams k (k + 1) d within (omega arith)
          ∙ there (m.upto == 2 ^ 62) (k + 1) e

  pub with_mark : (m : MarkValue) → IsNextMark config history m → IsPrimary config newest (items ++ Closed m ∷ []) facts counts (set_at retired (m.stream - 1) (m.upto == 2 ^ 62))
  with_mark m next =
      let same : history_of (items ++ Closed m ∷ []) ≡ history_with_mark history m = read_on-push [] items (Closed m) in
      let same_commits : commits (history_of (items ++ Closed m ∷ [])) ≡ commits history = ap commits same ∙ marked_commits history m in
      record {
        few_streams = p.few_streams;
        logged = logged-push config [] items (Closed m) p.logged (next, tt);
        newest_is = p.newest_is ∙ ap last (sym same_commits);
        rows_are = p.rows_are ∙ ap (λ es. finmap.from_entries es) (sym (row_facts-append items (Closed m ∷ []) ∙ append-nil (row_facts items)));
        ends_are = p.ends_are ∙ ap (λ es. finmap.from_entries es) (sym (end_facts-append items (Closed m ∷ []) ∙ append-nil (end_facts items)));
        counts_are = p.counts_are ∙ ap (λ h. map (entries_in h) (range_with_len 1 config.streams)) (sym same_commits);
        retired_are = retired_more m next ∙ ap (λ h. map (is_retired h) (range_with_len 1 config.streams)) (sym same);
      }

  -- ---- entries

  counted : (t : Transaction) (s : ℕ) → entries_in (t ∷ commits history) s ≡ cond (t.stream == s) 1 0 + entries_in (commits history) s
  counted t s = count_step t (commits history) s

  counts_more : (t : Transaction) (n : ℕ) → 1 ≤ t.stream → t.stream ≤ config.streams → n ≡ get_or counts (t.stream - 1) n → set_at counts (t.stream - 1) (n + 1) ≡ map (entries_in (t ∷ commits history)) (range_with_len 1 config.streams)
  counts_more t n least most is =
      same_number_lists (set_at counts (t.stream - 1) (n + 1)) (map (entries_in (t ∷ commits history)) (range_with_len 1 config.streams))
      (length-set counts (t.stream - 1) (n + 1) ∙ counts_length ∙ sym (length-map-range_with_len (entries_in (t ∷ commits history)) 1 config.streams))
      (λ k l.
      let many = counts_length in
      let long = length-set counts (t.stream - 1) (n + 1) in
      let within : k < config.streams = omega arith in
      let after : get_or (map (entries_in (t ∷ commits history)) (range_with_len 1 config.streams)) k 0 ≡ entries_in (t ∷ commits history) (k + 1) = get_or-map-range_with_len (entries_in (t ∷ commits history)) 1 config.streams k (k + 1) 0 within (omega arith) in
      let step = counted t (k + 1) in
      by k within (t.stream == k + 1) refl ∙ sym (after ∙ step))
    where
      by : (k : ℕ) → k < config.streams → (b : Bool) → (t.stream == k + 1) ≡ b → get_or (set_at counts (t.stream - 1) (n + 1)) k 0 ≡ cond (t.stream == k + 1) 1 0 + entries_in (commits history) (k + 1)
      by k within true e =
          let same = eqb-true t.stream (k + 1) e in
          let many = counts_length in
          let here = get_or-set_at counts (t.stream - 1) k (n + 1) 0 (omega arith) (omega arith) in
          let old : get_or counts (t.stream - 1) n ≡ entries_in (commits history) t.stream = count_is t.stream n least most in
          let key : entries_in (commits history) t.stream ≡ entries_in (commits history) (k + 1) = ap (entries_in (commits history)) same in
          here ∙ omega_sum n (entries_in (commits history) (k + 1)) (is ∙ old ∙ key) ∙ ap (λ b. cond b 1 0 + entries_in (commits history) (k + 1)) (sym e)
      by k within false e =
          let other : k ≡ t.stream - 1 → ⊥ = λ q. let s : t.stream ≡ k + 1 = omega arith in true≢false (sym (eq-eqb t.stream (k + 1) s) ∙ e) in
          get_or-set_other counts (t.stream - 1) k (n + 1) 0 other
          ∙ ap (λ cs. get_or cs k 0) p.counts_are ∙ get_or-map-range_with_len (entries_in (commits history)) 1 config.streams k (k + 1) 0 within (omega arith)
          ∙ zero_sum (entries_in (commits history) (k + 1)) ∙ ap (λ b. cond b 1 0 + entries_in (commits history) (k + 1)) (sym e)

  pub with_next : (e : EntryValue) (n : ℕ) → IsNext config history e → n ≡ get_or counts (e.stream - 1) n → IsPrimary config e.time (items ++ Commit e ∷ []) (with_entry facts e) (set_at counts (e.stream - 1) (n + 1)) retired
  with_next e n next is =
      let more : history_of (items ++ Commit e ∷ []) ≡ Commits (transaction_of e) ∷ history = read_on-push [] items (Commit e) in
      record {
        few_streams = p.few_streams;
        logged = logged-push config [] items (Commit e) p.logged (next, tt);
        newest_is = ap (λ h. last (commits h)) (sym more);
        rows_are = finmap.same_map version_key_total version_key_same _ _ (λ v. get-union version_key_total version_key_same facts.rows (rows_of (Commit e ∷ [])) v ∙ ap (λ m. or_else (finmap.get m v) (finmap.get (rows_of (Commit e ∷ [])) v)) p.rows_are ∙ sym (rows_of-append items (Commit e ∷ []) v));
        ends_are = finmap.same_map version_key_total version_key_same _ _ (λ v. get-union version_key_total version_key_same facts.ends (ends_of (Commit e ∷ [])) v ∙ ap (λ m. or_else (finmap.get m v) (finmap.get (ends_of (Commit e ∷ [])) v)) p.ends_are ∙ sym (ends_of-append items (Commit e ∷ []) v));
        counts_are = counts_more (transaction_of e) n next.may_commit.follows.stream_above next.may_commit.follows.stream_within is ∙ ap (λ h. map (entries_in (commits h)) (range_with_len 1 config.streams)) (sym more);
        retired_are = p.retired_are ∙ ap (λ h. map (is_retired h) (range_with_len 1 config.streams)) (sym more);
      }
