-- An absorbed item of a log joins the item set.
use Rattle.std.proofs.Common.{◌≡◌, refl, sym, ap, ◌∙◌, subst, ℕ, ◌-◌, Bool, true, false, cond, not, Option, Some, None, List, [], ◌∷◌, ◌++◌, length, ◌⊎◌, inl, inr, ◌==◌, ◌||◌, ◌<◌, ◌≤◌, arith, Ok, Err, Result, nat_le, eq-eqb, true≢false}
use Rattle.std.proofs.lemmas.Bool.{lt-leb}
use Rattle.std.proofs.lemmas.List.FromFn.{get_or-map-range_with_len, length-map-range_with_len}
use Rattle.std.specs.FinMap as finmap
use Rattle.std.specs.FinSet as set
use Rattle.hk_model.proofs.Replica.Maps.{version_key_total, version_key_same, get-union, no_entry_conflict}
use Rattle.hk_model.proofs.Replica.Members.{In, In-left, In-right, In-append}
use Rattle.hk_model.proofs.Replica.Points.{rows_add, ends_add}
use Rattle.hk_model.proofs.Replica.Sets.{all_together-streams_of}
use Rattle.hk_model.proofs.History.Logs.{IsOneLog, IsPart, fact_row, fact_end, row_born, end_dead, row_found, end_found, facts_agree, ends_agree, end_time}
use Rattle.hk_model.proofs.History.Complete.{least_within, taken_number, closed_entry}
use Rattle.hk_model.proofs.Replica.Joins.{rows_of-append, ends_of-append, content_of_row, content_of_end, alike_differ, same_row_if}
use Rattle.hk_model.proofs.Replica.Same.{SameItems, number_taken, same_content_of}
use Rattle.hk_model.specs.Replica.Maps.{or_else}
use Rattle.hk_types.specs.Values.{RowValue, ConfigValue}
use Rattle.hk_types.specs.declared.version_key.VersionKey.{VersionKey}
use Rattle.hk_types.specs.Values.{same_row}
use Rattle.hk_log.specs.Items.{EntryValue, MarkValue}
use Rattle.hk_log.specs.declared.item.Item.{Item}
use Rattle.hk_log.specs.declared.item.Item.TheVariants.{Commit, Closed}
use Rattle.hk_model.specs.History.Facts.{rows_of, ends_of}
use Rattle.hk_model.specs.Replica.Streams.{StreamContent, stream_of, streams_of, stream_at, all_together, unknown}
use Rattle.hk_model.specs.Replica.Content.{Content, readable, at_most}
use Rattle.hk_model.specs.Replica.ContentOf.{content_of}
use Rattle.hk_model.specs.declared.took.Took.{Took}
use Rattle.hk_model.specs.Replica.Rules.{with_items, entry_conflicts, absorb_result, take_result, take_result_unless, took}
use Rattle.hk_types.specs.declared.faults.Refusal.{Refusal}
use Rattle.hk_types.specs.declared.faults.Refusal.TheVariants.{Conflict}
use Rattle.hk_model.specs.Replica.Items.{wrong_log}
use Rattle.hk_model.specs.declared.took.Took.TheVariants.{Taken, Repeated}

pub stream_at-streams_of : (n : ℕ) (items : List Item) (s : ℕ) → 0 < s → s ≤ n → stream_at (streams_of n items) s ≡ stream_of items s
stream_at-streams_of n items s above within = get_or-map-range_with_len (stream_of items) 1 n (s - 1) s unknown (omega arith) (omega arith)

kept_Some : {X : Type 0} (b : Bool) (x : Option X) (s : X) → cond b x None ≡ Some s → x ≡ Some s
kept_Some true x s e = e
kept_Some false x s e = cc

module _ (config : ConfigValue) (IsEntry : EntryValue → Type 0) (log : IsOneLog config IsEntry) (p q : List Item) (pp : IsPart IsEntry p) (pq : IsPart IsEntry q) (h : ℕ) (late : (e : EntryValue) → In (Commit e) q → h < e.time) where
  late_row : (v : VersionKey) (r : RowValue) → finmap.get (rows_of q) v ≡ Some r → h < v.born
  late_row v r e = let f = fact_row v r q (row_found q v r e) in let b = row_born v r f.0 f.2 in let l = late f.0 f.1 in omega arith

  late_end : (v : VersionKey) (d : ℕ) → finmap.get (ends_of q) v ≡ Some d → h < d
  late_end v d e = let f = fact_end v d q (end_found q v d e) in let b = end_dead v d f.0 f.2 in let l = late f.0 f.1 in omega arith

  -- facts above the horizon are added by a plain union
  pub with_items_content_of : with_items (content_of config p h) q ≡ content_of config (p ++ q) h
  with_items_content_of =
      let rows : (with_items (content_of config p h) q).rows ≡ (content_of config (p ++ q) h).rows = finmap.same_map version_key_total version_key_same _ _ (λ v.
      get-union version_key_total version_key_same (content_of config p h).rows (rows_of q) v
      ∙ ap (λ x. or_else x (finmap.get (rows_of q) v)) (content_of_row config p h v)
      ∙ rows_add v.born h (finmap.get (rows_of p) v) (finmap.get (rows_of q) v) (finmap.get (ends_of p) v) (finmap.get (ends_of q) v) (late_row v) (late_end v) (end_time config IsEntry log p pp v)
      ∙ sym (content_of_row config (p ++ q) h v ∙ (λ i. cond (not (at_most h (ends_of-append p q v i))) (rows_of-append p q v i) None))) in
      let ends : (with_items (content_of config p h) q).ends ≡ (content_of config (p ++ q) h).ends = finmap.same_map version_key_total version_key_same _ _ (λ v.
      get-union version_key_total version_key_same (content_of config p h).ends (ends_of q) v
      ∙ ap (λ x. or_else x (finmap.get (ends_of q) v)) (content_of_end config p h v)
      ∙ ends_add h (finmap.get (ends_of p) v) (finmap.get (ends_of q) v) (late_end v) (λ c d e f. ends_agree config IsEntry log p q pp pq v c d (end_found p v c e) (end_found q v d f))
      ∙ sym (content_of_end config (p ++ q) h v ∙ (λ i. cond (not (at_most h (ends_of-append p q v i))) (ends_of-append p q v i) None))) in
      let streams : all_together (streams_of config.streams p) (streams_of (length (streams_of config.streams p)) q) ≡ streams_of config.streams (p ++ q) =
      ap (λ m. all_together (streams_of config.streams p) (streams_of m q)) (length-map-range_with_len (stream_of p) 1 config.streams) ∙ all_together-streams_of config.streams p q in
      λ i. record { log = config.log; horizon = h; rows = rows i; ends = ends i; streams = streams i }

one_more : (p : List Item) (i : Item) → SameItems (p ++ i ∷ []) (i ∷ p)
one_more p i j = (
  λ h. elim (In-append j p (i ∷ []) h) [ inl l ↦ inr l | inr r ↦ elim r [ inl e ↦ inl e | inr z ↦ elim z [ ] ] ],
  λ h. elim h [ inl e ↦ In-right j p (i ∷ []) (inl e) | inr l ↦ In-left j p (i ∷ []) l ],
)

one_again : (p : List Item) (i : Item) → In i p → SameItems p (i ∷ p)
one_again p i h j = (λ k. inr k, λ k. elim k [ inl e ↦ subst (λ (z : Item). In z p) (sym e) h | inr l ↦ l ])

pub more_part : (IsEntry : EntryValue → Type 0) (p : List Item) → IsPart IsEntry p → (i : Item) → IsPart IsEntry (i ∷ []) → IsPart IsEntry (p ++ i ∷ []) × IsPart IsEntry (i ∷ p)
more_part IsEntry p pp i pi = (
  record {
    entry = λ e h. elim (In-append (Commit e) p (i ∷ []) h) [ inl l ↦ pp.entry e l | inr r ↦ pi.entry e r ];
    mark = λ m e h. elim (In-append (Closed m) p (i ∷ []) h) [ inl l ↦ pp.mark m e l | inr r ↦ pi.mark m e r ];
  },
  record {
    entry = λ e h. elim h [ inl l ↦ pi.entry e (inl l) | inr r ↦ pp.entry e r ];
    mark = λ m e h. elim h [ inl l ↦ pi.mark m e (inl l) | inr r ↦ pp.mark m e r ];
  },
)

module _ (config : ConfigValue) (IsEntry : EntryValue → Type 0) (log : IsOneLog config IsEntry) (p : List Item) (pp : IsPart IsEntry p) (h : ℕ) (within : h ≤ readable (content_of config p h)) where
  absorb_entry : (e : EntryValue) → IsPart IsEntry (Commit e ∷ []) → absorb_result (content_of config p h) (Commit e) ≡ Ok (took (content_of config p h) (Commit e), content_of config (Commit e ∷ p) h)
  absorb_entry e pi =
      let is = pi.entry e (inl refl) in
      let above = log.stream_above e is in
      let inside = log.stream_within e is in
      let at = stream_at-streams_of config.streams p e.stream above inside in
      elim (set.contains (stream_at (streams_of config.streams p) e.stream).taken e.number) as (λ b. set.contains (stream_at (streams_of config.streams p) e.stream).taken e.number ≡ b →
      ◌≡◌ {A = Result (Took × Content) Refusal}
      (cond b (Ok (Repeated, content_of config p h)) (cond (entry_conflicts (content_of config p h) e) (Err Conflict) (Ok (Taken, with_items (content_of config p h) (Commit e ∷ [])))))
      (Ok (cond b Repeated Taken, content_of config (Commit e ∷ p) h))) [
        | true ↦ λ t.
            let f = taken_number p e.stream e.number (sym (ap (λ (s : StreamContent). set.contains s.taken e.number) at) ∙ t) in
            let same : f.0 ≡ e = log.one_entry f.0 e (pp.entry f.0 f.1) is f.2 (sym f.3) in
            let there : In (Commit e) p = subst (λ (g : EntryValue). In (Commit g) p) same f.1 in
            ap (λ c. Ok (Repeated, c)) (same_content_of config IsEntry log p (Commit e ∷ p) pp (more_part IsEntry p pp (Commit e) pi).1 (one_again p (Commit e) there) h)
        | false ↦ λ t.
            let new : (stream_of p e.stream).closed < e.time = elim (later_or (stream_of p e.stream).closed e.time) [
              | inl l ↦ l
              | inr l ↦ absurd (true≢false (sym (number_taken p e e.stream e.number (closed_entry config IsEntry log p pp e is l) refl refl) ∙ sym (ap (λ (s : StreamContent). set.contains s.taken e.number) at) ∙ t))
            ] in
            let least = least_within (stream_of p) 1 config.streams e.stream (omega arith) (omega arith) in
            let after : h < e.time = omega arith in
            let late : (f : EntryValue) → In (Commit f) (Commit e ∷ []) → h < f.time = λ f i. elim i [ inl s ↦ let k : f ≡ e = cc in subst (λ (g : EntryValue). h < g.time) (sym k) after | inr z ↦ elim z [ ] ] in
            let c : entry_conflicts (content_of config p h) e ≡ false = no_conflicts e pi (ap (nat_le e.time) (ap (λ (s : StreamContent). s.closed) at) ∙ lt-leb e.time (stream_of p e.stream).closed new) in
            ap (λ b. cond b (Err Conflict) (Ok (Taken, with_items (content_of config p h) (Commit e ∷ [])))) c
            ∙ ap (λ c. Ok (Taken, c)) (with_items_content_of config IsEntry log p (Commit e ∷ []) pp pi h late
            ∙ same_content_of config IsEntry log (p ++ Commit e ∷ []) (Commit e ∷ p) (more_part IsEntry p pp (Commit e) pi).0 (more_part IsEntry p pp (Commit e) pi).1 (one_more p (Commit e)) h)
      ] refl
    where
      later_or : (a b : ℕ) → (a < b) ⊎ (b ≤ a)
      later_or a b = grind arith

      no_conflicts : (e : EntryValue) → IsPart IsEntry (Commit e ∷ []) → nat_le e.time (stream_at (streams_of config.streams p) e.stream).closed ≡ false → entry_conflicts (content_of config p h) e ≡ false
      no_conflicts e pi later =
          λ i. no_entry_conflict version_key_total version_key_same same_row (content_of config p h).rows (rows_of (Commit e ∷ [])) (λ v.
          alike_differ same_row (finmap.get (content_of config p h).rows v) (finmap.get (rows_of (Commit e ∷ [])) v) (λ a b x y.
          same_row_if a b (facts_agree config IsEntry log p (Commit e ∷ []) pp pi v a b (row_found p v a (kept_Some _ (finmap.get (rows_of p) v) a (sym (content_of_row config p h v) ∙ x))) (row_found (Commit e ∷ []) v b y)))) i
          || no_entry_conflict version_key_total version_key_same (λ c d. c == d) (content_of config p h).ends (ends_of (Commit e ∷ [])) (λ v.
          alike_differ (λ c d. c == d) (finmap.get (content_of config p h).ends v) (finmap.get (ends_of (Commit e ∷ [])) v) (λ a b x y.
          eq-eqb a b (ends_agree config IsEntry log p (Commit e ∷ []) pp pi v a b (end_found p v a (kept_Some _ (finmap.get (ends_of p) v) a (sym (content_of_end config p h v) ∙ x))) (end_found (Commit e ∷ []) v b y)))) i
          || later i

  absorb_mark : (m : MarkValue) → IsPart IsEntry (Closed m ∷ []) → absorb_result (content_of config p h) (Closed m) ≡ Ok (took (content_of config p h) (Closed m), content_of config (Closed m ∷ p) h)
  absorb_mark m pi =
      ap (λ c. Ok (took (content_of config p h) (Closed m), c)) (with_items_content_of config IsEntry log p (Closed m ∷ []) pp pi h (λ e i. elim i [ inl s ↦ cc | inr z ↦ elim z [ ] ])
      ∙ same_content_of config IsEntry log (p ++ Closed m ∷ []) (Closed m ∷ p) (more_part IsEntry p pp (Closed m) pi).0 (more_part IsEntry p pp (Closed m) pi).1 (one_more p (Closed m)) h)

  absorb_own : (i : Item) → IsPart IsEntry (i ∷ []) → absorb_result (content_of config p h) i ≡ Ok (took (content_of config p h) i, content_of config (i ∷ p) h)
  absorb_own (Commit e) pi = absorb_entry e pi
  absorb_own (Closed m) pi = absorb_mark m pi

  pub absorb_item : (i : Item) → wrong_log config.log config.streams i ≡ None → IsPart IsEntry (i ∷ []) → take_result (content_of config p h) i ≡ Ok (took (content_of config p h) i, content_of config (i ∷ p) h)
  absorb_item i fits pi =
      ap (take_result_unless (content_of config p h) i) (ap (λ k. wrong_log config.log k i) (length-map-range_with_len (stream_of p) 1 config.streams) ∙ fits) ∙ absorb_own i pi
