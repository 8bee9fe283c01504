-- Items absorbed one after the other: what is learnt of them, and what a join of their fragment leaves.
use Rattle.std.proofs.Common.{◌≡◌, refl, sym, ap, ◌∙◌, subst, ℕ, ◌-◌, Bool, true, false, cond, ◌&&◌, ◌||◌, ◌==◌, Some, None, List, [], ◌∷◌, ◌++◌, length, get_or, zero, suc, ◌<◌, ◌≤◌, max, arith, nat_le, Result, Ok, Err, ◌⊎◌, inl, inr, true≢false, leb-false, leb-true, le-leb}
use Rattle.std.proofs.lemmas.Bool.{le-ltb, and_parts, or_parts, eqb-true}
use Rattle.std.specs.List.{list_any}
use Rattle.std.proofs.lemmas.List.{append-nil, append_assoc}
use Rattle.std.proofs.lemmas.List.Elements.{All-nil, All-cons, All-append}
use Rattle.std.specs.FinMap as finmap
use Rattle.hk_types.specs.Values.{RowValue, same_row}
use Rattle.hk_types.specs.declared.faults.Refusal.{Refusal}
use Rattle.hk_types.specs.declared.faults.Refusal.TheVariants.{Conflict, AheadOfMark, Memory}
use Rattle.hk_types.specs.declared.version_key.VersionKey.{VersionKey}
use Rattle.hk_log.specs.Items.{EntryValue}
use Rattle.hk_log.specs.declared.item.Item.{Item}
use Rattle.hk_log.specs.declared.item.Item.TheVariants.{Commit, Closed}
use Rattle.hk_model.specs.declared.took.Took.{Took}
use Rattle.hk_model.specs.declared.took.Took.TheVariants.{Taken, Repeated}
use Rattle.hk_model.specs.History.Facts.{rows_of, ends_of}
use Rattle.hk_model.specs.Replica.Content.{Content, readable, least_closed, at_most, without_ended}
use Rattle.hk_model.specs.Replica.Fragments.{FragmentValue, part}
use Rattle.hk_model.specs.Replica.Items.{wrong_log}
use Rattle.hk_model.specs.Replica.Lawful.{IsItem, IsLawful}
use Rattle.hk_model.specs.Replica.Maps.{union, maps_conflict}
use Rattle.hk_model.specs.Replica.Replicas.{content_after_take}
use Rattle.hk_model.specs.Replica.Rules.{prune_result, took, take_result, take_result_unless, absorb_result, entry_conflicts, with_items, join_result}
use Rattle.hk_model.specs.Replica.Touches.{row_is_late, end_is_late, join_touches_past}
use Rattle.hk_model.specs.Replica.Streams.{StreamContent, stream_at, streams_of, all_together, unknown}
use Rattle.hk_model.proofs.Replica.Changes.{no_more_facts, same_if_outcome}
use Rattle.hk_model.proofs.Replica.Chains.{key_row}
use Rattle.hk_model.proofs.Replica.Lawful.{closer, taken_keeps, fits_within}
use Rattle.hk_model.proofs.Replica.Past.{past_itself}
use Rattle.hk_model.proofs.Replica.Touches.{prune_untouched}
use Rattle.hk_model.proofs.Replica.Visible.{any_where, not_from}
use Rattle.hk_merge.proofs.LateFacts.{none_stray}
use Rattle.hk_model.proofs.History.Logs.{fact_row, fact_end, row_born, end_dead, row_found, end_found}
use Rattle.hk_model.proofs.Replica.Members.{In}
use Rattle.hk_model.proofs.Replica.Sets.{all_together-streams_of}
use Rattle.hk_model.proofs.Replica.Streams.{as_many_together, no_gap_at_0}
use Rattle.hk_model.proofs.History.Writes.{All_In}
use Rattle.hk_store.proofs.SameRows.{same_value}
use Rattle.hk_delta.specs.declared.agreeing.News.{News}
use Rattle.hk_delta.specs.Agreeing.{content_taken, then_take, take_all, absorb_all, if_taken, taken_items, tells_nothing, contradicts, learnt, Learns, IsAbove, DoAgree, IsLearnt}
use Rattle.hk_state.proofs.MapsInConflict.{union_assoc, still_agrees, union_conflicts, rows_both, ends_both}
use Rattle.hk_state.specs.Items.{log_of_content}
use Rattle.hk_delta.proofs.AddedItems.{added_joins, no_conflict_with_none}
use Rattle.hk_delta.proofs.StreamsInTurn.{streams_after, streams_none}
use Rattle.hk_delta.proofs.UnionOfLists.{part_is}
use Rattle.hk_state.proofs.WrongLogs.{count_streams}

-- ---- one after the other

pub take_all-append : (r : Result Content Refusal) (xs ys : List Item) → take_all r (xs ++ ys) ≡ take_all (take_all r xs) ys
take_all-append r [] ys = refl
take_all-append r (x ∷ xs) ys = take_all-append (then_take r x) xs ys

pub stays_refused : (why : Refusal) (xs : List Item) → take_all (Err why) xs ≡ Err why
stays_refused why [] = refl
stays_refused why (x ∷ xs) = stays_refused why xs

refusal_is_none : (why : Refusal) (d : Content) → ◌≡◌ {A = Result Content Refusal} (Err why) (Ok d) → ⊥
refusal_is_none why d e = cc

same_content : (c d : Content) → ◌≡◌ {A = Result Content Refusal} (Ok c) (Ok d) → c ≡ d
same_content c d e = cc

-- the items taken of a list with one item more
pub taken_more : (xs : List Item) (c d : Content) (x : Item) → absorb_all c xs ≡ Ok d → taken_items c (xs ++ x ∷ []) ≡ taken_items c xs ++ if_taken (took d x) x
taken_more [] c d x e = append-nil (if_taken (took c x) x) ∙ ap (λ (k : Content). if_taken (took k x) x) (same_content c d e)
taken_more (y ∷ ys) c d x e = by (take_result c y) refl (λ h. taken_more ys (content_after_take c (take_result c y)) d x h)
  where
    by : (r : Result (Took × Content) Refusal) → take_result c y ≡ r → (absorb_all (content_after_take c (take_result c y)) ys ≡ Ok d → taken_items (content_after_take c (take_result c y)) (ys ++ x ∷ []) ≡ taken_items (content_after_take c (take_result c y)) ys ++ if_taken (took d x) x)
        → taken_items c (y ∷ ys ++ x ∷ []) ≡ taken_items c (y ∷ ys) ++ if_taken (took d x) x
    by (Ok told) is more =
        let rest = more (ap (λ (r : Result (Took × Content) Refusal). take_all (Ok (content_after_take c r)) ys) is ∙ sym (ap (λ (r : Result (Took × Content) Refusal). take_all (content_taken r) ys) is) ∙ e) in
        ap (λ l. if_taken (took c y) y ++ l) rest
        ∙ sym (append_assoc (if_taken (took c y) y) (taken_items (content_after_take c (take_result c y)) ys) (if_taken (took d x) x))
    by (Err why) is more = absurd (refusal_is_none why d (sym (stays_refused why ys) ∙ sym (ap (λ (r : Result (Took × Content) Refusal). take_all (content_taken r) ys) is) ∙ e))

-- ---- what is learnt

pub took_is : (c : Content) (x : Item) → took c x ≡ cond (tells_nothing c.streams x) Repeated Taken
took_is c (Commit e) = refl
took_is c (Closed m) = refl

shuffled : (a b p q f : Bool) → (((a || b) || (p || q)) || f) ≡ ((a || p) || ((b || q) || f))
shuffled true b p q f = refl
shuffled false true true q f = refl
shuffled false true false q f = refl
shuffled false false true q f = refl
shuffled false false false q f = refl

-- the readable mark is no later than the closed time of a stream
least_at : (streams : List StreamContent) (i : ℕ) → i < length streams → least_closed streams ≤ (get_or streams i unknown).closed
least_at [] i l = absurd (omega arith)
least_at (s ∷ []) zero l = omega arith
least_at (s ∷ []) (suc i) l = absurd (omega arith)
least_at (s ∷ t ∷ more) zero l = omega arith
least_at (s ∷ t ∷ more) (suc i) l = let rest = least_at (t ∷ more) i (omega arith) in omega arith

module _ (c : Content) (lawful : IsLawful c) where
  abbrev after : List Item → Content
  after items = with_items c items

  pub as_many : (items : List Item) → length (after items).streams ≡ length c.streams
  as_many items = as_many_together c.streams (streams_of (length c.streams) items) (count_streams (length c.streams) items)

  -- items beside what was taken of others
  pub with_more : (p q : List Item) → with_items (after p) q ≡ after (p ++ q)
  with_more p q = λ i. record {
    log = c.log;
    horizon = c.horizon;
    rows = (union_assoc c.rows (rows_of p) (rows_of q) ∙ ap (union c.rows) (rows_both p q)) i;
    ends = (union_assoc c.ends (ends_of p) (ends_of q) ∙ ap (union c.ends) (ends_both p q)) i;
    streams = (ap (λ n. all_together (after p).streams (streams_of n q)) (as_many p) ∙ streams_after c.streams lawful.streams p q) i;
  }

  pub with_none : after [] ≡ c
  with_none = λ i. record { log = c.log; horizon = c.horizon; rows = no_more_facts c.rows i; ends = no_more_facts c.ends i; streams = streams_none c.streams lawful.streams i }

  pub none_agree : DoAgree c []
  none_agree = record {
    each = All-nil IsItem;
    late = All-nil (IsAbove (readable c));
    rows = no_conflict_with_none same_row c.rows;
    ends = no_conflict_with_none (λ a b. a == b) c.ends;
  }

  -- with items that agree, and what was learnt of them
  module _ (items : List Item) (agree : DoAgree c items) (own : IsLawful (after items)) (n : News) (facts : n.facts ≡ record { rows = rows_of items; ends = ends_of items }) (all : n.all ≡ (after items).streams) where
    conflicts_same : (e : EntryValue) → entry_conflicts (after items) e ≡ contradicts c n (Commit e)
    conflicts_same e =
        let late = λ (s : List StreamContent). nat_le e.time (stream_at s e.stream).closed in
        let rows = rows_of (Commit e ∷ []) in
        let ends = ends_of (Commit e ∷ []) in
        (λ i. union_conflicts same_row same_value c.rows (rows_of items) rows agree.rows i || union_conflicts (λ a b. a == b) eqb-true c.ends (ends_of items) ends agree.ends i || late (after items).streams)
        ∙ shuffled (maps_conflict same_row c.rows rows) (maps_conflict same_row (rows_of items) rows) (maps_conflict (λ a b. a == b) c.ends ends) (maps_conflict (λ a b. a == b) (ends_of items) ends) (late (after items).streams)
        ∙ (λ i. (maps_conflict same_row c.rows rows || maps_conflict (λ a b. a == b) c.ends ends) || ((maps_conflict same_row (sym facts i).rows rows || maps_conflict (λ a b. a == b) (sym facts i).ends ends) || late (sym all i)))

    module _ (x : Item) (fits : wrong_log c.log (length c.streams) x ≡ None) where
      fits_here : wrong_log c.log (length (after items).streams) x ≡ None
      fits_here = ap (λ k. wrong_log c.log k x) (as_many items) ∙ fits

      absorbs : take_result (after items) x ≡ absorb_result (after items) x
      absorbs = ap (take_result_unless (after items) x) fits_here

      pub repeats : IsItem x → tells_nothing n.all x ≡ true → take_result (after items) x ≡ Ok (Repeated, after items)
      repeats w told = absorbs ∙ by x w fits_here (ap (λ s. tells_nothing s x) (sym all) ∙ told)
        where
          by : (x : Item) → IsItem x → wrong_log c.log (length (after items).streams) x ≡ None → tells_nothing (after items).streams x ≡ true → absorb_result (after items) x ≡ Ok (Repeated, after items)
          by (Commit e) w f t = ap (λ b. cond b (Ok (Repeated, after items)) (cond (entry_conflicts (after items) e) (Err Conflict) (Ok (Taken, with_items (after items) (Commit e ∷ []))))) t
          by (Closed m) w f t =
              let above = w.stream_least in
              let within = fits_within c.log (length (after items).streams) (Closed m) f in
              λ i. Ok (cond (t i) Repeated Taken, same_if_outcome (after items) own m (omega arith) within t i)

      pub takes : tells_nothing n.all x ≡ false → contradicts c n x ≡ false → take_result (after items) x ≡ Ok (Taken, with_items (after items) (x ∷ []))
      takes new clear = absorbs ∙ by x (ap (λ s. tells_nothing s x) (sym all) ∙ new) clear
        where
          by : (x : Item) → tells_nothing (after items).streams x ≡ false → contradicts c n x ≡ false → absorb_result (after items) x ≡ Ok (Taken, with_items (after items) (x ∷ []))
          by (Commit e) t clear =
              (λ i. cond (t i) (Ok (Repeated, after items)) (cond (entry_conflicts (after items) e) (Err Conflict) (Ok (Taken, with_items (after items) (Commit e ∷ [])))))
              ∙ ap (λ b. cond b (Err Conflict) (Ok (Taken, with_items (after items) (Commit e ∷ [])))) (conflicts_same e ∙ clear)
          by (Closed m) t clear = ap (λ b. Ok (cond b Repeated Taken, with_items (after items) (Closed m ∷ []))) t

      pub refuses : tells_nothing n.all x ≡ false → contradicts c n x ≡ true → take_result (after items) x ≡ Err Conflict
      refuses new clear = absorbs ∙ by x (ap (λ s. tells_nothing s x) (sym all) ∙ new) clear
        where
          by : (x : Item) → tells_nothing (after items).streams x ≡ false → contradicts c n x ≡ true → absorb_result (after items) x ≡ Err Conflict
          by (Commit e) t clear =
              (λ i. cond (t i) (Ok (Repeated, after items)) (cond (entry_conflicts (after items) e) (Err Conflict) (Ok (Taken, with_items (after items) (Commit e ∷ [])))))
              ∙ ap (λ b. cond b (Err Conflict) (Ok (Taken, with_items (after items) (Commit e ∷ [])))) (conflicts_same e ∙ clear)
          by (Closed m) t clear = absurd (true≢false (sym clear))

      -- an entry that is taken is above the readable mark
      is_above : IsItem x → contradicts c n x ≡ false → IsAbove (readable c) x
      is_above w clear = by x w fits_here clear
        where
          by : (x : Item) → IsItem x → wrong_log c.log (length (after items).streams) x ≡ None → contradicts c n x ≡ false → IsAbove (readable c) x
          by (Closed m) w f clear = tt
          by (Commit e) w f clear =
              let test = (or_parts (maps_conflict same_row (after items).rows (rows_of (Commit e ∷ [])) || maps_conflict (λ a b. a == b) (after items).ends (ends_of (Commit e ∷ []))) (nat_le e.time (stream_at (after items).streams e.stream).closed) (conflicts_same e ∙ clear)).1 in
              let late = leb-false e.time (stream_at (after items).streams e.stream).closed test in
              let first = w.stream_least in
              let within = fits_within c.log (length (after items).streams) (Commit e) f in
              let least = least_at (after items).streams (e.stream - 1) (omega arith) in
              let nearer = (closer c.streams (streams_of (length c.streams) items) (sym (count_streams (length c.streams) items))).0 in
              omega arith

      -- it agrees with the content, as the others do
      pub one_agrees : IsItem x → contradicts c n x ≡ false → DoAgree c (items ++ x ∷ [])
      one_agrees w clear =
          let now = facts_agree x clear in
          record {
            each = All-append IsItem items (x ∷ []) agree.each (All-cons IsItem x [] w (All-nil IsItem));
            late = All-append (IsAbove (readable c)) items (x ∷ []) agree.late (All-cons (IsAbove (readable c)) x [] (is_above w clear) (All-nil (IsAbove (readable c))));
            rows = ap (maps_conflict same_row c.rows) (sym (rows_both items (x ∷ []))) ∙ still_agrees same_row c.rows (rows_of items) (rows_of (x ∷ [])) agree.rows now.0;
            ends = ap (maps_conflict (λ a b. a == b) c.ends) (sym (ends_both items (x ∷ []))) ∙ still_agrees (λ a b. a == b) c.ends (ends_of items) (ends_of (x ∷ [])) agree.ends now.1;
          }
        where
          facts_agree : (x : Item) → contradicts c n x ≡ false → (maps_conflict same_row c.rows (rows_of (x ∷ [])) ≡ false) × (maps_conflict (λ a b. a == b) c.ends (ends_of (x ∷ [])) ≡ false)
          facts_agree (Closed m) clear = (none_agree.rows, none_agree.ends)
          facts_agree (Commit e) clear = or_parts (maps_conflict same_row c.rows (rows_of (Commit e ∷ []))) (maps_conflict (λ a b. a == b) c.ends (ends_of (Commit e ∷ []))) (or_parts (maps_conflict same_row c.rows (rows_of (Commit e ∷ [])) || maps_conflict (λ a b. a == b) c.ends (ends_of (Commit e ∷ []))) _ clear).0

  -- ---- the loop

  pub nothing_learnt : (n : News) → n.facts ≡ record { rows = finmap.from_entries []; ends = finmap.from_entries [] } → n.got ≡ streams_of (length c.streams) [] → n.all ≡ c.streams → IsLearnt c [] n
  nothing_learnt n facts got all = record {
    absorbed = ap Ok (sym with_none);
    before = lawful;
    lawful = subst IsLawful (sym with_none) lawful;
    agree = none_agree;
    facts = facts;
    got = got;
    all = all ∙ sym (streams_none c.streams lawful.streams);
  }

  pub one_learnt : (items : List Item) (n m : News) (x : Item) → IsLearnt c items n → Learns c n m x (Ok tt) → IsLearnt c (items ++ x ∷ []) m
  one_learnt items n m x l s = elim s.2 [ inl k ↦ again k.0 k.1 | inr k ↦ new k.0 k.1 k.2 ]
    where
      own : List Item
      own = taken_items c items

      all_here : absorb_all c (items ++ x ∷ []) ≡ content_taken (take_result (after (taken_items c items)) x)
      all_here = take_all-append (Ok c) items (x ∷ []) ∙ ap (λ r. take_all r (x ∷ [])) l.absorbed

      took_here : took (after (taken_items c items)) x ≡ cond (tells_nothing n.all x) Repeated Taken
      took_here = took_is (after (taken_items c items)) x ∙ ap (λ s. cond (tells_nothing s x) Repeated Taken) (sym l.all)

      again : tells_nothing n.all x ≡ true → m ≡ n → IsLearnt c (items ++ x ∷ []) m
      again told same =
          let kept : taken_items c (items ++ x ∷ []) ≡ taken_items c items = taken_more items c (after (taken_items c items)) x l.absorbed ∙ ap (λ t. taken_items c items ++ if_taken t x) (took_here ∙ ap (λ b. cond b Repeated Taken) told) ∙ append-nil (taken_items c items) in
          let left : absorb_all c (items ++ x ∷ []) ≡ Ok (after (taken_items c items)) = all_here ∙ ap content_taken (repeats (taken_items c items) l.agree l.lawful n l.facts l.all x s.0 s.1 told) in
          record {
            absorbed = left ∙ ap (λ k. Ok (after k)) (sym kept);
            before = lawful;
            lawful = subst (λ k. IsLawful (after k)) (sym kept) l.lawful;
            agree = subst (DoAgree c) (sym kept) l.agree;
            facts = ap (λ (k : News). k.facts) same ∙ l.facts ∙ (λ i. record { rows = rows_of (sym kept i); ends = ends_of (sym kept i) });
            got = ap (λ (k : News). k.got) same ∙ l.got ∙ ap (streams_of (length c.streams)) (sym kept);
            all = ap (λ (k : News). k.all) same ∙ l.all ∙ ap (λ k. all_together c.streams (streams_of (length c.streams) k)) (sym kept);
          }

      new : tells_nothing n.all x ≡ false → contradicts c n x ≡ false → m ≡ learnt n x → IsLearnt c (items ++ x ∷ []) m
      new told clear same =
          let kept : taken_items c (items ++ x ∷ []) ≡ taken_items c items ++ x ∷ [] = taken_more items c (after (taken_items c items)) x l.absorbed ∙ ap (λ t. taken_items c items ++ if_taken t x) (took_here ∙ ap (λ b. cond b Repeated Taken) told) in
          let gave = takes (taken_items c items) l.agree l.lawful n l.facts l.all x s.0 told clear in
          let left : absorb_all c (items ++ x ∷ []) ≡ Ok (after (taken_items c items ++ x ∷ [])) = all_here ∙ ap content_taken gave ∙ ap Ok (with_more (taken_items c items) (x ∷ [])) in
          let still : IsLawful (after (taken_items c items ++ x ∷ [])) = subst IsLawful (with_more (taken_items c items) (x ∷ [])) (taken_keeps (after (taken_items c items)) x l.lawful s.1 Taken (with_items (after (taken_items c items)) (x ∷ [])) gave) in
          let many : length n.got ≡ length c.streams = ap length l.got ∙ count_streams (length c.streams) (taken_items c items) in
          let many_all : length n.all ≡ length c.streams = ap length l.all ∙ as_many (taken_items c items) in
          record {
            absorbed = left ∙ ap (λ k. Ok (after k)) (sym kept);
            before = lawful;
            lawful = subst (λ k. IsLawful (after k)) (sym kept) still;
            agree = subst (DoAgree c) (sym kept) (one_agrees (taken_items c items) l.agree l.lawful n l.facts l.all x s.0 s.1 clear);
            facts = ap (λ (k : News). k.facts) same
                ∙ (λ i. record { rows = union (l.facts i).rows (rows_of (x ∷ [])); ends = union (l.facts i).ends (ends_of (x ∷ [])) })
                ∙ (λ i. record { rows = rows_both (taken_items c items) (x ∷ []) i; ends = ends_both (taken_items c items) (x ∷ []) i })
                ∙ (λ i. record { rows = rows_of (sym kept i); ends = ends_of (sym kept i) });
            got = ap (λ (k : News). k.got) same
                ∙ (λ i. all_together (l.got i) (streams_of (many i) (x ∷ [])))
                ∙ all_together-streams_of (length c.streams) (taken_items c items) (x ∷ [])
                ∙ ap (streams_of (length c.streams)) (sym kept);
            all = ap (λ (k : News). k.all) same
                ∙ (λ i. all_together (l.all i) (streams_of (many_all i) (x ∷ [])))
                ∙ streams_after c.streams lawful.streams (taken_items c items) (x ∷ [])
                ∙ ap (λ k. all_together c.streams (streams_of (length c.streams) k)) (sym kept);
          }

  pub one_refused : (items more : List Item) (n m : News) (x : Item) (why : Refusal) → IsLearnt c items n → Learns c n m x (Err why) → (absorb_all c (items ++ x ∷ more) ≡ Err why) ⊎ (why ≡ Memory)
  one_refused items more n m x why l s =
      elim s [
        | inl e ↦ inl (refused (ap (take_result_unless (after (taken_items c items)) x) (ap (λ k. wrong_log c.log k x) (as_many (taken_items c items)) ∙ e)))
        | inr k ↦ elim k [
          | inl f ↦ inl (refused (refuses (taken_items c items) l.agree l.lawful n l.facts l.all x f.0 f.1 f.2 ∙ ap Err (sym f.3)))
          | inr g ↦ inr g
        ]
      ]
    where
      refused : take_result (after (taken_items c items)) x ≡ Err why → absorb_all c (items ++ x ∷ more) ≡ Err why
      refused e = take_all-append (Ok c) items (x ∷ more) ∙ ap (λ r. take_all r (x ∷ more)) l.absorbed ∙ ap (λ r. take_all (content_taken r) more) e ∙ stays_refused why more

  -- ---- the join

  module _ (items : List Item) (agree : DoAgree c items) where
    late : (e : EntryValue) → In (Commit e) items → readable c < e.time
    late e i = All_In (IsAbove (readable c)) items agree.late (Commit e) i

    late_row : (v : VersionKey) (r : RowValue) → finmap.get (rows_of items) v ≡ Some r → readable c < v.born
    late_row v r e = let f = fact_row v r items (row_found items v r e) in let b = row_born v r f.0 f.2 in let l = late f.0 f.1 in omega arith

    late_end : (v : VersionKey) (d : ℕ) → finmap.get (ends_of items) v ≡ Some d → readable c < d
    late_end v d e = let f = fact_end v d items (end_found items v d e) in let b = end_dead v d f.0 f.2 in let l = late f.0 f.1 in omega arith

    abbrev sent : FragmentValue
    sent = record { base = 0; content = record { log = c.log; horizon = 0; rows = rows_of items; ends = ends_of items; streams = streams_of (length c.streams) items } }

    pub joins : join_result c (part (log_of_content c) items 0 0) ≡ Ok (after items)
    joins = added_joins c lawful items agree.each (λ e i. let l = late e i in let reach = lawful.in_reach in omega arith) agree.rows agree.ends

    -- it brings nothing up to the readable mark, and the horizon stays
    untouched : join_touches_past c sent ≡ false
    untouched =
        let rows = not_from (list_any (row_is_late c sent) (finmap.keys (rows_of items))) (λ y.
        let w = any_where (row_is_late c sent) (finmap.keys (rows_of items)) y in
        let x = key_row (rows_of items) w.0 w.1 in
        let l = late_row w.0 x.0 x.1 in
        let soon = leb-true w.0.born (readable c) (and_parts (nat_le w.0.born (readable c)) _ w.2).0 in
        omega arith)
        in
        let ends = not_from (list_any (end_is_late c sent) (finmap.keys (ends_of items))) (λ y.
        let w = any_where (end_is_late c sent) (finmap.keys (ends_of items)) y in
        let x = key_row (ends_of items) w.0 w.1 in
        let l = late_end w.0 x.0 x.1 in
        let soon = leb-true x.0 (readable c) (ap (at_most (readable c)) (sym x.1) ∙ (and_parts (at_most (readable c) (finmap.get (ends_of items) w.0)) _ w.2).0) in
        omega arith)
        in
        (λ i. nat_le (max c.horizon 0) (readable c) && ((rows i || ends i) || (none_stray c sent (ap (λ b. b && (0 == 0)) (no_gap_at_0 c.horizon)) i || (prune_untouched c (max c.horizon 0) c lawful stays).1 (past_itself c) i)))
        ∙ and_none (nat_le (max c.horizon 0) (readable c))
      where
        and_none : (b : Bool) → (b && false) ≡ false
        and_none true = refl
        and_none false = refl

        stays : prune_result c (max c.horizon 0) ≡ Ok c
        stays =
            let reach = lawful.in_reach in
            λ i. cond (le-ltb (readable c) (max c.horizon 0) (omega arith) i) (Err (AheadOfMark (readable c))) (cond (le-leb (max c.horizon 0) c.horizon (omega arith) i) (Ok c) (Ok (record c { horizon = max c.horizon 0; rows = without_ended c.ends (max c.horizon 0) c.rows; ends = without_ended c.ends (max c.horizon 0) c.ends })))

    pub touches_not : join_touches_past c (part (log_of_content c) items 0 0) ≡ false
    touches_not = ap (join_touches_past c) (part_is (log_of_content c) items agree.each) ∙ untouched
