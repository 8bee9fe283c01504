-- Items that are all new: what they are gathered to is what is learnt of them one after the other.
use Rattle.std.proofs.Common.{◌≡◌, refl, sym, ap, ◌∙◌, subst, ℕ, Bool, true, false, cond, not, ◌&&◌, ◌||◌, ◌==◌, Option, Some, None, List, [], ◌∷◌, ◌++◌, length, Ok, inr, true≢false, nat_le, nat_lt}
use Rattle.std.proofs.lemmas.Bool.{or_parts, eqb-true, not-false}
use Rattle.std.specs.List.{list_any}
use Rattle.std.specs.FinMap as finmap
use Rattle.hk_types.specs.Values.{RowValue, same_row}
use Rattle.hk_types.specs.declared.version_key.VersionKey.{VersionKey}
use Rattle.hk_log.specs.Items.{EntryValue}
use Rattle.hk_log.specs.declared.item.Item.{Item}
use Rattle.hk_log.specs.declared.item.Item.TheVariants.{Commit, Closed}
use Rattle.hk_model.specs.declared.took.Took.TheVariants.{Taken, Repeated}
use Rattle.hk_model.specs.History.Facts.{inserted_version, row_facts, end_facts, rows_of, ends_of}
use Rattle.hk_model.specs.History.Rows.{version_key_cmp}
use Rattle.hk_model.specs.Replica.Content.{Content}
use Rattle.hk_model.specs.Replica.Fragments.{FragmentValue, part}
use Rattle.hk_model.specs.Replica.Lawful.{IsLawful}
use Rattle.hk_model.specs.Replica.Maps.{or_else, values_conflict, maps_conflict}
use Rattle.hk_model.specs.Replica.Rules.{conflict, with_items}
use Rattle.hk_model.specs.Replica.Streams.{StreamContent, stream_at, streams_of, all_together}
use Rattle.hk_model.proofs.History.Logs.{row_fact, end_fact}
use Rattle.hk_model.proofs.Replica.Maps.{version_key_total, version_key_same, no_entry_conflict}
use Rattle.hk_model.proofs.Replica.Members.{In, In-left, In-right, In-find, find-In, map-In}
use Rattle.hk_model.proofs.Replica.Sets.{row_facts-append, end_facts-append}
use Rattle.hk_model.proofs.Replica.Visible.{any_where, not_from}
use Rattle.hk_store.specs.Facts.{conflicts_with_entry}
use Rattle.hk_store.specs.Reads.{facts_of_content}
use Rattle.hk_store.proofs.SameRows.{same_value}
use Rattle.hk_state.specs.Items.{log_of_content}
use Rattle.hk_state.proofs.WrongLogs.{wrong_log-append}
use Rattle.hk_delta.specs.Agreeing.{if_taken, taken_items, tells_nothing, contradicts, contradicts_content, streams_with, learnt, Learns, IsNew, AreNew, IsLearnt, DoAgree, all_told}
use Rattle.hk_delta.specs.Gathers.{have_conflict}
use Rattle.hk_delta.specs.Repeats.{lacks_row, lacks_end, row_in, end_in, stands_otherwise_in, AgreesSo}
use Rattle.hk_delta.proofs.AgreedItems.{as_many, nothing_learnt, one_learnt, taken_more, took_is}
use Rattle.hk_delta.proofs.ComparedRepeats.{agrees_so, as_found}
use Rattle.hk_delta.proofs.FactsInConflict.{agrees_from, no_conflict, same_there, row_alike, time_alike}
use Rattle.hk_delta.proofs.StreamsInTurn.{streams_after, streams_none}
use Rattle.hk_delta.proofs.UnionOfLists.{agree_at}

-- ---- facts that agree

module _ {X : Type 0} (same : X → X → Bool) (tells : (a b : X) → same a b ≡ true → a ≡ b) (alike : (a : X) → same a a ≡ true) where
  abbrev mapped : List (VersionKey × X) → finmap.FinMap version_key_cmp X
  mapped xs = finmap.from_entries xs

  is_in : (xs : List (VersionKey × X)) (v : VersionKey) (x : X) → finmap.get (mapped xs) v ≡ Some x → In (v, x) xs
  is_in xs v x e = In-find version_key_cmp version_key_total version_key_same v x xs (sym (finmap.get-from_entries version_key_total xs v) ∙ e)

  module _ (xs ys : List (VersionKey × X)) (none : conflict same (xs ++ ys) ≡ false) where
    -- the first of them have no conflict
    first_agree : conflict same xs ≡ false
    first_agree = no_conflict same tells alike xs (λ v x i.
        finmap.get-from_entries version_key_total xs v
        ∙ find-In version_key_cmp version_key_total version_key_same v x xs (λ y j. tells y x (same_there same tells alike (xs ++ ys) none v y x (In-left (v, y) xs ys j) (In-left (v, x) xs ys i))) i)

    -- nor have they one with the others
    both_agree : maps_conflict same (mapped xs) (mapped ys) ≡ false
    both_agree = no_entry_conflict version_key_total version_key_same same (mapped xs) (mapped ys) (λ v. by v (finmap.get (mapped xs) v) refl (finmap.get (mapped ys) v) refl)
      where
        by : (v : VersionKey) (o : Option X) → finmap.get (mapped xs) v ≡ o → (p : Option X) → finmap.get (mapped ys) v ≡ p → values_conflict same (finmap.get (mapped xs) v) (finmap.get (mapped ys) v) ≡ false
        by v None g p h = ap (λ o. values_conflict same o (finmap.get (mapped ys) v)) g
        by v (Some z) g None h = λ i. values_conflict same (g i) (h i)
        by v (Some z) g (Some w) h =
            (λ i. values_conflict same (g i) (h i))
            ∙ ap not (same_there same tells alike (xs ++ ys) none v z w (In-left (v, z) xs ys (is_in xs v z g)) (In-right (v, w) xs ys (is_in ys v w h)))

  -- a fact of a list that agrees with a map is found in both together
  found_beside : (m : finmap.FinMap version_key_cmp X) (xs : List (VersionKey × X)) → conflict same xs ≡ false → maps_conflict same m (mapped xs) ≡ false → (v : VersionKey) (x : X) → In (v, x) xs → or_else (finmap.get m v) (finmap.get (mapped xs) v) ≡ Some x
  found_beside m xs own none v x i =
      let there : finmap.get (mapped xs) v ≡ Some x = agrees_from same tells alike xs own v x i in
      ap (or_else (finmap.get m v)) there
      ∙ by (finmap.get m v) (ap (values_conflict same (finmap.get m v)) (sym there) ∙ agree_at same tells alike m (mapped xs) none v)
    where
      by : (o : Option X) → values_conflict same o (Some x) ≡ false → or_else o (Some x) ≡ Some x
      by None e = refl
      by (Some z) e = ap Some (tells z x (not-false (same z x) e))

-- ---- items, one more at a time

fewer_agree : (items : List Item) (x : Item) → have_conflict (items ++ x ∷ []) ≡ false → have_conflict items ≡ false
fewer_agree items x none =
    let parts = or_parts (conflict same_row (row_facts (items ++ x ∷ []))) (conflict (λ a b. a == b) (end_facts (items ++ x ∷ []))) none in
    let rows = first_agree same_row same_value row_alike (row_facts items) (row_facts (x ∷ [])) (ap (conflict same_row) (sym (row_facts-append items (x ∷ []))) ∙ parts.0) in
    let ends = first_agree (λ a b. a == b) eqb-true time_alike (end_facts items) (end_facts (x ∷ [])) (ap (conflict (λ a b. a == b)) (sym (end_facts-append items (x ∷ []))) ∙ parts.1) in
    λ i. rows i || ends i

-- an entry that conflicts with no item before it has no other row or end than they
clear_of_others : (items : List Item) (e : EntryValue) → have_conflict (items ++ Commit e ∷ []) ≡ false → conflicts_with_entry (record { rows = rows_of items; ends = ends_of items }) e ≡ false
clear_of_others items e none =
    let parts = or_parts (conflict same_row (row_facts (items ++ Commit e ∷ []))) (conflict (λ a b. a == b) (end_facts (items ++ Commit e ∷ []))) none in
    let rows = both_agree same_row same_value row_alike (row_facts items) (row_facts (Commit e ∷ [])) (ap (conflict same_row) (sym (row_facts-append items (Commit e ∷ []))) ∙ parts.0) in
    let ends = both_agree (λ a b. a == b) eqb-true time_alike (end_facts items) (end_facts (Commit e ∷ [])) (ap (conflict (λ a b. a == b)) (sym (end_facts-append items (Commit e ∷ []))) ∙ parts.1) in
    λ i. rows i || ends i

module _ (c : Content) (lawful : IsLawful c) where
  -- the streams with one item more
  pub streams_more : (items : List Item) (old new : List StreamContent) (x : Item) → old ≡ all_together c.streams (streams_of (length c.streams) items) → new ≡ streams_with old x → new ≡ all_together c.streams (streams_of (length c.streams) (items ++ x ∷ []))
  streams_more items old new x streams is =
      let many : length old ≡ length c.streams = ap length streams ∙ as_many c lawful items in
      is ∙ (λ i. all_together (streams i) (streams_of (many i) (x ∷ []))) ∙ streams_after c.streams lawful.streams items (x ∷ [])

  pub none_new : AreNew c []
  none_new = record {
    fits = refl;
    taken = λ _. refl;
    learnt = λ _. nothing_learnt c lawful (all_told c []) refl refl (streams_none c.streams lawful.streams);
  }

  module _ (items : List Item) (old new : List StreamContent) (x : Item) (are : AreNew c items) (streams : old ≡ all_together c.streams (streams_of (length c.streams) items)) (is : IsNew c old new x) where
    module _ (none : have_conflict (items ++ x ∷ []) ≡ false) where
      l : IsLearnt c items (all_told c items)
      l = are.learnt (fewer_agree items x none)

      known : taken_items c items ≡ items
      known = are.taken (fewer_agree items x none)

      tells : tells_nothing (with_items c (taken_items c items)).streams x ≡ false
      tells = ap (λ s. tells_nothing s x) (sym l.all ∙ sym streams) ∙ is.2.0

      now_taken : taken_items c (items ++ x ∷ []) ≡ items ++ x ∷ []
      now_taken =
          taken_more items c (with_items c (taken_items c items)) x l.absorbed
          ∙ (λ i. known i ++ if_taken ((took_is (with_items c (taken_items c items)) x ∙ ap (λ b. cond b Repeated Taken) tells) i) x)

      clear : contradicts c (all_told c items) x ≡ false
      clear = by x is.2.1 none
        where
          by : (x : Item) → contradicts_content c old x ≡ false → have_conflict (items ++ x ∷ []) ≡ false → contradicts c (all_told c items) x ≡ false
          by (Closed m) e none = refl
          by (Commit e) f none =
              let parts = or_parts (nat_le e.time (stream_at old e.stream).closed) (conflicts_with_entry (facts_of_content c) e) f in
              let late : nat_le e.time (stream_at (all_told c items).all e.stream).closed ≡ false = ap (λ (s : List StreamContent). nat_le e.time (stream_at s e.stream).closed) (sym streams) ∙ parts.0 in
              λ i. parts.1 i || (clear_of_others items e none i || late i)

      learns : Learns c (all_told c items) (learnt (all_told c items) x) x (Ok tt)
      learns = (is.0, is.1, inr (ap (λ s. tells_nothing s x) (sym streams) ∙ is.2.0, clear, refl))

      now_learnt : IsLearnt c (items ++ x ∷ []) (all_told c (items ++ x ∷ []))
      now_learnt =
          let m = one_learnt c lawful items (all_told c items) (learnt (all_told c items) x) x l learns in
          record {
            absorbed = m.absorbed;
            before = m.before;
            lawful = m.lawful;
            agree = m.agree;
            facts = λ i. record { rows = rows_of (sym now_taken i); ends = ends_of (sym now_taken i) };
            got = ap (streams_of (length c.streams)) (sym now_taken);
            all = ap (λ k. all_together c.streams (streams_of (length c.streams) k)) (sym now_taken);
          }

    pub one_new : AreNew c (items ++ x ∷ [])
    one_new = record {
      fits = wrong_log-append (log_of_content c) items (x ∷ []) ∙ (λ i. or_else (are.fits i) (or_else (is.0 i) None));
      taken = now_taken;
      learnt = now_learnt;
    }

-- ---- what is compared stands as it is told

and_none : (b c : Bool) → c ≡ false → (b && c) ≡ false
and_none true c e = e
and_none false c e = refl

module _ (c : Content) (items : List Item) (agree : DoAgree c items) (none : have_conflict items ≡ false) where
  abbrev rows_here : VersionKey → Option RowValue
  rows_here = row_in (facts_of_content c) (record { rows = rows_of items; ends = ends_of items })

  abbrev ends_here : VersionKey → Option ℕ
  ends_here = end_in (facts_of_content c) (record { rows = rows_of items; ends = ends_of items })

  own : (conflict same_row (row_facts items) ≡ false) × (conflict (λ a b. a == b) (end_facts items) ≡ false)
  own = or_parts (conflict same_row (row_facts items)) (conflict (λ a b. a == b) (end_facts items)) none

  row_there : (e : EntryValue) → In (Commit e) items → (p : ℕ × ℕ × RowValue) → In p e.rows → rows_here (inserted_version e.time p).0 ≡ Some p.2
  row_there e i p j =
      let v = (inserted_version e.time p).0 in
      found_beside same_row same_value row_alike c.rows (row_facts items) own.0 agree.rows v p.2 (row_fact v p.2 e items i (map-In (inserted_version e.time) p e.rows j))

  end_there : (e : EntryValue) → In (Commit e) items → (v : VersionKey) → In v e.ends → ends_here v ≡ Some e.time
  end_there e i v j =
      found_beside (λ a b. a == b) eqb-true time_alike c.ends (end_facts items) own.1 agree.ends v e.time (end_fact v e.time e items i (map-In (λ (w : VersionKey). (w, e.time)) v e.ends j))

  stands : (item : Item) → In item items → stands_otherwise_in (facts_of_content c) (record { rows = rows_of items; ends = ends_of items }) c.horizon item ≡ false
  stands (Closed m) i = refl
  stands (Commit e) i = and_none (nat_lt c.horizon e.time) (list_any (lacks_row rows_here e.time) e.rows || list_any (lacks_end ends_here e.time) e.ends) (as_found rows_here ends_here e (row_there e i) (end_there e i))

  all_stand : list_any (stands_otherwise_in (facts_of_content c) (record { rows = rows_of items; ends = ends_of items }) c.horizon) items ≡ false
  all_stand = not_from (list_any (stands_otherwise_in (facts_of_content c) (record { rows = rows_of items; ends = ends_of items }) c.horizon) items) (λ y.
      let w = any_where (stands_otherwise_in (facts_of_content c) (record { rows = rows_of items; ends = ends_of items }) c.horizon) items y in
      true≢false (sym w.2 ∙ stands w.0 w.1))

-- the fragment of items that are all new is that of those that were taken, compared or not
pub new_agree : (c : Content) (items : List Item) → AreNew c items → have_conflict items ≡ false → (compared : Bool) (f : FragmentValue) → f ≡ part (log_of_content c) items 0 0 → AgreesSo compared c items (Ok f)
new_agree c items are none compared f is =
    let l = are.learnt none in
    let taken = are.taken none in
    agrees_so c items (all_told c items) l compared (and_none compared (list_any (stands_otherwise_in (facts_of_content c) (all_told c items).facts c.horizon) items) (all_stand c items (subst (DoAgree c) taken l.agree) none)) f
    (is ∙ ap (λ k. part (log_of_content c) k 0 0) (sym taken))
