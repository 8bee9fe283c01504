-- Repeats that are compared: what is found beside a state is so in what absorbing leaves, and of one history nothing is found.
use Rattle.std.proofs.Common.{◌≡◌, refl, sym, ap, ◌∙◌, ℕ, Bool, true, false, cond, not, ◌&&◌, ◌||◌, Option, Some, None, List, [], ◌∷◌, ◌<◌, Result, Ok, Err, ◌⊎◌, inl, inr, true≢false, ltb-true, eq-eqb, arith, nat_lt}
use Rattle.std.proofs.lemmas.Bool.Decides.{nat_tests}
use Rattle.std.specs.List.{list_any}
use Rattle.std.specs.FinMap as finmap
use Rattle.hk_types.specs.Values.{RowValue, ConfigValue}
use Rattle.hk_types.specs.declared.faults.Refusal.{Refusal}
use Rattle.hk_types.specs.declared.faults.Refusal.TheVariants.{Conflict, Memory}
use Rattle.hk_types.specs.declared.version_key.VersionKey.{VersionKey}
use Rattle.hk_log.specs.Items.{EntryValue}
use Rattle.hk_log.specs.declared.item.Item.{Item}
use Rattle.hk_log.specs.declared.item.Item.TheVariants.{Commit, Closed}
use Rattle.hk_model.specs.History.Facts.{inserted_version, rows_of, ends_of}
use Rattle.hk_model.specs.History.Histories.{History, IsHistory, commits, entries_of}
use Rattle.hk_model.specs.Replica.Content.{Content, at_most}
use Rattle.hk_model.specs.Replica.Fragments.{FragmentValue}
use Rattle.hk_model.specs.Replica.Maps.{or_else}
use Rattle.hk_model.specs.Replica.Past.{same_shown}
use Rattle.hk_model.specs.Replica.Replicas.{Represents}
use Rattle.hk_model.specs.Replica.Rules.{with_items, join_result}
use Rattle.hk_model.specs.Replica.Touches.{join_touches_past}
use Rattle.hk_model.proofs.History.Honest.{history_log, items_part}
use Rattle.hk_model.proofs.History.Logs.{IsPart, row_fact, end_fact, find_row, find_end, end_time}
use Rattle.hk_model.proofs.Replica.Joins.{content_of_row, content_of_end}
use Rattle.hk_model.proofs.Replica.Maps.{version_key_total, version_key_same, get-union}
use Rattle.hk_model.proofs.Replica.Members.{In, map-In}
use Rattle.hk_model.proofs.Replica.Turns.{same_itself}
use Rattle.hk_model.proofs.Replica.Visible.{any_where, not_from}
use Rattle.hk_store.specs.Facts.{FactsValue}
use Rattle.hk_store.specs.Reads.{facts_of_content}
use Rattle.hk_delta.specs.declared.agreeing.News.{News}
use Rattle.hk_delta.specs.Agreeing.{Agrees, IsLearnt, absorb_all, fragment_of_taken, taken_items}
use Rattle.hk_delta.proofs.AgreedItems.{joins, touches_not}
use Rattle.hk_delta.specs.Repeats.{lacks_row, lacks_end, is_end, is_otherwise, stands_otherwise, stands_otherwise_in, if_as_told, absorb_so, AgreesSo}

-- ---- beside a state

module _ (c : Content) (items : List Item) (n : News) (l : IsLearnt c items n) where
  abbrev left : Content
  left = with_items c (taken_items c items)

  rows_left : (λ v. or_else (finmap.get c.rows v) (finmap.get n.facts.rows v)) ≡ finmap.get left.rows
  rows_left i v = (ap (λ f. or_else (finmap.get c.rows v) (finmap.get f.rows v)) l.facts ∙ sym (get-union version_key_total version_key_same c.rows (rows_of (taken_items c items)) v)) i

  ends_left : (λ v. or_else (finmap.get c.ends v) (finmap.get n.facts.ends v)) ≡ finmap.get left.ends
  ends_left i v = (ap (λ f. or_else (finmap.get c.ends v) (finmap.get f.ends v)) l.facts ∙ sym (get-union version_key_total version_key_same c.ends (ends_of (taken_items c items)) v)) i

  same_told : list_any (stands_otherwise_in (facts_of_content c) n.facts c.horizon) items ≡ list_any (stands_otherwise left) items
  same_told i = list_any (λ item. is_otherwise (rows_left i) (ends_left i) c.horizon item) items

  as_told : (b : Bool) → (b && list_any (stands_otherwise_in (facts_of_content c) n.facts c.horizon) items) ≡ false → absorb_so b c items ≡ Ok left
  as_told false e = l.absorbed
  as_told true e = ap (if_as_told items) l.absorbed ∙ (λ i. cond ((sym same_told ∙ e) i) (Err Conflict) (Ok left))

  pub told_otherwise : (b : Bool) → (b && list_any (stands_otherwise_in (facts_of_content c) n.facts c.horizon) items) ≡ true → absorb_so b c items ≡ Err Conflict
  told_otherwise false e = absurd (true≢false (sym e))
  told_otherwise true e = ap (if_as_told items) l.absorbed ∙ (λ i. cond ((sym same_told ∙ e) i) (Err Conflict) (Ok left))

  pub agrees_so : (b : Bool) → (b && list_any (stands_otherwise_in (facts_of_content c) n.facts c.horizon) items) ≡ false → (f : FragmentValue) → f ≡ fragment_of_taken c items → AgreesSo b c items (Ok f)
  agrees_so b e f is = (
    is,
    (
      left,
      as_told b e,
      ap (join_result c) is ∙ joins c l.before (taken_items c items) l.agree,
      ap (join_touches_past c) is ∙ touches_not c l.before (taken_items c items) l.agree,
    ),
  )

-- the facts of a state are those of its content
pub beside : (c : Content) (f g : FactsValue) (h : ℕ) (b : Bool) (items : List Item) → f.rows ≡ c.rows → f.ends ≡ c.ends → h ≡ c.horizon → (b && list_any (stands_otherwise_in f g h) items) ≡ (b && list_any (stands_otherwise_in (facts_of_content c) g c.horizon) items)
beside c f g h b items rows ends at = λ i. b && list_any (stands_otherwise_in (record { rows = rows i; ends = ends i }) g (at i)) items

-- what an absorb refuses is refused so
pub refused_so : (b : Bool) (c : Content) (items : List Item) (why : Refusal) → (absorb_all c items ≡ Err why) ⊎ (why ≡ Memory) → (absorb_so b c items ≡ Err why) ⊎ (why ≡ Memory)
refused_so b c items why (inr m) = inr m
refused_so false c items why (inl e) = inl e
refused_so true c items why (inl e) = inl (ap (if_as_told items) e)

-- not compared, it is as ever
pub not_compared : (c : Content) (items : List Item) (r : Result FragmentValue Refusal) → AgreesSo false c items r → Agrees c items r
not_compared c items (Ok f) h = h
not_compared c items (Err why) h = h

-- what is compared and left is what absorbing leaves
pub absorbed_so : (b : Bool) (c : Content) (items : List Item) (d : Content) → absorb_so b c items ≡ Ok d → absorb_all c items ≡ Ok d
absorbed_so false c items d e = e
absorbed_so true c items d e = by (absorb_all c items) e
  where
    by : (r : Result Content Refusal) → if_as_told items r ≡ Ok d → r ≡ Ok d
    by (Err why) e = absurd (cc)
    by (Ok x) e = choose (list_any (stands_otherwise x) items) e
      where
        choose : (b : Bool) → ◌≡◌ {A = Result Content Refusal} (cond b (Err Conflict) (Ok x)) (Ok d) → ◌≡◌ {A = Result Content Refusal} (Ok x) (Ok d)
        choose true e = absurd (cc)
        choose false e = e

-- an entry of which each row and each end is found stands as it is told
pub as_found : (rows : VersionKey → Option RowValue) (ends : VersionKey → Option ℕ) (e : EntryValue) → ((p : ℕ × ℕ × RowValue) → In p e.rows → rows (inserted_version e.time p).0 ≡ Some p.2) → ((v : VersionKey) → In v e.ends → ends v ≡ Some e.time)
    → (list_any (lacks_row rows e.time) e.rows || list_any (lacks_end ends e.time) e.ends) ≡ false
as_found rows ends e row_there end_there =
    let all_rows = not_from (list_any (lacks_row rows e.time) e.rows) (λ y.
    let w = any_where (lacks_row rows e.time) e.rows y in
    true≢false (sym w.2 ∙ ap (λ x. not (same_shown x (Some w.0.2))) (row_there w.0 w.1) ∙ ap not (same_itself (Some w.0.2))))
    in
    let all_ends = not_from (list_any (lacks_end ends e.time) e.ends) (λ y.
    let w = any_where (lacks_end ends e.time) e.ends y in
    true≢false (sym w.2 ∙ ap (λ x. not (is_end x e.time)) (end_there w.0 w.1) ∙ ap not (eq-eqb e.time e.time refl)))
    in
    λ i. all_rows i || all_ends i

-- ---- one history

stays_row : (g born : ℕ) (a : Option ℕ) (x : Option RowValue) → ((d : ℕ) → a ≡ Some d → born < d) → g < born → cond (not (at_most g a)) x None ≡ x
stays_row g born a x later above = grind (arith, nat_tests)

stays_end : (g time : ℕ) → g < time → cond (not (at_most g (Some time))) (Some time) None ≡ Some time
stays_end g time above = grind (arith, nat_tests)

module _ (config : ConfigValue) (history : History) (is : IsHistory config history) (items : List Item) (g : ℕ) (d : Content) (s : Represents config history items g d) where
  abbrev IsEntry : EntryValue → Type 0
  IsEntry e = In e (entries_of config (commits history))

  part : IsPart (λ e. In e (entries_of config (commits history))) items
  part = items_part config history is items s.of_history

  module _ (e : EntryValue) (i : In (Commit e) items) (above : g < e.time) where
    row_there : (p : ℕ × ℕ × RowValue) → In p e.rows → finmap.get d.rows (inserted_version e.time p).0 ≡ Some p.2
    row_there p j =
        let v = (inserted_version e.time p).0 in
        let here = find_row config IsEntry (history_log config history is) items part v p.2 (row_fact v p.2 e items i (map-In (inserted_version e.time) p e.rows j)) in
        ap (λ (x : Content). finmap.get x.rows v) s.is_content_of
        ∙ content_of_row config items g v
        ∙ stays_row g e.time (finmap.get (ends_of items) v) (finmap.get (rows_of items) v) (end_time config IsEntry (history_log config history is) items part v) above
        ∙ here

    end_there : (v : VersionKey) → In v e.ends → finmap.get d.ends v ≡ Some e.time
    end_there v j =
        let here = find_end config IsEntry (history_log config history is) items part v e.time (end_fact v e.time e items i (map-In (λ (w : VersionKey). (w, e.time)) v e.ends j)) in
        ap (λ (x : Content). finmap.get x.ends v) s.is_content_of ∙ content_of_end config items g v ∙ ap (λ x. cond (not (at_most g x)) x None) here ∙ stays_end g e.time above

    as_it_is : (list_any (lacks_row (finmap.get d.rows) e.time) e.rows || list_any (lacks_end (finmap.get d.ends) e.time) e.ends) ≡ false
    as_it_is = as_found (finmap.get d.rows) (finmap.get d.ends) e row_there end_there

  -- an item that is represented stands as it is told
  pub stands_as_told : (item : Item) → In item items → stands_otherwise d item ≡ false
  stands_as_told (Closed m) i = refl
  stands_as_told (Commit e) i = by (nat_lt d.horizon e.time) refl
    where
      others : Bool
      others = list_any (lacks_row (finmap.get d.rows) e.time) e.rows || list_any (lacks_end (finmap.get d.ends) e.time) e.ends

      at_g : d.horizon ≡ g
      at_g = ap (λ (x : Content). x.horizon) s.is_content_of

      by : (b : Bool) → nat_lt d.horizon e.time ≡ b → (nat_lt d.horizon e.time && others) ≡ false
      by true k = let l = ltb-true d.horizon e.time k in ap (λ b. b && others) k ∙ as_it_is e i (omega (arith, at_g))
      by false k = ap (λ b. b && others) k

  pub all_as_told : (told : List Item) → ((item : Item) → In item told → In item items) → list_any (stands_otherwise d) told ≡ false
  all_as_told [] among = refl
  all_as_told (x ∷ xs) among = λ i. stands_as_told x (among x (inl refl)) i || all_as_told xs (λ y j. among y (inr j)) i
