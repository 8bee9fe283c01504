-- Which joins touch the past, and that those that do not keep it.
use Rattle.std.proofs.Common.{◌≡◌, refl, sym, ap, ◌∙◌, subst, ℕ, Bool, true, false, cond, not, Option, Some, None, is_some, List, ◌⊎◌, inl, inr, ◌++◌, ◌==◌, ◌||◌, ◌&&◌, ◌<◌, ◌≤◌, max, arith, Ok, Err, Result, length, nat_le, nat_lt, le-leb, leb-true, leb-false, true≢false}
use Rattle.std.proofs.lemmas.Bool.{or_parts, cases_Bool}
use Rattle.std.proofs.lemmas.Bool.Decides.{nat_tests}
use Rattle.std.specs.List.{list_any}
use Rattle.std.specs.FinMap as finmap
use Rattle.hk_model.proofs.Replica.Maps.{version_key_total, version_key_same, get-union, get-retain, get-without_ended}
use Rattle.hk_model.proofs.Replica.Members.{In}
use Rattle.hk_model.proofs.Replica.Points.{Fit}
use Rattle.hk_model.proofs.History.Logs.{fit}
use Rattle.hk_model.proofs.History.Complete.{complete}
use Rattle.hk_model.proofs.History.Honest.{history_log, items_part}
use Rattle.hk_model.proofs.Replica.Joins.{rows_of-append, ends_of-append, content_of_row, content_of_end, joined_content_of, part_row, part_end}
use Rattle.hk_model.proofs.Replica.Lawful.{same_Ok}
use Rattle.hk_model.proofs.Replica.Shown.{any_In, get-key}
use Rattle.hk_model.proofs.Replica.Visible.{not_from, any_where}
use Rattle.hk_model.proofs.Replica.Chains.{IsAlike, alike_shows, key_row}
use Rattle.hk_model.proofs.Replica.Turns.{same_rows_are}
use Rattle.hk_model.proofs.Replica.Touches.{pruned, row_left, left_row, end_left, untouched_prune, honest_prune}
use Rattle.hk_model.proofs.Laws.{content_of_within}
use Rattle.hk_types.specs.Values.{RowValue, ConfigValue, same_row}
use Rattle.hk_types.specs.declared.version_key.VersionKey.{VersionKey}
use Rattle.hk_types.specs.declared.faults.Refusal.{Refusal}
use Rattle.hk_types.specs.declared.faults.Refusal.TheVariants.{ForeignLog, WrongStreams, Gap, Conflict}
use Rattle.hk_log.specs.declared.item.Item.{Item}
use Rattle.hk_model.specs.History.Rows.{RowKey}
use Rattle.hk_model.specs.History.Facts.{rows_of, ends_of}
use Rattle.hk_model.specs.History.Histories.{History, IsHistory, AreItemsOf, commits, entries_of}
use Rattle.hk_model.specs.Replica.Maps.{or_else, values_conflict, maps_conflict}
use Rattle.hk_model.specs.Replica.Content.{Content, readable, at_most, ended_by}
use Rattle.hk_model.specs.Replica.ContentOf.{content_of}
use Rattle.hk_model.specs.Replica.Fragments.{FragmentValue, part}
use Rattle.hk_model.specs.Replica.Answers.{visible}
use Rattle.hk_model.specs.Replica.Rules.{contents_conflict, content_after_join}
use Rattle.hk_model.specs.Replica.Replicas.{Represents}
use Rattle.hk_model.specs.Replica.Lawful.{IsLawful}
use Rattle.hk_model.specs.Replica.Past.{KeepsPast}
use Rattle.hk_model.specs.Replica.Touches.{joined_horizon, row_is_late, end_is_late, is_stray, brings_late, leaves_strays, prune_touches_past, join_touches_past}
use Rattle.hk_model.specs.Laws.{JoinUntouched, HonestJoin}

none_of : {X : Type 0} (p : X → Bool) (xs : List X) → list_any p xs ≡ false → (x : X) → In x xs → p x ≡ false
none_of p xs e x i = not_from (p x) (λ y. true≢false (sym (any_In p x xs i y) ∙ e))

-- an end, where none comes by then
pub same_end_there : (t h m : ℕ) (x y : Option ℕ) → t ≤ m → not (at_most h x) ≡ true → ((d : ℕ) → y ≡ Some d → (at_most m y && (not (is_some x) && not (at_most h y))) ≡ false) → at_most t (or_else (cond (not (at_most h x)) x None) (cond (not (at_most h y)) y None)) ≡ at_most t x
same_end_there t h m x y l stays late = grind (arith, nat_tests)

-- a row that is there after a join and was not before comes late
came_late : {X : Type 0} (stays comes near : Bool) (x y : Option X) (r : X) → x ≡ None → near ≡ true → ((s : X) → y ≡ Some s → (near && (not (is_some x) && comes)) ≡ false) → or_else (cond stays x None) (cond comes y None) ≡ Some r → ⊥
came_late stays comes near x y r o n late e = grind (arith, nat_tests)

row_of_both : (r s : RowValue) → values_conflict same_row (Some r) (Some s) ≡ false → s ≡ r
row_of_both r s e = sym (same_rows_are r s (is_same (same_row r s) e))
  where
    is_same : (b : Bool) → not b ≡ false → b ≡ true
    is_same true f = refl
    is_same false f = sym f

left_then : {X : Type 0} (ended : Bool) (x : Option X) (r s : X) → x ≡ Some s → cond ended None x ≡ Some r → (x ≡ Some r) × (ended ≡ false)
left_then true x r s e f = absurd cc
left_then false x r s e f = (f, refl)

-- what a join leaves of a row of the target's own, where it is not astray: what a prune leaves
left_of_same : {X : Type 0} (g q born base : ℕ) (a : Option ℕ) (r : X) → ((d : ℕ) → a ≡ Some d → born < d) → ((d : ℕ) → a ≡ Some d → g < d) → (nat_lt g q && ((base == 0) && (nat_le born q && at_most q a))) ≡ false
    → or_else (cond (nat_lt (max g q) born || (((g == max g q) || nat_lt 0 base) && not (at_most (max g q) a))) (Some r) None) (cond (nat_lt (max g q) born || ((base == 0) && (q == max g q))) (Some r) None) ≡ cond (at_most (max g q) a) None (Some r)
left_of_same g q born base a r dead above calm = grind (arith, nat_tests)

left_of_none : {X : Type 0} (g q born base : ℕ) (a : Option ℕ) (r : X) → ((d : ℕ) → a ≡ Some d → born < d) → ((d : ℕ) → a ≡ Some d → g < d) → (nat_lt g q && ((base == 0) && (nat_le born q && not (at_most q a)))) ≡ false
    → or_else (cond (nat_lt (max g q) born || (((g == max g q) || nat_lt 0 base) && not (at_most (max g q) a))) (Some r) None) (cond (nat_lt (max g q) born || ((base == 0) && (q == max g q))) None None) ≡ cond (at_most (max g q) a) None (Some r)
left_of_none g q born base a r dead above calm = grind (arith, nat_tests)

left_as_pruned : {X : Type 0} (g q born base : ℕ) (y : Option X) (a : Option ℕ) (r : X) → ((d : ℕ) → a ≡ Some d → born < d) → ((d : ℕ) → a ≡ Some d → g < d) → ((s : X) → y ≡ Some s → s ≡ r)
    → (nat_lt g q && ((base == 0) && (nat_le born q && cond (at_most q a) (is_some y) (not (is_some y))))) ≡ false
    → or_else (cond (nat_lt (max g q) born || (((g == max g q) || nat_lt 0 base) && not (at_most (max g q) a))) (Some r) None) (cond (nat_lt (max g q) born || ((base == 0) && (q == max g q))) y None) ≡ cond (at_most (max g q) a) None (Some r)
left_as_pruned g q born base None a r dead above agree calm = left_of_none g q born base a r dead above (calm_of (nat_lt g q) (base == 0) (nat_le born q) (at_most q a) calm)
  where
    calm_of : (x y z w : Bool) → (x && (y && (z && cond w false true))) ≡ false → (x && (y && (z && not w))) ≡ false
    calm_of x y z true e = e
    calm_of x y z false e = e
left_as_pruned {X} g q born base (Some s) a r dead above agree calm = subst (λ (z : X). or_else (cond (nat_lt (max g q) born || (((g == max g q) || nat_lt 0 base) && not (at_most (max g q) a))) (Some r) None) (cond (nat_lt (max g q) born || ((base == 0) && (q == max g q))) (Some z) None) ≡ cond (at_most (max g q) a) None (Some r)) (sym (agree s refl)) (left_of_same g q born base a r dead above (calm_of (nat_lt g q) (base == 0) (nat_le born q) (at_most q a) calm))
  where
    calm_of : (x y z w : Bool) → (x && (y && (z && cond w true false))) ≡ false → (x && (y && (z && w))) ≡ false
    calm_of x y z true e = e
    calm_of x y z false e = e

module _ (t : Content) (f : FragmentValue) where
  abbrev h : ℕ
  h = joined_horizon t f

  row_after : (v : VersionKey) → finmap.get (content_after_join t f).rows v ≡ or_else (cond (nat_lt h v.born || (((t.horizon == h) || nat_lt 0 f.base) && not (ended_by t.ends h v))) (finmap.get t.rows v) None) (cond (nat_lt h v.born || ((f.base == 0) && (f.content.horizon == h))) (finmap.get f.content.rows v) None)
  row_after v =
      get-union version_key_total version_key_same _ _ v
      ∙ (λ i. or_else
      (get-retain version_key_total version_key_same t.rows (λ w. nat_lt h w.born || (((t.horizon == h) || nat_lt 0 f.base) && not (ended_by t.ends h w))) v i)
      (get-retain version_key_total version_key_same f.content.rows (λ w. nat_lt h w.born || ((f.base == 0) && (f.content.horizon == h))) v i))

  module _ (lawful : IsLawful t) (agree : contents_conflict t f.content ≡ false) (timely : brings_late t f ≡ false) (calm : leaves_strays t f ≡ false) where
    same_row_sent : (v : VersionKey) (r : RowValue) → finmap.get t.rows v ≡ Some r → (s : RowValue) → finmap.get f.content.rows v ≡ Some s → s ≡ r
    same_row_sent v r e s g =
        let rows = (or_parts (maps_conflict same_row t.rows f.content.rows) _ agree).0 in
        row_of_both r s ((λ i. values_conflict same_row (sym e i) (sym g i)) ∙ none_of (λ k. values_conflict same_row (finmap.get t.rows k) (finmap.get f.content.rows k)) (finmap.keys t.rows) rows v (get-key t.rows v r e))

    left : (v : VersionKey) (r : RowValue) → finmap.get t.rows v ≡ Some r → finmap.get (content_after_join t f).rows v ≡ cond (ended_by t.ends h v) None (finmap.get t.rows v)
    left v r e =
        row_after v
        ∙ ap (λ x. or_else (cond (nat_lt h v.born || (((t.horizon == h) || nat_lt 0 f.base) && not (ended_by t.ends h v))) x None) (cond (nat_lt h v.born || ((f.base == 0) && (f.content.horizon == h))) (finmap.get f.content.rows v) None)) e
        ∙ left_as_pruned t.horizon f.content.horizon v.born f.base (finmap.get f.content.rows v) (finmap.get t.ends v) r (lawful.end_later v) (lawful.end_above v) (same_row_sent v r e) (none_of (is_stray t f) (finmap.keys t.rows) calm v (get-key t.rows v r e))
        ∙ ap (λ x. cond (ended_by t.ends h v) None x) (sym e)

    late_row : (v : VersionKey) (s : RowValue) → finmap.get f.content.rows v ≡ Some s → row_is_late t f v ≡ false
    late_row v s e = none_of (row_is_late t f) (finmap.keys f.content.rows) (or_parts (list_any (row_is_late t f) (finmap.keys f.content.rows)) _ timely).0 v (get-key f.content.rows v s e)

    late_end : (v : VersionKey) (d : ℕ) → finmap.get f.content.ends v ≡ Some d → end_is_late t f v ≡ false
    late_end v d e = none_of (end_is_late t f) (finmap.keys f.content.ends) (or_parts (list_any (row_is_late t f) (finmap.keys f.content.rows)) _ timely).1 v (get-key f.content.ends v d e)

    was_there : (v : VersionKey) (r : RowValue) → v.born ≤ readable t → finmap.get (content_after_join t f).rows v ≡ Some r → (x : Option RowValue) → finmap.get t.rows v ≡ x → (finmap.get t.rows v ≡ Some r) × (ended_by t.ends h v ≡ false)
    was_there v r near e None o = absurd (came_late _ _ (nat_le v.born (readable t)) (finmap.get t.rows v) (finmap.get f.content.rows v) r o (le-leb v.born (readable t) near) (late_row v) (sym (row_after v) ∙ e))
    was_there v r near e (Some s) o = left_then (ended_by t.ends h v) (finmap.get t.rows v) r s o (sym (left v s o) ∙ e)

    -- up to the readable mark the join leaves what the prune leaves
    as_pruned : (s : ℕ) → s ≤ readable t → (k : RowKey) → IsAlike (pruned t h) s (content_after_join t f) s k
    as_pruned s soon k = record {
      rows_to = λ v r of e l.
          let o = row_left t h v r e in
          (left v r o.0 ∙ (λ i. cond (o.1 i) None (finmap.get t.rows v)) ∙ o.0, l);
      rows_from = λ v r of e l.
          let o = was_there v r (omega arith) e (finmap.get t.rows v) refl in
          (left_row t h v r o.0 o.1, l);
      ends = λ v r of e l.
          let o = row_left t h v r e in
          ap (at_most s) (get-union version_key_total version_key_same _ _ v
          ∙ (λ i. or_else (get-without_ended t.ends h t.ends v i) (get-without_ended f.content.ends h f.content.ends v i)))
          ∙ same_end_there s h (readable t) (finmap.get t.ends v) (finmap.get f.content.ends v) soon (ap not o.1) (late_end v)
          ∙ ap (at_most s) (sym (end_left t h v o.1));
    }

    same_as_pruned : (s : ℕ) → s ≤ readable t → (k : RowKey) → finmap.get (visible (content_after_join t f) s) k ≡ finmap.get (visible (pruned t h) s) k
    same_as_pruned s soon k = alike_shows (pruned t h) s (content_after_join t f) s k (as_pruned s soon k)

    untouched : h ≤ readable t → prune_touches_past t h ≡ false → KeepsPast t (content_after_join t f)
    unfolding pruned
    untouched within clear k s old soon = same_as_pruned s soon k ∙ untouched_prune t h clear lawful k s old soon

and_false : (a b : Bool) → (a && b) ≡ false → a ≡ true → b ≡ false
and_false true b e k = e
and_false false b e k = absurd (true≢false (sym k))

-- where a join does not touch the past
kept : (t : Content) (f : FragmentValue) → IsLawful t → contents_conflict t f.content ≡ false → join_touches_past t f ≡ false → KeepsPast t (content_after_join t f)
kept t f lawful agree e =
    elim (cases_Bool (nat_le (joined_horizon t f) (readable t))) [
      | inl near ↦
          let a = or_parts (brings_late t f) _ (and_false (nat_le (joined_horizon t f) (readable t)) _ e near) in
          let b = or_parts (leaves_strays t f) _ a.1 in
          untouched t f lawful agree a.0 b.0 (leb-true (joined_horizon t f) (readable t) near) b.1
      | inr far ↦ λ k s old soon. let above = leb-false (joined_horizon t f) (readable t) far in absurd (omega arith)
    ]

pub join_untouched : JoinUntouched
join_untouched t f d lawful e clear =
    elim (not (f.content.log == t.log)) as (λ b. ◌≡◌ {A = Result Content Refusal} (cond b (Err ForeignLog) (cond (not (length f.content.streams == length t.streams)) (Err WrongStreams) rest)) (Ok d) → KeepsPast t d) [
      | true ↦ λ g. absurd cc
      | false ↦ λ g. elim (not (length f.content.streams == length t.streams)) as (λ b. ◌≡◌ {A = Result Content Refusal} (cond b (Err WrongStreams) rest) (Ok d) → KeepsPast t d) [
        | true ↦ λ k. absurd cc
        | false ↦ λ k. elim (nat_lt (readable t) f.base) as (λ b. ◌≡◌ {A = Result Content Refusal} (cond b (Err (Gap f.base (readable t))) (cond (contents_conflict t f.content) (Err Conflict) (Ok (content_after_join t f)))) (Ok d) → KeepsPast t d) [
          | true ↦ λ m. absurd cc
          | false ↦ λ m. elim (contents_conflict t f.content) as (λ b. contents_conflict t f.content ≡ b → ◌≡◌ {A = Result Content Refusal} (cond b (Err Conflict) (Ok (content_after_join t f))) (Ok d) → KeepsPast t d) [
            | true ↦ λ n o. absurd cc
            | false ↦ λ n o. subst (KeepsPast t) (same_Ok (content_after_join t f) d o) (kept t f lawful n clear)
          ] refl m
        ] k
      ] g
    ] e
  where
    rest : Result Content Refusal
    rest = cond (nat_lt (readable t) f.base) (Err (Gap f.base (readable t))) (cond (contents_conflict t f.content) (Err Conflict) (Ok (content_after_join t f)))

-- ---- parts of one history

row_not_late : {X : Type 0} (born p q g h r : ℕ) (x y : Option X) (a b : Option ℕ) (s : X) → Fit born p q x y a b → g ≤ p → h ≤ q → cond (nat_lt r born) (cond (not (at_most h b)) y None) None ≡ Some s → (nat_le born p && (not (is_some (cond (not (at_most g a)) x None)) && (nat_lt (max g h) born || ((r == 0) && (h == max g h))))) ≡ false
row_not_late born p q g h r x y a b s fit gp hq e = grind (arith, nat_tests)

end_not_late : {X : Type 0} (born p q g h r d : ℕ) (x y : Option X) (a b : Option ℕ) → Fit born p q x y a b → cond (not (at_most r (cond (not (at_most h b)) b None))) (cond (not (at_most h b)) b None) None ≡ Some d → (at_most p (Some d) && (not (is_some (cond (not (at_most g a)) a None)) && not (at_most (max g h) (Some d)))) ≡ false
end_not_late born p q g h r d x y a b fit e = grind (arith, nat_tests)

-- at a version: x, y the rows and a, b the ends of two sets of items
stays_as_pruned : {X : Type 0} (born p q g h : ℕ) (x y : Option X) (a b : Option ℕ) (s : X) → Fit born p q x y a b → g ≤ p → h ≤ p → cond (not (at_most g a)) x None ≡ Some s →
    cond (not (at_most (max g h) (or_else a b))) (or_else x y) None ≡ cond (at_most (max g h) (cond (not (at_most g a)) a None)) None (cond (not (at_most g a)) x None)
stays_as_pruned born p q g h x y a b s fit gp hp e = grind (arith, nat_tests)

-- what a join leaves of a row that is astray is not what a prune leaves
stray_differs : {X : Type 0} (g q born base : ℕ) (y : Option X) (a : Option ℕ) (r : X) → (nat_lt g q && ((base == 0) && (nat_le born q && cond (at_most q a) (is_some y) (not (is_some y))))) ≡ true
    → or_else (cond (nat_lt (max g q) born || (((g == max g q) || nat_lt 0 base) && not (at_most (max g q) a))) (Some r) None) (cond (nat_lt (max g q) born || ((base == 0) && (q == max g q))) y None) ≡ cond (at_most (max g q) a) None (Some r)
    → ⊥
stray_differs g q born base y a r stray e = grind (arith, nat_tests)

module _ (config : ConfigValue) (history : History) (is : IsHistory config history) (p q : List Item) (pp : AreItemsOf config history p) (pq : AreItemsOf config history q) (g h r : ℕ) (gp : g ≤ readable (content_of config p g)) (hq : h ≤ readable (content_of config q h)) where
  at : (v : VersionKey) → Fit v.born (readable (content_of config p g)) (readable (content_of config q h)) (finmap.get (rows_of p) v) (finmap.get (rows_of q) v) (finmap.get (ends_of p) v) (finmap.get (ends_of q) v)
  at v =
      fit config (λ e. In e (entries_of config (commits history))) (history_log config history is) p q (readable (content_of config p g)) (readable (content_of config q h)) (items_part config history is p pp) (items_part config history is q pq)
      (complete config (λ e. In e (entries_of config (commits history))) (history_log config history is) p (items_part config history is p pp))
      (complete config (λ e. In e (entries_of config (commits history))) (history_log config history is) q (items_part config history is q pq)) v

  no_late_row : (v : VersionKey) (s : RowValue) → finmap.get (part config q h r).content.rows v ≡ Some s → row_is_late (content_of config p g) (part config q h r) v ≡ false
  no_late_row v s e =
      ap (λ z. nat_le v.born (readable (content_of config p g)) && (not (is_some z) && (nat_lt (max g h) v.born || ((r == 0) && (h == max g h))))) (content_of_row config p g v)
      ∙ row_not_late v.born (readable (content_of config p g)) (readable (content_of config q h)) g h r (finmap.get (rows_of p) v) (finmap.get (rows_of q) v) (finmap.get (ends_of p) v) (finmap.get (ends_of q) v) s (at v) gp hq (sym (part_row config q h r v) ∙ e)

  no_late_end : (v : VersionKey) (d : ℕ) → finmap.get (part config q h r).content.ends v ≡ Some d → end_is_late (content_of config p g) (part config q h r) v ≡ false
  no_late_end v d e =
      (λ i. at_most (readable (content_of config p g)) (e i) && (not (is_some (content_of_end config p g v i)) && not (at_most (max g h) (e i))))
      ∙ end_not_late v.born (readable (content_of config p g)) (readable (content_of config q h)) g h r d (finmap.get (rows_of p) v) (finmap.get (rows_of q) v) (finmap.get (ends_of p) v) (finmap.get (ends_of q) v) (at v) (sym (part_end config q h r v) ∙ e)

  timely : brings_late (content_of config p g) (part config q h r) ≡ false
  timely =
      let c = content_of config p g in
      let f = part config q h r in
      let rows = not_from (list_any (row_is_late c f) (finmap.keys f.content.rows)) (λ y. let w = any_where (row_is_late c f) (finmap.keys f.content.rows) y in let k = key_row f.content.rows w.0 w.1 in true≢false (sym w.2 ∙ no_late_row w.0 k.0 k.1)) in
      let ends = not_from (list_any (end_is_late c f) (finmap.keys f.content.ends)) (λ y. let w = any_where (end_is_late c f) (finmap.keys f.content.ends) y in let k = key_row f.content.ends w.0 w.1 in true≢false (sym w.2 ∙ no_late_end w.0 k.0 k.1)) in
      λ i. rows i || ends i

  module _ (rp : r ≤ readable (content_of config p g)) (base : (r ≡ 0) ⊎ (h ≤ r)) (near : h ≤ readable (content_of config p g)) where
    joined : content_after_join (content_of config p g) (part config q h r) ≡ content_of config (p ++ q) (max g h)
    joined = joined_content_of config (λ e. In e (entries_of config (commits history))) (history_log config history is) p q (items_part config history is p pp) (items_part config history is q pq) g h r gp hq rp base

    row_as_pruned : (v : VersionKey) (s : RowValue) → finmap.get (content_of config p g).rows v ≡ Some s → finmap.get (content_after_join (content_of config p g) (part config q h r)).rows v ≡ cond (ended_by (content_of config p g).ends (max g h) v) None (finmap.get (content_of config p g).rows v)
    row_as_pruned v s e =
        ap (λ (c : Content). finmap.get c.rows v) joined
        ∙ content_of_row config (p ++ q) (max g h) v
        ∙ (λ i. cond (not (at_most (max g h) (ends_of-append p q v i))) (rows_of-append p q v i) None)
        ∙ stays_as_pruned v.born (readable (content_of config p g)) (readable (content_of config q h)) g h (finmap.get (rows_of p) v) (finmap.get (rows_of q) v) (finmap.get (ends_of p) v) (finmap.get (ends_of q) v) s (at v) gp near (sym (content_of_row config p g v) ∙ e)
        ∙ sym (λ i. cond (at_most (max g h) (content_of_end config p g v i)) None (content_of_row config p g v i))

    no_stray : (v : VersionKey) (s : RowValue) → finmap.get (content_of config p g).rows v ≡ Some s → is_stray (content_of config p g) (part config q h r) v ≡ true → ⊥
    no_stray v s e y =
        let c = content_of config p g in
        let f = part config q h r in
        stray_differs g h v.born r (finmap.get f.content.rows v) (finmap.get c.ends v) s y
        (ap (λ x. or_else (cond (nat_lt (max g h) v.born || (((g == max g h) || nat_lt 0 r) && not (ended_by c.ends (max g h) v))) x None) (cond (nat_lt (max g h) v.born || ((r == 0) && (h == max g h))) (finmap.get f.content.rows v) None)) (sym e)
        ∙ sym (row_after c f v)
        ∙ row_as_pruned v s e
        ∙ ap (λ x. cond (ended_by c.ends (max g h) v) None x) e)

    no_strays : leaves_strays (content_of config p g) (part config q h r) ≡ false
    no_strays = not_from _ (λ y.
        let w = any_where (is_stray (content_of config p g) (part config q h r)) (finmap.keys (content_of config p g).rows) y in
        let k = key_row (content_of config p g).rows w.0 w.1 in
        no_stray w.0 k.0 k.1 w.2)

-- where the three tests fail
clear_join : (t : Content) (f : FragmentValue) → brings_late t f ≡ false → (joined_horizon t f ≤ readable t → (leaves_strays t f ≡ false) × (prune_touches_past t (joined_horizon t f) ≡ false)) → join_touches_past t f ≡ false
clear_join t f timely rest = by (nat_le (joined_horizon t f) (readable t)) refl
  where
    by : (b : Bool) → nat_le (joined_horizon t f) (readable t) ≡ b → (b && (brings_late t f || (leaves_strays t f || prune_touches_past t (joined_horizon t f)))) ≡ false
    by true e = let p = rest (leb-true (joined_horizon t f) (readable t) e) in λ i. timely i || (p.0 i || p.1 i)
    by false e = refl

pub honest_join : HonestJoin
honest_join config history is p q g h r a b sa sb near base =
    ap (λ (x : Content). join_touches_past x (part config q h r)) sa.is_content_of ∙ clear_join c (part config q h r) (timely config history is p q sa.of_history sb.of_history g h r gp hq) (λ within. (
      no_strays config history is p q sa.of_history sb.of_history g h r gp hq (subst (λ (x : Content). r ≤ readable x) sa.is_content_of near) base (omega arith),
      honest_prune config history is p g (max g h) c (subst (Represents config history p g) sa.is_content_of sa) within,
    ))
  where
    c : Content
    c = content_of config p g

    gp : g ≤ readable (content_of config p g)
    gp = content_of_within config history p g a sa

    hq : h ≤ readable (content_of config q h)
    hq = content_of_within config history q h b sb
