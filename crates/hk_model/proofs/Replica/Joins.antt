-- Joins, prunings and deliveries of parts of one log.
use Rattle.std.proofs.Common.{◌≡◌, refl, sym, ap, ◌∙◌, subst, ℕ, Bool, true, false, cond, not, Option, Some, None, List, [], ◌∷◌, ◌++◌, length, ◌⊎◌, ◌==◌, ◌||◌, ◌&&◌, ◌≤◌, max, arith, Ok, Err, Result, nat_lt, nat_le, le-ltb, eq-eqb}
use Rattle.std.proofs.lemmas.Bool.Decides.{nat_tests}
use Rattle.std.proofs.lemmas.List.FromFn.{length-map-range_with_len}
use Rattle.std.specs.Cmp.Lexicographic.{pointwise}
use Rattle.std.specs.FinMap as finmap
use Rattle.hk_model.proofs.Replica.Maps.{version_key_total, version_key_same, get-union, get-retain, get-without_ended, no_entry_conflict, find-append}
use Rattle.hk_model.proofs.Replica.Points.{Fit, ends_join, rows_join, prune_twice}
use Rattle.hk_model.proofs.Replica.Sets.{row_facts-append, end_facts-append, all_together-streams_of}
use Rattle.hk_model.proofs.History.Logs.{IsOneLog, IsPart, fit}
use Rattle.hk_model.proofs.History.Complete.{complete}
use Rattle.hk_model.specs.Replica.Maps.{or_else, values_conflict}
use Rattle.hk_types.specs.Values.{RowValue, ConfigValue}
use Rattle.hk_types.specs.declared.version_key.VersionKey.{VersionKey}
use Rattle.hk_types.specs.Values.{same_row}
use Rattle.hk_model.specs.History.Rows.{version_key_cmp}
use Rattle.hk_log.specs.Items.{EntryValue}
use Rattle.hk_log.specs.declared.item.Item.{Item}
use Rattle.hk_model.specs.History.Facts.{row_facts, end_facts, rows_of, ends_of}
use Rattle.hk_model.specs.Replica.Streams.{stream_of, streams_of}
use Rattle.hk_model.specs.Replica.Content.{Content, readable, ended_by, at_most, without_ended}
use Rattle.hk_model.specs.Replica.ContentOf.{content_of}
use Rattle.hk_model.specs.Replica.Fragments.{part}
use Rattle.hk_model.specs.Replica.Rules.{join_result, content_after_join, contents_conflict, prune_result}
use Rattle.hk_types.specs.declared.faults.Refusal.{Refusal}
use Rattle.hk_types.specs.declared.faults.Refusal.TheVariants.{ForeignLog, WrongStreams, Gap, Conflict, AheadOfMark}

pub rows_of-append : (p q : List Item) (v : VersionKey) → finmap.get (rows_of (p ++ q)) v ≡ or_else (finmap.get (rows_of p) v) (finmap.get (rows_of q) v)
rows_of-append p q v =
    finmap.get-from_entries version_key_total (row_facts (p ++ q)) v
    ∙ ap (finmap.Entries.find version_key_cmp v) (row_facts-append p q)
    ∙ find-append version_key_cmp v (row_facts p) (row_facts q)
    ∙ sym (λ i. or_else (finmap.get-from_entries version_key_total (row_facts p) v i) (finmap.get-from_entries version_key_total (row_facts q) v i))

pub ends_of-append : (p q : List Item) (v : VersionKey) → finmap.get (ends_of (p ++ q)) v ≡ or_else (finmap.get (ends_of p) v) (finmap.get (ends_of q) v)
ends_of-append p q v =
    finmap.get-from_entries version_key_total (end_facts (p ++ q)) v
    ∙ ap (finmap.Entries.find version_key_cmp v) (end_facts-append p q)
    ∙ find-append version_key_cmp v (end_facts p) (end_facts q)
    ∙ sym (λ i. or_else (finmap.get-from_entries version_key_total (end_facts p) v i) (finmap.get-from_entries version_key_total (end_facts q) v i))

-- what a content and a part answer at a version key
pub content_of_row : (config : ConfigValue) (p : List Item) (h : ℕ) (v : VersionKey) → finmap.get (content_of config p h).rows v ≡ cond (not (at_most h (finmap.get (ends_of p) v))) (finmap.get (rows_of p) v) None
content_of_row config p h v = get-without_ended (ends_of p) h (rows_of p) v

pub content_of_end : (config : ConfigValue) (p : List Item) (h : ℕ) (v : VersionKey) → finmap.get (content_of config p h).ends v ≡ cond (not (at_most h (finmap.get (ends_of p) v))) (finmap.get (ends_of p) v) None
content_of_end config p h v = get-without_ended (ends_of p) h (ends_of p) v

pub part_row : (config : ConfigValue) (p : List Item) (h r : ℕ) (v : VersionKey) → finmap.get (part config p h r).content.rows v ≡ cond (nat_lt r v.born) (cond (not (at_most h (finmap.get (ends_of p) v))) (finmap.get (rows_of p) v) None) None
part_row config p h r v = get-retain version_key_total version_key_same (content_of config p h).rows (λ w. nat_lt r w.born) v ∙ ap (λ x. cond (nat_lt r v.born) x None) (content_of_row config p h v)

pub part_end : (config : ConfigValue) (p : List Item) (h r : ℕ) (v : VersionKey) → finmap.get (part config p h r).content.ends v ≡ cond (not (at_most r (cond (not (at_most h (finmap.get (ends_of p) v))) (finmap.get (ends_of p) v) None))) (cond (not (at_most h (finmap.get (ends_of p) v))) (finmap.get (ends_of p) v) None) None
part_end config p h r v = get-without_ended (content_of config p h).ends r (content_of config p h).ends v ∙ ap (λ x. cond (not (at_most r x)) x None) (content_of_end config p h v)

pub alike_differ : {X : Type 0} (alike : X → X → Bool) (x y : Option X) → ((a b : X) → x ≡ Some a → y ≡ Some b → alike a b ≡ true) → values_conflict alike x y ≡ false
alike_differ alike None y f = refl
alike_differ alike (Some a) None f = refl
alike_differ alike (Some a) (Some b) f = ap not (f a b refl refl)

same_bytes : (xs : List ℕ) → pointwise (λ x y. x == y) xs xs ≡ true
same_bytes [] = refl
same_bytes (x ∷ xs) = (λ i. eq-eqb x x refl i && same_bytes xs i)

pub same_row_if : (a b : RowValue) → a ≡ b → same_row a b ≡ true
same_row_if a b e = subst (λ c. same_row a c ≡ true) e (λ i. eq-eqb a.tag a.tag refl i && same_bytes a.body i)

module _ (config : ConfigValue) (IsEntry : EntryValue → Type 0) (log : IsOneLog config IsEntry) (p q : List Item) (pp : IsPart IsEntry p) (pq : IsPart IsEntry q) (g h r : ℕ) (gp : g ≤ readable (content_of config p g)) (hq : h ≤ readable (content_of config q h)) (rp : r ≤ readable (content_of config p g)) (base : (r ≡ 0) ⊎ (h ≤ r)) where
  at : (v : VersionKey) → Fit v.born (readable (content_of config p g)) (readable (content_of config q h)) (finmap.get (rows_of p) v) (finmap.get (rows_of q) v) (finmap.get (ends_of p) v) (finmap.get (ends_of q) v)
  at v = fit config IsEntry log p q (readable (content_of config p g)) (readable (content_of config q h)) pp pq (complete config IsEntry log p pp) (complete config IsEntry log q pq) v

  joined_ends : (content_after_join (content_of config p g) (part config q h r)).ends ≡ (content_of config (p ++ q) (max g h)).ends
  joined_ends = finmap.same_map version_key_total version_key_same _ _ (λ v.
      get-union version_key_total version_key_same (without_ended (content_of config p g).ends (max g h) (content_of config p g).ends) (without_ended (part config q h r).content.ends (max g h) (part config q h r).content.ends) v
      ∙ (λ i. or_else
      ((get-without_ended (content_of config p g).ends (max g h) (content_of config p g).ends v ∙ ap (λ x. cond (not (at_most (max g h) x)) x None) (content_of_end config p g v)) i)
      ((get-without_ended (part config q h r).content.ends (max g h) (part config q h r).content.ends v ∙ ap (λ x. cond (not (at_most (max g h) x)) x None) (part_end config q h r v)) i))
      ∙ ends_join v.born _ _ g h r (finmap.get (rows_of p) v) (finmap.get (rows_of q) v) (finmap.get (ends_of p) v) (finmap.get (ends_of q) v) (at v) gp hq rp base
      ∙ sym (content_of_end config (p ++ q) (max g h) v ∙ ap (λ x. cond (not (at_most (max g h) x)) x None) (ends_of-append p q v)))

  joined_rows : (content_after_join (content_of config p g) (part config q h r)).rows ≡ (content_of config (p ++ q) (max g h)).rows
  joined_rows = finmap.same_map version_key_total version_key_same _ _ (λ v.
      get-union version_key_total version_key_same _ _ v
      ∙ (λ i. or_else
      ((get-retain version_key_total version_key_same (content_of config p g).rows (λ w. nat_lt (max g h) w.born || (((g == max g h) || nat_lt 0 r) && not (ended_by (content_of config p g).ends (max g h) w))) v
      ∙ (λ j. cond (nat_lt (max g h) v.born || (((g == max g h) || nat_lt 0 r) && not (at_most (max g h) (content_of_end config p g v j)))) (content_of_row config p g v j) None)) i)
      ((get-retain version_key_total version_key_same (part config q h r).content.rows (λ w. nat_lt (max g h) w.born || ((r == 0) && (h == max g h))) v
      ∙ (λ j. cond (nat_lt (max g h) v.born || ((r == 0) && (h == max g h))) (part_row config q h r v j) None)) i))
      ∙ rows_join v.born _ _ g h r (finmap.get (rows_of p) v) (finmap.get (rows_of q) v) (finmap.get (ends_of p) v) (finmap.get (ends_of q) v) (at v) gp hq rp base
      ∙ sym (content_of_row config (p ++ q) (max g h) v ∙ (λ i. cond (not (at_most (max g h) (ends_of-append p q v i))) (rows_of-append p q v i) None)))

  pub joined_content_of : content_after_join (content_of config p g) (part config q h r) ≡ content_of config (p ++ q) (max g h)
  joined_content_of = λ i. record { log = config.log; horizon = max g h; rows = joined_rows i; ends = joined_ends i; streams = all_together-streams_of config.streams p q i }

  kept_Some : {X : Type 0} (b : Bool) (x : Option X) (s : X) → cond b x None ≡ Some s → x ≡ Some s
  kept_Some true x s e = e
  kept_Some false x s e = cc

  no_contents_conflict : contents_conflict (content_of config p g) (part config q h r).content ≡ false
  no_contents_conflict =
      λ i. no_entry_conflict version_key_total version_key_same same_row (content_of config p g).rows (part config q h r).content.rows (λ v.
      alike_differ same_row (finmap.get (content_of config p g).rows v) (finmap.get (part config q h r).content.rows v) (λ a b e f.
      let x = kept_Some _ (finmap.get (rows_of p) v) a (sym (content_of_row config p g v) ∙ e) in
      let y = kept_Some _ (finmap.get (rows_of q) v) b (kept_Some _ (cond (not (at_most h (finmap.get (ends_of q) v))) (finmap.get (rows_of q) v) None) b (sym (part_row config q h r v) ∙ f)) in
      same_row_if a b ((at v).one_row a b x y))) i
      || no_entry_conflict version_key_total version_key_same (λ c d. c == d) (content_of config p g).ends (part config q h r).content.ends (λ v.
      alike_differ (λ c d. c == d) (finmap.get (content_of config p g).ends v) (finmap.get (part config q h r).content.ends v) (λ a b e f.
      let x = kept_Some _ (finmap.get (ends_of p) v) a (sym (content_of_end config p g v) ∙ e) in
      let y = kept_Some _ (finmap.get (ends_of q) v) b (kept_Some _ (cond (not (at_most h (finmap.get (ends_of q) v))) (finmap.get (ends_of q) v) None) b (sym (part_end config q h r v) ∙ f)) in
      eq-eqb a b ((at v).one_end a b x y))) i

  same_number : length (streams_of config.streams q) ≡ length (streams_of config.streams p)
  same_number = length-map-range_with_len (stream_of q) 1 config.streams ∙ sym (length-map-range_with_len (stream_of p) 1 config.streams)

  pub joined_law : join_result (content_of config p g) (part config q h r) ≡ Ok (content_of config (p ++ q) (max g h))
  joined_law = λ i. cond (not (eq-eqb config.log config.log refl i)) (Err ForeignLog) (cond (not (eq-eqb (length (streams_of config.streams q)) (length (streams_of config.streams p)) same_number i)) (Err WrongStreams) (cond (le-ltb (readable (content_of config p g)) r rp i) (Err (Gap r (readable (content_of config p g)))) (cond (no_contents_conflict i) (Err Conflict) (Ok (joined_content_of i)))))

-- a pruning of a content is the content at the greater horizon
pub pruned_law : (config : ConfigValue) (p : List Item) (g h : ℕ) → h ≤ readable (content_of config p g) → prune_result (content_of config p g) h ≡ Ok (content_of config p (max g h))
pruned_law config p g h within =
    (λ i. cond (le-ltb (readable (content_of config p g)) h within i) (Err (AheadOfMark (readable (content_of config p g)))) (cond (nat_le h g) (Ok (content_of config p g)) (Ok after)))
    ∙ elim (nat_le h g) as (λ b. nat_le h g ≡ b → ◌≡◌ {A = Result Content Refusal} (cond b (Ok (content_of config p g)) (Ok after)) (Ok (content_of config p (max g h)))) [
      | true ↦ λ t. let e : g ≡ max g h = grind (arith, nat_tests) in ap (λ k. Ok (content_of config p k)) e
      | false ↦ λ t. let l : g ≤ h = grind (arith, nat_tests) in let e : h ≡ max g h = grind (arith, nat_tests) in ap Ok (same l) ∙ ap (λ k. Ok (content_of config p k)) e
    ] refl
  where
    after : Content
    after = record (content_of config p g) { horizon = h; rows = without_ended (content_of config p g).ends h (content_of config p g).rows; ends = without_ended (content_of config p g).ends h (content_of config p g).ends }

    twice : {X : Type 0} (l : g ≤ h) (facts : finmap.FinMap version_key_cmp X) → without_ended (content_of config p g).ends h (without_ended (ends_of p) g facts) ≡ without_ended (ends_of p) h facts
    twice l facts = finmap.same_map version_key_total version_key_same _ _ (λ v.
        get-without_ended (content_of config p g).ends h (without_ended (ends_of p) g facts) v
        ∙ (λ i. cond (not (at_most h (content_of_end config p g v i))) (get-without_ended (ends_of p) g facts v i) None)
        ∙ prune_twice g h (finmap.get facts v) (finmap.get (ends_of p) v) l
        ∙ sym (get-without_ended (ends_of p) h facts v))

    same : g ≤ h → after ≡ content_of config p h
    same l = λ i. record { log = config.log; horizon = h; rows = twice l (rows_of p) i; ends = twice l (ends_of p) i; streams = streams_of config.streams p }
