-- Which contents keep the past of which.
use Rattle.std.proofs.Common.{◌++◌, ◌≡◌, refl, sym, ap, ◌∙◌, subst, ℕ, ◌-◌, true, false, cond, not, Option, Some, None, List, [], ◌∷◌, length, inl, inr, ◌==◌, ◌||◌, ◌<◌, ◌≤◌, max, arith, Ok, Err, Result, nat_le, nat_lt, le-ltb, leb-false, ltb-false, lt-ltb, eqb-true, ◌⊎◌}
use Rattle.std.proofs.lemmas.Bool.{or_parts, cases_lt}
use Rattle.std.proofs.lemmas.Bool.Decides.{nat_tests}
use Rattle.std.specs.FinMap as finmap
use Rattle.std.specs.FinSet as set
use Rattle.hk_model.proofs.Replica.Maps.{version_key_total, version_key_same, row_key_total, row_key_same, get-union}
use Rattle.hk_model.proofs.Replica.Members.{In}
use Rattle.hk_model.proofs.History.Logs.{fact_row, fact_end, row_born, end_dead, row_found, end_found}
use Rattle.hk_model.proofs.History.Histories.{are_commits}
use Rattle.hk_model.proofs.History.Honest.{commits_log, items_part}
use Rattle.hk_model.proofs.History.Complete.{complete}
use Rattle.hk_model.proofs.Replica.Visible.{upto, visible_at}
use Rattle.hk_model.proofs.Replica.Lawful.{closer, least_at, same_Ok, fits_within}
use Rattle.hk_model.proofs.Replica.Chains.{IsAlike, alike_shows}
use Rattle.hk_model.proofs.Replica.Steps.{prune_step}
use Rattle.hk_model.proofs.Laws.{join_law_proof, represents_both}
use Rattle.std.proofs.lemmas.List.FromFn.{length-map-range_with_len}
use Rattle.hk_types.specs.Values.{RowValue, ConfigValue, same_row}
use Rattle.hk_types.specs.declared.version_key.VersionKey.{VersionKey}
use Rattle.hk_types.specs.declared.faults.Refusal.{Refusal}
use Rattle.hk_types.specs.declared.faults.Refusal.TheVariants.{ForeignLog, WrongStreams, Gap, Conflict, AheadOfMark, TooOld, NotYet}
use Rattle.hk_log.specs.Items.{EntryValue}
use Rattle.hk_log.specs.declared.item.Item.{Item}
use Rattle.hk_log.specs.declared.item.Item.TheVariants.{Commit, Closed}
use Rattle.hk_model.specs.History.Rows.{RowKey}
use Rattle.hk_model.specs.History.Facts.{rows_of, ends_of}
use Rattle.hk_model.specs.History.Histories.{History, IsHistory, commits, entries_of, table_at}
use Rattle.hk_model.specs.Replica.Maps.{or_else, maps_conflict}
use Rattle.hk_model.specs.Replica.Streams.{StreamContent, stream_of, streams_of, stream_at, adds_nothing}
use Rattle.hk_model.specs.Replica.Content.{Content, readable, least_closed, at_most, without_ended}
use Rattle.hk_model.specs.Replica.ContentOf.{content_of}
use Rattle.hk_model.specs.Replica.Fragments.{part}
use Rattle.hk_model.specs.Replica.Items.{stream_no, wrong_log}
use Rattle.hk_model.specs.declared.took.Took.{Took}
use Rattle.hk_model.specs.declared.took.Took.TheVariants.{Taken, Repeated}
use Rattle.hk_model.specs.declared.query.Query.{Query}
use Rattle.hk_model.specs.declared.query.Query.TheVariants.{Get}
use Rattle.hk_model.specs.Replica.Answers.{AnswerValue, answer, visible, reply}
use Rattle.hk_model.specs.Replica.Answers.AnswerValue.{One}
use Rattle.hk_model.specs.Replica.Rules.{with_items, entry_conflicts, take_result_unless, absorb_result, content_after_join, contents_conflict}
use Rattle.hk_model.specs.Replica.Replicas.{Represents}
use Rattle.hk_model.specs.Replica.Past.{IsLater, KeepsPast}
use Rattle.hk_model.specs.Laws.{PastPasses, PastReplies, TakenPast, PrunedLater, JoinedLater, HistoryPast, JoinedPast, PrunedPast}

pub later_itself : (c : Content) → IsLater c c
later_itself c = (omega arith, omega arith)

pub past_itself : (c : Content) → KeepsPast c c
past_itself c k t old soon = refl

pub past_passes : PastPasses
past_passes c d e l m p q =
    let a = l.0 in
    let b = l.1 in
    let x = m.0 in
    let y = m.1 in
    ((omega arith, omega arith), λ k t old soon. q k t old (omega arith) ∙ p k t (omega arith) soon)

-- ---- replies

-- a reply within the times that can be read
pub replied : (c : Content) (t : ℕ) (q : Query) → c.horizon ≤ t → t ≤ readable c → reply c t q ≡ Ok (answer (visible c t) q)
replied c t q old soon = λ i. cond (le-ltb t c.horizon old i) (Err (TooOld c.horizon)) (cond (le-ltb (readable c) t soon i) (Err (NotYet (readable c))) (Ok (answer (visible c t) q)))

same_One : (x y : Option RowValue) → ◌≡◌ {A = Result AnswerValue Refusal} (Ok (One x)) (Ok (One y)) → x ≡ y
same_One x y e = cc

pub past_replies : PastReplies
past_replies c d l =
    let a = l.0 in
    let b = l.1 in (
      λ p t old soon q.
          replied d t q old (omega arith)
          ∙ ap (λ x. Ok (answer x q)) (finmap.same_map row_key_total row_key_same (visible d t) (visible c t) (λ k. p k t old soon))
          ∙ sym (replied c t q (omega arith) soon),
      λ f k t old soon. same_One _ _ (sym (replied d t (Get k.table k.key) old (omega arith)) ∙ f t old soon (Get k.table k.key) ∙ replied c t (Get k.table k.key) (omega arith) soon),
    )

-- ---- an absorb

-- the closed time of a stream is at least the readable mark
least_reach : (streams : List StreamContent) (n : ℕ) → n ≤ length streams → least_closed streams ≤ (stream_at streams n).closed
least_reach [] n l = omega arith
least_reach (s ∷ more) n l = least_at (s ∷ more) (n - 1) (omega arith)

-- items whose entries are all above a time add no fact up to it
above_alike : (c : Content) (items : List Item) (t : ℕ) → ((e : EntryValue) → In (Commit e) items → t < e.time) → (k : RowKey) → IsAlike c t (with_items c items) t k
above_alike c items t late k = record {
  rows_to = λ v r of e l. (get-union version_key_total version_key_same c.rows (rows_of items) v ∙ ap (λ x. or_else x (finmap.get (rows_of items) v)) e, l);
  rows_from = λ v r of e l. (old v r (finmap.get c.rows v) refl (sym (get-union version_key_total version_key_same c.rows (rows_of items) v) ∙ e) l, l);
  ends = λ v r of e l. ap (at_most t) (get-union version_key_total version_key_same c.ends (ends_of items) v) ∙ late_end (finmap.get c.ends v) (finmap.get (ends_of items) v) (λ d e. new_end v d e);
}
  where
    new_row : (v : VersionKey) (r : RowValue) → finmap.get (rows_of items) v ≡ Some r → t < v.born
    new_row v r e = let f = fact_row v r items (row_found items v r e) in let b = row_born v r f.0 f.2 in let l = late f.0 f.1 in omega arith

    new_end : (v : VersionKey) (d : ℕ) → finmap.get (ends_of items) v ≡ Some d → t < d
    new_end v d e = let f = fact_end v d items (end_found items v d e) in let b = end_dead v d f.0 f.2 in let l = late f.0 f.1 in omega arith

    old : (v : VersionKey) (r : RowValue) (x : Option RowValue) → finmap.get c.rows v ≡ x → or_else x (finmap.get (rows_of items) v) ≡ Some r → v.born ≤ t → finmap.get c.rows v ≡ Some r
    old v r None s e l = let m = new_row v r e in absurd (omega arith)
    old v r (Some a) s e l = s ∙ e

    late_end : (x y : Option ℕ) → ((d : ℕ) → y ≡ Some d → t < d) → at_most t (or_else x y) ≡ at_most t x
    late_end x y above = grind (arith, nat_tests)

with_items_later : (c : Content) (items : List Item) → IsLater c (with_items c items)
with_items_later c items =
    let x = (closer c.streams (streams_of (length c.streams) items) (sym (length-map-range_with_len (stream_of items) 1 (length c.streams)))).0 in
    (omega arith, x)

with_items_past : (c : Content) (items : List Item) → ((e : EntryValue) → In (Commit e) items → readable c < e.time) → KeepsPast c (with_items c items)
with_items_past c items late k t old soon =
    alike_shows c t (with_items c items) t k (above_alike c items t (λ e i. let l = late e i in omega arith) k)

absorbed_past : (c : Content) (i : Item) → stream_no i ≤ length c.streams → (told : Took) (d : Content) → absorb_result c i ≡ Ok (told, d) → IsLater c d × KeepsPast c d
absorbed_past c (Commit e) within told d eq =
    elim (set.contains (stream_at c.streams e.stream).taken e.number) as (λ b. ◌≡◌ {A = Result (Took × Content) Refusal} (cond b (Ok (Repeated, c)) (cond (entry_conflicts c e) (Err Conflict) (Ok (Taken, with_items c (Commit e ∷ []))))) (Ok (told, d)) → IsLater c d × KeepsPast c d) [
      | true ↦ λ f. let s = ap (λ (z : Took × Content). z.1) (same_Ok (Repeated, c) (told, d) f) in subst (λ (x : Content). IsLater c x × KeepsPast c x) s (later_itself c, past_itself c)
      | false ↦ λ f. elim (entry_conflicts c e) as (λ b. entry_conflicts c e ≡ b → ◌≡◌ {A = Result (Took × Content) Refusal} (cond b (Err Conflict) (Ok (Taken, with_items c (Commit e ∷ [])))) (Ok (told, d)) → IsLater c d × KeepsPast c d) [
        | true ↦ λ t g. absurd cc
        | false ↦ λ t g.
            let s = ap (λ (z : Took × Content). z.1) (same_Ok (Taken, with_items c (Commit e ∷ [])) (told, d) g) in
            let late = leb-false e.time (stream_at c.streams e.stream).closed (or_parts (maps_conflict same_row c.rows (rows_of (Commit e ∷ [])) || maps_conflict (λ a b. a == b) c.ends (ends_of (Commit e ∷ []))) (nat_le e.time (stream_at c.streams e.stream).closed) t).1 in
            let least = least_reach c.streams e.stream within in
            let after : readable c < e.time = omega arith in
            subst (λ (x : Content). IsLater c x × KeepsPast c x) s (with_items_later c (Commit e ∷ []), with_items_past c (Commit e ∷ []) (λ f i. elim i [ inl n ↦ let k : f ≡ e = cc in subst (λ (g : EntryValue). readable c < g.time) (sym k) after | inr z ↦ elim z [ ] ]))
      ] refl f
    ] eq
absorbed_past c (Closed m) within told d eq =
    let s = ap (λ (z : Took × Content). z.1) (same_Ok (cond (adds_nothing (stream_at c.streams m.stream) m.count m.upto) Repeated Taken, with_items c (Closed m ∷ [])) (told, d) eq) in
    subst (λ (x : Content). IsLater c x × KeepsPast c x) s (with_items_later c (Closed m ∷ []), with_items_past c (Closed m ∷ []) (λ f i. elim i [ inl n ↦ cc | inr z ↦ elim z [ ] ]))

pub taken_past : TakenPast
taken_past c i told d e = by (wrong_log c.log (length c.streams) i) refl e
  where
    by : (x : Option Refusal) → wrong_log c.log (length c.streams) i ≡ x → take_result_unless c i x ≡ Ok (told, d) → IsLater c d × KeepsPast c d
    by (Some why) m f = absurd cc
    by None m f = absorbed_past c i (fits_within c.log (length c.streams) i m) told d f

-- ---- a prune and a join

pub pruned_later : PrunedLater
pruned_later c h d e =
    elim (nat_lt (readable c) h) as (λ b. ◌≡◌ {A = Result Content Refusal} (cond b (Err (AheadOfMark (readable c))) (cond (nat_le h c.horizon) (Ok c) (Ok after))) (Ok d) → IsLater c d) [
      | true ↦ λ f. absurd cc
      | false ↦ λ f. elim (nat_le h c.horizon) as (λ b. nat_le h c.horizon ≡ b → ◌≡◌ {A = Result Content Refusal} (cond b (Ok c) (Ok after)) (Ok d) → IsLater c d) [
        | true ↦ λ t g. let s = same_Ok c d g in subst (IsLater c) s (later_itself c)
        | false ↦ λ t g. let s = same_Ok after d g in let l = leb-false h c.horizon t in subst (IsLater c) s (omega arith, omega arith)
      ] refl f
    ] e
  where
    after : Content
    after = record c { horizon = h; rows = without_ended c.ends h c.rows; ends = without_ended c.ends h c.ends }

pub joined_later : JoinedLater
joined_later t f d e =
    elim (not (f.content.log == t.log)) as (λ b. ◌≡◌ {A = Result Content Refusal} (cond b (Err ForeignLog) (cond (not (length f.content.streams == length t.streams)) (Err WrongStreams) rest)) (Ok d) → IsLater t d) [
      | true ↦ λ g. absurd cc
      | false ↦ λ g. elim (length f.content.streams == length t.streams) as (λ b. (length f.content.streams == length t.streams) ≡ b → ◌≡◌ {A = Result Content Refusal} (cond (not b) (Err WrongStreams) rest) (Ok d) → IsLater t d) [
        | true ↦ λ n k. elim (nat_lt (readable t) f.base) as (λ b. ◌≡◌ {A = Result Content Refusal} (cond b (Err (Gap f.base (readable t))) (cond (contents_conflict t f.content) (Err Conflict) (Ok (content_after_join t f)))) (Ok d) → IsLater t d) [
          | true ↦ λ m. absurd cc
          | false ↦ λ m. elim (contents_conflict t f.content) as (λ b. ◌≡◌ {A = Result Content Refusal} (cond b (Err Conflict) (Ok (content_after_join t f))) (Ok d) → IsLater t d) [
            | true ↦ λ o. absurd cc
            | false ↦ λ o.
                let s = same_Ok (content_after_join t f) d o in
                let x = (closer t.streams f.content.streams (sym (eqb-true (length f.content.streams) (length t.streams) n))).0 in
                subst (IsLater t) s (omega arith, x)
          ] m
        ] k
        | false ↦ λ n k. absurd cc
      ] refl g
    ] e
  where
    rest : Result Content Refusal
    rest = cond (nat_lt (readable t) f.base) (Err (Gap f.base (readable t))) (cond (contents_conflict t f.content) (Err Conflict) (Ok (content_after_join t f)))

-- ---- parts of one history

-- what represents items shows the primary's rows
shows_tables : (config : ConfigValue) (h : History) → IsHistory config h → (p : List Item) (g : ℕ) (c : Content) → Represents config h p g c → (t : ℕ) → c.horizon ≤ t → t ≤ readable c → visible c t ≡ table_at (commits h) t
shows_tables config h is p g c s t old soon =
    let cut = upto config t (commits h) (are_commits config h is) in
    let own = items_part config h is p s.of_history in
    let past : g ≤ t = subst (λ (x : Content). x.horizon ≤ t) s.is_content_of old in
    let near : t ≤ readable (content_of config p g) = subst (λ (x : Content). t ≤ readable x) s.is_content_of soon in
    ap (λ (x : Content). visible x t) s.is_content_of
    ∙ visible_at config (commits h) (are_commits config h is) p own g t past (λ e i l. complete config (λ e. In e (entries_of config (commits h))) (commits_log config (commits h) (are_commits config h is)) p own e i (omega arith)) cut.0 cut.1

pub history_past : HistoryPast
history_past config h is p q g k a b sa sb l key t old soon =
    let x = l.0 in
    let y = l.1 in
    ap (λ m. finmap.get m key) (shows_tables config h is q k b sb t old (omega arith) ∙ sym (shows_tables config h is p g a sa t (omega arith) soon))

pub joined_past : JoinedPast
joined_past config h is p q g k r a b sa sb near base =
    let e = join_law_proof config h is p q g k r a b sa sb near base in
    let l = joined_later a (part config q k r) (content_of config (p ++ q) (max g k)) e in
    (content_of config (p ++ q) (max g k), e, l, history_past config h is p (p ++ q) g (max g k) a (content_of config (p ++ q) (max g k)) sa (represents_both config h is p q g k a b sa sb) l)

pub pruned_past : PrunedPast
pruned_past config h is p g k a sa within =
    let d = prune_step config h p g k a sa within in
    let l = pruned_later a k d.0 d.1 in
    (d.0, d.1, l, history_past config h is p p g (max g k) a d.0 sa d.2 l)

-- ---- answers

-- a time at which a reply is an answer can be read
answered : (c : Content) (t : ℕ) (q : Query) (told : AnswerValue) → reply c t q ≡ Ok told → (c.horizon ≤ t) × (t ≤ readable c)
answered c t q told e =
    elim (nat_lt t c.horizon) as (λ b. nat_lt t c.horizon ≡ b → ◌≡◌ {A = Result AnswerValue Refusal} (cond b (Err (TooOld c.horizon)) (cond (nat_lt (readable c) t) (Err (NotYet (readable c))) (Ok (answer (visible c t) q)))) (Ok told) → (c.horizon ≤ t) × (t ≤ readable c)) [
      | true ↦ λ n f. absurd cc
      | false ↦ λ n f. elim (nat_lt (readable c) t) as (λ b. nat_lt (readable c) t ≡ b → ◌≡◌ {A = Result AnswerValue Refusal} (cond b (Err (NotYet (readable c))) (Ok (answer (visible c t) q))) (Ok told) → (c.horizon ≤ t) × (t ≤ readable c)) [
        | true ↦ λ m g. absurd cc
        | false ↦ λ m g. (ltb-false t c.horizon n, ltb-false (readable c) t m)
      ] refl f
    ] refl e

pub answer_stays : (c d : Content) → IsLater c d → KeepsPast c d → (t : ℕ) (q : Query) (told : AnswerValue) → reply c t q ≡ Ok told → (reply d t q ≡ Ok told) ⊎ (reply d t q ≡ Err (TooOld d.horizon))
answer_stays c d l p t q told e =
    let at = answered c t q told e in
    let soon = at.1 in
    elim (cases_lt t d.horizon) [
      | inl below ↦ inr (λ i. cond (lt-ltb t d.horizon below i) (Err (TooOld d.horizon)) (cond (nat_lt (readable d) t) (Err (NotYet (readable d))) (Ok (answer (visible d t) q))))
      | inr old ↦ inl ((past_replies c d l).0 p t old soon q ∙ e)
    ]
