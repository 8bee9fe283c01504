-- Each operation's content is lawful where those that it came from are.
use Rattle.std.proofs.Common.{◌≡◌, refl, sym, ap, ◌∙◌, subst, ℕ, zero, suc, ◌-◌, Bool, true, false, cond, not, Option, Some, None, List, [], ◌∷◌, ◌++◌, length, ◌⊎◌, inl, inr, ◌<◌, ◌≤◌, max, arith, nat_le, leb-false, All, nat_cmp, get_or, nat_lt, ltb-true, ltb-false, ◌||◌, ◌==◌, Result, Ok, Err, map, eqb-true}
use Rattle.std.proofs.lemmas.List.Elements.{All-cons, All-nil}
use Rattle.std.proofs.lemmas.List.FromFn.{length-map-range_with_len}
use Rattle.std.specs.Cmp.{nat_cmp_total as nat_total}
use Rattle.std.specs.FinMap as finmap
use Rattle.std.specs.FinSet as set
use Rattle.hk_model.proofs.History.Writes.{All_In}
use Rattle.hk_model.specs.Replica.ContentOf.{content_of}
use Rattle.hk_model.specs.Replica.Items.{log_of, stream_no, wrong_log}
use Rattle.hk_model.specs.declared.took.Took.TheVariants.{Taken, Repeated}
use Rattle.hk_model.specs.declared.took.Took.{Took}
use Rattle.hk_types.specs.declared.faults.Refusal.TheVariants.{ForeignLog, WrongStreams, Gap, Conflict, AheadOfMark}
use Rattle.hk_types.specs.declared.faults.Refusal.{Refusal}
use Rattle.hk_model.proofs.Replica.Maps.{version_key_total, version_key_same, get-union, get-retain, get-without_ended}
use Rattle.hk_model.proofs.Replica.Members.{In, In-map}
use Rattle.std.proofs.lemmas.Bool.{and_parts, or_parts}
use Rattle.std.specs.List.{list_all, range_with_len}
use Rattle.hk_model.proofs.History.Logs.{fact_row, fact_end, row_found, end_found, row_born}
use Rattle.hk_model.specs.Replica.Maps.{or_else, union, maps_conflict}
use Rattle.hk_types.specs.Values.{RowValue, ConfigValue}
use Rattle.hk_types.specs.declared.version_key.VersionKey.{VersionKey}
use Rattle.hk_types.specs.Values.{same_row}
use Rattle.hk_model.specs.History.Rows.{version_key_cmp}
use Rattle.hk_log.specs.Items.{EntryValue, MarkValue, IsEntry, was_born}
use Rattle.hk_log.specs.declared.item.Item.{Item}
use Rattle.hk_log.specs.declared.item.Item.TheVariants.{Commit, Closed}
use Rattle.hk_model.specs.History.Facts.{rows_of, ends_of, entry_ends, row_facts, end_facts}
use Rattle.hk_model.specs.Replica.Streams.{StreamContent, covers, by_count, stream_with, together, all_together, stream_of, streams_of, unknown, stream_at, adds_nothing, marks_of}
use Rattle.hk_model.specs.Replica.Content.{Content, readable, least_closed, at_most, without_ended}
use Rattle.hk_model.specs.Replica.Fragments.{FragmentValue, cut, part}
use Rattle.hk_model.specs.Replica.Rules.{content_after_join, with_items, join_result, contents_conflict, take_result, take_result_unless, absorb_result, entry_conflicts, prune_result, gather_result, gather_result_unless, first_wrong_log, conflict}
use Rattle.hk_model.specs.Replica.Lawful.{IsLawfulStream, IsLawful, IsLawfulFragment, IsItem}

either_Some : {X : Type 0} (x y : Option X) (r : X) → or_else x y ≡ Some r → (x ≡ Some r) ⊎ (y ≡ Some r)
either_Some None y r e = inr e
either_Some (Some a) y r e = inl e

kept : {X : Type 0} (b : Bool) (x : Option X) (r : X) → cond b x None ≡ Some r → (b ≡ true) × (x ≡ Some r)
kept true x r e = (refl, e)
kept false x r e = absurd cc

above : (t d : ℕ) → not (at_most t (Some d)) ≡ true → t < d
above t d e = leb-false d t (not_true (nat_le d t) e)
  where
    not_true : (b : Bool) → not b ≡ true → b ≡ false
    not_true true e = sym e
    not_true false e = refl

-- an end that is left is above the time
left_end : (ends : finmap.FinMap version_key_cmp ℕ) (t : ℕ) (v : VersionKey) (d : ℕ) → finmap.get (without_ended ends t ends) v ≡ Some d → (finmap.get ends v ≡ Some d) × (t < d)
left_end ends t v d e =
    let k = kept (not (at_most t (finmap.get ends v))) (finmap.get ends v) d (sym (get-without_ended ends t ends v) ∙ e) in
    (k.1, above t d (ap (λ x. not (at_most t x)) (sym k.1) ∙ k.0))

pub settled_lawful : (t : set.FinSet nat_cmp) (c : ℕ) (ms : List (ℕ × ℕ)) → IsLawfulStream (stream_with t c ms)
settled_lawful t c ms count upto e =
    let k = kept (not (covers t count)) (finmap.get (by_count ms) count) upto (sym (get-retain nat_total finmap.nat_cmp-IsAntisymmetric (by_count ms) (λ q. not (covers t q)) count) ∙ e) in
    not_true (covers t count) k.0
  where
    not_true : (b : Bool) → not b ≡ true → b ≡ false
    not_true true e = sym e
    not_true false e = refl

together_lawful : (xs ys : List StreamContent) → All IsLawfulStream (all_together xs ys)
together_lawful [] ys = All-nil IsLawfulStream
together_lawful (a ∷ more) [] = All-nil IsLawfulStream
together_lawful (a ∷ more) (b ∷ rest) = All-cons IsLawfulStream (together a b) (all_together more rest) (settled_lawful (set.union a.taken b.taken) (max a.closed b.closed) (finmap.entries a.waiting ++ finmap.entries b.waiting)) (together_lawful more rest)

-- the readable mark of two together is no earlier than either's
pub closer : (xs ys : List StreamContent) → length xs ≡ length ys → (least_closed xs ≤ least_closed (all_together xs ys)) × (least_closed ys ≤ least_closed (all_together xs ys))
closer [] [] e = (omega arith, omega arith)
closer [] (b ∷ rest) e = absurd (omega arith)
closer (a ∷ more) [] e = absurd (omega arith)
closer (a ∷ []) (b ∷ []) e = (omega arith, omega arith)
closer (a ∷ []) (b ∷ d ∷ rest) e = absurd (omega arith)
closer (a ∷ c ∷ more) (b ∷ []) e = absurd (omega arith)
closer (a ∷ c ∷ more) (b ∷ d ∷ rest) e =
    let l : length (c ∷ more) ≡ length (d ∷ rest) = omega arith in
    let tail = closer (c ∷ more) (d ∷ rest) l in
    let x = tail.0 in
    let y = tail.1 in
    (omega arith, omega arith)

from_kept : (m n : finmap.FinMap version_key_cmp RowValue) (p q : VersionKey → Bool) (v : VersionKey) (r : RowValue) → finmap.get (union (finmap.retain_keys m p) (finmap.retain_keys n q)) v ≡ Some r → (finmap.get m v ≡ Some r) ⊎ (finmap.get n v ≡ Some r)
from_kept m n p q v r e =
    elim (either_Some (finmap.get (finmap.retain_keys m p) v) (finmap.get (finmap.retain_keys n q) v) r (sym (get-union version_key_total version_key_same (finmap.retain_keys m p) (finmap.retain_keys n q) v) ∙ e)) [
      | inl l ↦ inl (kept (p v) (finmap.get m v) r (sym (get-retain version_key_total version_key_same m p v) ∙ l)).1
      | inr k ↦ inr (kept (q v) (finmap.get n v) r (sym (get-retain version_key_total version_key_same n q v) ∙ k)).1
    ]

pub joined_lawful : (t : Content) (f : FragmentValue) → IsLawful t → IsLawfulFragment f → length t.streams ≡ length f.content.streams → IsLawful (content_after_join t f)
joined_lawful t f lt lf same =
    let h = max t.horizon f.content.horizon in
    let row : (v : VersionKey) (r : RowValue) → finmap.get (content_after_join t f).rows v ≡ Some r → (finmap.get t.rows v ≡ Some r) ⊎ (finmap.get f.content.rows v ≡ Some r) =
    λ v r e. from_kept t.rows f.content.rows _ _ v r e in
    let end : (v : VersionKey) (d : ℕ) → finmap.get (content_after_join t f).ends v ≡ Some d → ((finmap.get t.ends v ≡ Some d) ⊎ (finmap.get f.content.ends v ≡ Some d)) × (max t.horizon f.content.horizon < d) =
    λ v d e. elim (either_Some _ _ d (sym (get-union version_key_total version_key_same (without_ended t.ends h t.ends) (without_ended f.content.ends h f.content.ends) v) ∙ e)) [
      | inl l ↦ let k = left_end t.ends h v d l in (inl k.0, k.1)
      | inr r ↦ let k = left_end f.content.ends h v d r in (inr k.0, k.1)
    ] in
    let c = closer t.streams f.content.streams same in
    let x = c.0 in
    let y = c.1 in
    let a = lt.in_reach in
    let b = lf.content.in_reach in
    record {
      born = λ v r e. elim (row v r e) [ inl l ↦ lt.born v r l | inr k ↦ lf.content.born v r k ];
      end_born = λ v d e. elim (end v d e).0 [ inl l ↦ lt.end_born v d l | inr k ↦ lf.content.end_born v d k ];
      end_later = λ v d e. elim (end v d e).0 [ inl l ↦ lt.end_later v d l | inr k ↦ lf.content.end_later v d k ];
      end_above = λ v d e. (end v d e).1;
      in_reach = omega arith;
      streams = together_lawful t.streams f.content.streams;
    }

pub pruned_lawful : (c : Content) (h : ℕ) → IsLawful c → h ≤ readable c → IsLawful (record c { horizon = h; rows = without_ended c.ends h c.rows; ends = without_ended c.ends h c.ends })
pruned_lawful c h l within = record {
  born = λ v r e. l.born v r (kept (not (at_most h (finmap.get c.ends v))) (finmap.get c.rows v) r (sym (get-without_ended c.ends h c.rows v) ∙ e)).1;
  end_born = λ v d e. l.end_born v d (left_end c.ends h v d e).0;
  end_later = λ v d e. l.end_later v d (left_end c.ends h v d e).0;
  end_above = λ v d e. (left_end c.ends h v d e).1;
  in_reach = within;
  streams = l.streams;
}

pub least_at : (streams : List StreamContent) (i : ℕ) → i < length streams → least_closed streams ≤ (get_or streams i unknown).closed
least_at [] i l = absurd (omega arith)
least_at (s ∷ []) zero l = omega arith
least_at (s ∷ []) (suc i) l = absurd (omega arith)
least_at (s ∷ t ∷ more) zero l = omega arith
least_at (s ∷ t ∷ more) (suc i) l = let rest = least_at (t ∷ more) i (omega arith) in omega arith

count_streams : (n : ℕ) (items : List Item) → length (streams_of n items) ≡ n
count_streams n items = length-map-range_with_len (stream_of items) 1 n

-- what an entry must be for its facts to be lawful
pub record IsSound (e : EntryValue) : Type 0 where
  pub time : 0 < e.time
  pub ends : (v : VersionKey) → In v e.ends → (0 < v.born) × (v.born < e.time)

all_pass : {X : Type 0} (p : X → Bool) (xs : List X) → list_all p xs ≡ true → (x : X) → In x xs → p x ≡ true
all_pass p [] e x h = elim h [ ]
all_pass p (y ∷ ys) e x (inl s) = ap p s ∙ (and_parts (p y) (list_all p ys) e).0
all_pass p (y ∷ ys) e x (inr h) = all_pass p ys (and_parts (p y) (list_all p ys) e).1 x h

pub entry_sound : (e : EntryValue) → IsEntry e → IsSound e
entry_sound e w =
    let number = w.number_least in
    let time = w.number in
    record {
      time = omega arith;
      ends = λ v i.
          let b = and_parts (nat_lt 0 v.born) (nat_lt v.born e.time) (all_pass (was_born e.time) e.ends w.born v i) in
          (ltb-true 0 v.born b.0, ltb-true v.born e.time b.1);
    }

-- an entry whose time is above the closed time of its stream
pub taken_lawful : (c : Content) (e : EntryValue) → IsLawful c → IsEntry e → e.stream ≤ length c.streams → (stream_at c.streams e.stream).closed < e.time → IsLawful (with_items c (Commit e ∷ []))
taken_lawful c e l w within late =
    let above = w.stream_least in
    let number = w.number_least in
    let time = w.number in
    let sound = entry_sound e w in
    let least = least_at c.streams (e.stream - 1) (omega arith) in
    let reach = l.in_reach in
    let x = (closer c.streams (streams_of (length c.streams) (Commit e ∷ [])) (sym (count_streams (length c.streams) (Commit e ∷ [])))).0 in
    let new_row : (v : VersionKey) (r : RowValue) → finmap.get (rows_of (Commit e ∷ [])) v ≡ Some r → v.born ≡ e.time =
    λ v r k. let f = fact_row v r (Commit e ∷ []) (row_found (Commit e ∷ []) v r k) in row_born v r f.0 f.2 ∙ elim f.1 [ inl s ↦ let g : f.0 ≡ e = cc in ap (λ (y : EntryValue). y.time) g | inr z ↦ elim z [ ] ] in
    let new_end : (v : VersionKey) (d : ℕ) → finmap.get (ends_of (Commit e ∷ [])) v ≡ Some d → In v e.ends × (d ≡ e.time) =
    λ v d k. let f = fact_end v d (Commit e ∷ []) (end_found (Commit e ∷ []) v d k) in elim f.1 [
      | inl s ↦ let g : f.0 ≡ e = cc in
          let i = subst (λ (y : EntryValue). In (v, d) (entry_ends y)) g f.2 in
          let m = In-map (λ (u : VersionKey). (u, e.time)) (v, d) e.ends i in
          (subst (λ (u : VersionKey). In u e.ends) (sym (ap (λ (z : VersionKey × ℕ). z.0) m.2)) m.1, ap (λ (z : VersionKey × ℕ). z.1) m.2)
      | inr z ↦ elim z [ ]
    ] in
    let row : (v : VersionKey) (r : RowValue) → finmap.get (with_items c (Commit e ∷ [])).rows v ≡ Some r → (finmap.get c.rows v ≡ Some r) ⊎ (finmap.get (rows_of (Commit e ∷ [])) v ≡ Some r) =
    λ v r k. either_Some (finmap.get c.rows v) (finmap.get (rows_of (Commit e ∷ [])) v) r (sym (get-union version_key_total version_key_same c.rows (rows_of (Commit e ∷ [])) v) ∙ k) in
    let end : (v : VersionKey) (d : ℕ) → finmap.get (with_items c (Commit e ∷ [])).ends v ≡ Some d → (finmap.get c.ends v ≡ Some d) ⊎ (finmap.get (ends_of (Commit e ∷ [])) v ≡ Some d) =
    λ v d k. either_Some (finmap.get c.ends v) (finmap.get (ends_of (Commit e ∷ [])) v) d (sym (get-union version_key_total version_key_same c.ends (ends_of (Commit e ∷ [])) v) ∙ k) in
    record {
      born = λ v r k. elim (row v r k) [ inl o ↦ l.born v r o | inr m ↦ let b = new_row v r m in omega arith ];
      end_born = λ v d k. elim (end v d k) [ inl o ↦ l.end_born v d o | inr m ↦ (sound.ends v (new_end v d m).0).0 ];
      end_later = λ v d k. elim (end v d k) [ inl o ↦ l.end_later v d o | inr m ↦ let b = (sound.ends v (new_end v d m).0).1 in let q = (new_end v d m).1 in omega arith ];
      end_above = λ v d k. elim (end v d k) [ inl o ↦ l.end_above v d o | inr m ↦ let q = (new_end v d m).1 in omega arith ];
      in_reach = omega arith;
      streams = together_lawful c.streams (streams_of (length c.streams) (Commit e ∷ []));
    }

-- a mark
pub marked_lawful : (c : Content) (m : MarkValue) → IsLawful c → IsLawful (with_items c (Closed m ∷ []))
marked_lawful c m l =
    let reach = l.in_reach in
    let x = (closer c.streams (streams_of (length c.streams) (Closed m ∷ [])) (sym (count_streams (length c.streams) (Closed m ∷ [])))).0 in
    let row : (v : VersionKey) (r : RowValue) → finmap.get (with_items c (Closed m ∷ [])).rows v ≡ Some r → finmap.get c.rows v ≡ Some r =
    λ v r k. elim (either_Some (finmap.get c.rows v) (finmap.get (rows_of (Closed m ∷ [])) v) r (sym (get-union version_key_total version_key_same c.rows (rows_of (Closed m ∷ [])) v) ∙ k)) [
      | inl o ↦ o
      | inr n ↦ let f = fact_row v r (Closed m ∷ []) (row_found (Closed m ∷ []) v r n) in elim f.1 [ inl s ↦ cc | inr z ↦ elim z [ ] ]
    ] in
    let end : (v : VersionKey) (d : ℕ) → finmap.get (with_items c (Closed m ∷ [])).ends v ≡ Some d → finmap.get c.ends v ≡ Some d =
    λ v d k. elim (either_Some (finmap.get c.ends v) (finmap.get (ends_of (Closed m ∷ [])) v) d (sym (get-union version_key_total version_key_same c.ends (ends_of (Closed m ∷ [])) v) ∙ k)) [
      | inl o ↦ o
      | inr n ↦ let f = fact_end v d (Closed m ∷ []) (end_found (Closed m ∷ []) v d n) in elim f.1 [ inl s ↦ cc | inr z ↦ elim z [ ] ]
    ] in
    record {
      born = λ v r k. l.born v r (row v r k);
      end_born = λ v d k. l.end_born v d (end v d k);
      end_later = λ v d k. l.end_later v d (end v d k);
      end_above = λ v d k. l.end_above v d (end v d k);
      in_reach = omega arith;
      streams = together_lawful c.streams (streams_of (length c.streams) (Closed m ∷ []));
    }

-- ---- what an absorb, a prune and a join give

-- equal answers give equal values
pub same_Ok : {X E : Type 0} (x y : X) → ◌≡◌ {A = Result X E} (Ok x) (Ok y) → x ≡ y
same_Ok x y e = cc

pub fits_within : (log streams : ℕ) (i : Item) → wrong_log log streams i ≡ None → stream_no i ≤ streams
fits_within log streams i e =
    elim (not (log_of i == log)) as (λ b. cond b (Some ForeignLog) (cond (nat_lt streams (stream_no i)) (Some WrongStreams) None) ≡ None → stream_no i ≤ streams) [
      | true ↦ λ f. absurd cc
      | false ↦ λ f. elim (nat_lt streams (stream_no i)) as (λ b. nat_lt streams (stream_no i) ≡ b → cond b (Some WrongStreams) None ≡ None → stream_no i ≤ streams) [
        | true ↦ λ t g. absurd cc
        | false ↦ λ t g. ltb-false streams (stream_no i) t
      ] refl f
    ] e

absorbed_lawful : (c : Content) (i : Item) → IsLawful c → IsItem i → stream_no i ≤ length c.streams → (told : Took) (d : Content) → absorb_result c i ≡ Ok (told, d) → IsLawful d
absorbed_lawful c (Commit e) l w within told d eq =
    elim (set.contains (stream_at c.streams e.stream).taken e.number) as (λ b. ◌≡◌ {A = Result (Took × Content) Refusal} (cond b (Ok (Repeated, c)) (cond (entry_conflicts c e) (Err Conflict) (Ok (Taken, with_items c (Commit e ∷ []))))) (Ok (told, d)) → IsLawful d) [
      | true ↦ λ f. let s = ap (λ (z : Took × Content). z.1) (same_Ok (Repeated, c) (told, d) f) in subst IsLawful s l
      | false ↦ λ f. elim (entry_conflicts c e) as (λ b. entry_conflicts c e ≡ b → ◌≡◌ {A = Result (Took × Content) Refusal} (cond b (Err Conflict) (Ok (Taken, with_items c (Commit e ∷ [])))) (Ok (told, d)) → IsLawful d) [
        | true ↦ λ t g. absurd cc
        | false ↦ λ t g.
            let s = ap (λ (z : Took × Content). z.1) (same_Ok (Taken, with_items c (Commit e ∷ [])) (told, d) g) in
            let late = (or_parts (maps_conflict same_row c.rows (rows_of (Commit e ∷ [])) || maps_conflict (λ a b. a == b) c.ends (ends_of (Commit e ∷ []))) (nat_le e.time (stream_at c.streams e.stream).closed) t).1 in
            subst IsLawful s (taken_lawful c e l w within (leb-false e.time (stream_at c.streams e.stream).closed late))
      ] refl f
    ] eq
absorbed_lawful c (Closed m) l w within told d eq = let s = ap (λ (z : Took × Content). z.1) (same_Ok (cond (adds_nothing (stream_at c.streams m.stream) m.count m.upto) Repeated Taken, with_items c (Closed m ∷ [])) (told, d) eq) in subst IsLawful s (marked_lawful c m l)

pub taken_keeps : (c : Content) (i : Item) → IsLawful c → IsItem i → (told : Took) (d : Content) → take_result c i ≡ Ok (told, d) → IsLawful d
taken_keeps c i l w told d e = by (wrong_log c.log (length c.streams) i) refl e
  where
    by : (x : Option Refusal) → wrong_log c.log (length c.streams) i ≡ x → take_result_unless c i x ≡ Ok (told, d) → IsLawful d
    by (Some why) m f = absurd cc
    by None m f = absorbed_lawful c i l w (fits_within c.log (length c.streams) i m) told d f

pub pruned_keeps : (c : Content) (h : ℕ) (d : Content) → IsLawful c → prune_result c h ≡ Ok d → IsLawful d
pruned_keeps c h d l e =
    elim (nat_lt (readable c) h) as (λ b. nat_lt (readable c) h ≡ b → ◌≡◌ {A = Result Content Refusal} (cond b (Err (AheadOfMark (readable c))) (cond (nat_le h c.horizon) (Ok c) (Ok (after c h)))) (Ok d) → IsLawful d) [
      | true ↦ λ t f. absurd cc
      | false ↦ λ t f. elim (nat_le h c.horizon) as (λ b. ◌≡◌ {A = Result Content Refusal} (cond b (Ok c) (Ok (after c h))) (Ok d) → IsLawful d) [
        | true ↦ λ g. let s = same_Ok c d g in subst IsLawful s l
        | false ↦ λ g. let s = same_Ok (after c h) d g in subst IsLawful s (pruned_lawful c h l (ltb-false (readable c) h t))
      ] f
    ] refl e
  where
    after : Content → ℕ → Content
    after c h = record c { horizon = h; rows = without_ended c.ends h c.rows; ends = without_ended c.ends h c.ends }

pub joined_keeps : (t : Content) (f : FragmentValue) (d : Content) → IsLawful t → IsLawfulFragment f → join_result t f ≡ Ok d → IsLawful d
joined_keeps t f d lt lf e =
    elim (not (f.content.log == t.log)) as (λ b. ◌≡◌ {A = Result Content Refusal} (cond b (Err ForeignLog) (cond (not (length f.content.streams == length t.streams)) (Err WrongStreams) rest)) (Ok d) → IsLawful d) [
      | true ↦ λ g. absurd cc
      | false ↦ λ g. elim (length f.content.streams == length t.streams) as (λ b. (length f.content.streams == length t.streams) ≡ b → ◌≡◌ {A = Result Content Refusal} (cond (not b) (Err WrongStreams) rest) (Ok d) → IsLawful d) [
        | true ↦ λ n k. elim (nat_lt (readable t) f.base) as (λ b. ◌≡◌ {A = Result Content Refusal} (cond b (Err (Gap f.base (readable t))) (cond (contents_conflict t f.content) (Err Conflict) (Ok (content_after_join t f)))) (Ok d) → IsLawful d) [
          | true ↦ λ m. absurd cc
          | false ↦ λ m. elim (contents_conflict t f.content) as (λ b. ◌≡◌ {A = Result Content Refusal} (cond b (Err Conflict) (Ok (content_after_join t f))) (Ok d) → IsLawful d) [
            | true ↦ λ o. absurd cc
            | false ↦ λ o. let s = same_Ok (content_after_join t f) d o in subst IsLawful s (joined_lawful t f lt lf (sym (eqb-true (length f.content.streams) (length t.streams) n)))
          ] m
        ] k
        | false ↦ λ n k. absurd cc
      ] refl g
    ] e
  where
    rest : Result Content Refusal
    rest = cond (nat_lt (readable t) f.base) (Err (Gap f.base (readable t))) (cond (contents_conflict t f.content) (Err Conflict) (Ok (content_after_join t f)))

-- ---- contents and cuts

streams_lawful : (items : List Item) (ks : List ℕ) → All IsLawfulStream (map (stream_of items) ks)
streams_lawful items [] = All-nil IsLawfulStream
streams_lawful items (k ∷ ks) = All-cons IsLawfulStream (stream_of items k) (map (stream_of items) ks) (settled_lawful (stream_of items k).taken 0 (marks_of items k)) (streams_lawful items ks)

pub content_of_lawful : (config : ConfigValue) (items : List Item) (h : ℕ) → ((e : EntryValue) → In (Commit e) items → IsSound e) → h ≤ readable (content_of config items h) → IsLawful (content_of config items h)
content_of_lawful config items h sound within =
    let ended : (v : VersionKey) (d : ℕ) → finmap.get (content_of config items h).ends v ≡ Some d → (0 < v.born) × (v.born < d) × (h < d) = λ v d e.
    let k = left_end (ends_of items) h v d e in
    let f = fact_end v d items (end_found items v d k.0) in
    let m = In-map (λ (u : VersionKey). (u, f.0.time)) (v, d) f.0.ends f.2 in
    let there : In v f.0.ends = subst (λ (u : VersionKey). In u f.0.ends) (sym (ap (λ (z : VersionKey × ℕ). z.0) m.2)) m.1 in
    let dead : d ≡ f.0.time = ap (λ (z : VersionKey × ℕ). z.1) m.2 in
    let s = (sound f.0 f.1).ends v there in
    let before = s.1 in
    (s.0, omega arith, k.1)
    in
    record {
      born = λ v r e.
          let k = kept (not (at_most h (finmap.get (ends_of items) v))) (finmap.get (rows_of items) v) r (sym (get-without_ended (ends_of items) h (rows_of items) v) ∙ e) in
          let f = fact_row v r items (row_found items v r k.1) in
          let b = row_born v r f.0 f.2 in
          let t = (sound f.0 f.1).time in
          omega arith;
      end_born = λ v d e. (ended v d e).0;
      end_later = λ v d e. (ended v d e).1;
      end_above = λ v d e. (ended v d e).2;
      in_reach = within;
      streams = streams_lawful items (range_with_len 1 config.streams);
    }

pub cut_lawful : (c : Content) (r : ℕ) → IsLawful c → (r ≡ 0) ⊎ (c.horizon ≤ r) → IsLawfulFragment (cut c r)
cut_lawful c r l base =
    let row : (v : VersionKey) (x : RowValue) → finmap.get (cut c r).content.rows v ≡ Some x → (nat_lt r v.born ≡ true) × (finmap.get c.rows v ≡ Some x) = λ v x e.
    kept (nat_lt r v.born) (finmap.get c.rows v) x (sym (get-retain version_key_total version_key_same c.rows (λ w. nat_lt r w.born) v) ∙ e)
    in
    record {
      content = record {
        born = λ v x e. l.born v x (row v x e).1;
        end_born = λ v d e. l.end_born v d (left_end c.ends r v d e).0;
        end_later = λ v d e. l.end_later v d (left_end c.ends r v d e).0;
        end_above = λ v d e. l.end_above v d (left_end c.ends r v d e).0;
        in_reach = l.in_reach;
        streams = l.streams;
      };
      base_above = base;
      row_above = λ v x e. ltb-true r v.born (row v x e).0;
      end_over = λ v d e. (left_end c.ends r v d e).1;
    }

-- the fragment of well-formed items
pub gathered_keeps : (config : ConfigValue) (items : List Item) (f : FragmentValue) → All IsItem items → gather_result config items ≡ Ok f → IsLawfulFragment f
gathered_keeps config items f all e = by (first_wrong_log config items) e
  where
    sound : (e : EntryValue) → In (Commit e) items → IsSound e
    sound e i = entry_sound e (All_In IsItem items all (Commit e) i)

    whole : IsLawfulFragment (part config items 0 0)
    whole = cut_lawful (content_of config items 0) 0 (content_of_lawful config items 0 sound (omega arith)) (inl refl)

    by : (x : Option Refusal) → gather_result_unless config items x ≡ Ok f → IsLawfulFragment f
    by (Some why) e = absurd cc
    by None e = elim (conflict same_row (row_facts items) || conflict (λ a b. a == b) (end_facts items)) as (λ b. ◌≡◌ {A = Result FragmentValue Refusal} (cond b (Err Conflict) (Ok (part config items 0 0))) (Ok f) → IsLawfulFragment f) [
      | true ↦ λ g. absurd cc
      | false ↦ λ g. let s = same_Ok (part config items 0 0) f g in subst IsLawfulFragment s whole
    ] e
