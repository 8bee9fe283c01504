-- The union of what two lists of items are gathered to is what the one list after the other is gathered to.
use Rattle.std.proofs.Common.{◌≡◌, refl, sym, ap, ◌∙◌, Bool, true, false, cond, ◌||◌, ◌==◌, Option, Some, None, List, ◌++◌, All, inl, inr, Result, Ok, Err, true≢false, OnOk, OnErr, IfErr}
use Rattle.std.proofs.lemmas.List.Elements.{All-append}
use Rattle.std.proofs.lemmas.Bool.{eqb-true, or_parts, not-false}
use Rattle.std.specs.FinMap as finmap
use Rattle.std.specs.FinMap.Entries.{find}
use Rattle.hk_types.specs.Values.{ConfigValue, same_row}
use Rattle.hk_types.specs.declared.version_key.VersionKey.{VersionKey}
use Rattle.hk_types.specs.declared.faults.Refusal.{Refusal}
use Rattle.hk_types.specs.declared.faults.Refusal.TheVariants.{Conflict, Memory}
use Rattle.hk_log.specs.declared.item.Item.{Item}
use Rattle.hk_model.specs.History.Rows.{version_key_cmp}
use Rattle.hk_model.specs.Replica.Maps.{or_else, values_conflict, union, maps_conflict}
use Rattle.hk_model.specs.History.Facts.{row_facts, end_facts, rows_of, ends_of}
use Rattle.hk_model.specs.Replica.ContentOf.{content_of}
use Rattle.hk_model.specs.Replica.Streams.{streams_of}
use Rattle.hk_model.specs.Replica.Fragments.{FragmentValue, part}
use Rattle.hk_model.specs.Replica.Lawful.{IsItem}
use Rattle.hk_model.specs.Replica.Rules.{conflict, first_wrong_log, gather_result, gather_result_unless, contents_conflict}
use Rattle.hk_model.proofs.Replica.Joins.{rows_of-append, ends_of-append}
use Rattle.hk_model.proofs.Replica.Maps.{version_key_total, version_key_same, find-append, get-union}
use Rattle.hk_model.proofs.Replica.Members.{In, In-append}
use Rattle.hk_model.proofs.Replica.Sets.{row_facts-append, end_facts-append, all_together-streams_of}
use Rattle.hk_model.proofs.Replica.Shown.{any_In, get-key}
use Rattle.hk_merge.proofs.JoinRefusals.{whole_is}
use Rattle.hk_delta.specs.Gathers.{have_conflict}
use Rattle.hk_fragment.specs.Merging.{union_of}
use Rattle.hk_delta.specs.Unions.{Unites, UnitesGathered}
use Rattle.hk_delta.proofs.FactsInConflict.{agrees_from, no_conflict, row_alike, time_alike}
use Rattle.hk_state.proofs.WrongLogs.{wrong_log-append}
use Rattle.hk_delta.proofs.GatheredWhole.{whole_lawful, all_kept, gathered_ok}
use Rattle.hk_store.proofs.SameRows.{same_value}

-- ---- facts that agree

module _ {X : Type 0} (same : X → X → Bool) (tells : (a b : X) → same a b ≡ true → a ≡ b) (alike : (a : X) → same a a ≡ true) where
  abbrev mapped : List (VersionKey × X) → finmap.FinMap version_key_cmp X
  mapped xs = finmap.from_entries xs

  abbrev Agrees : List (VersionKey × X) → Type 0
  Agrees xs = (v : VersionKey) (x : X) → In (v, x) xs → finmap.get (mapped xs) v ≡ Some x

  pub agree_at : (m n : finmap.FinMap version_key_cmp X) → maps_conflict same m n ≡ false → (v : VersionKey) → values_conflict same (finmap.get m v) (finmap.get n v) ≡ false
  agree_at m n none v = by (finmap.get m v) refl
    where
      false_from : (z : X) → finmap.get m v ≡ Some z → (b : Bool) → values_conflict same (finmap.get m v) (finmap.get n v) ≡ b → b ≡ false
      false_from z g true e = absurd (true≢false (sym (any_In (λ k. values_conflict same (finmap.get m k) (finmap.get n k)) v (finmap.keys m) (get-key m v z g) e) ∙ none))
      false_from z g false e = refl

      by : (o : Option X) → finmap.get m v ≡ o → values_conflict same (finmap.get m v) (finmap.get n v) ≡ false
      by None g = ap (λ o. values_conflict same o (finmap.get n v)) g
      by (Some z) g = false_from z g (values_conflict same (finmap.get m v) (finmap.get n v)) refl

  agrees_join : (xs ys : List (VersionKey × X)) → Agrees xs → Agrees ys → maps_conflict same (mapped xs) (mapped ys) ≡ false → Agrees (xs ++ ys)
  agrees_join xs ys a b none v x i =
      finmap.get-from_entries version_key_total (xs ++ ys) v ∙ find-append version_key_cmp v xs ys
      ∙ elim (In-append (v, x) xs ys i) [
        | inl j ↦ ap (λ o. or_else o (find version_key_cmp v ys)) (sym (finmap.get-from_entries version_key_total xs v) ∙ a v x j)
        | inr j ↦ ap (λ o. or_else o (find version_key_cmp v ys)) (sym (finmap.get-from_entries version_key_total xs v)) ∙ ap (or_else (finmap.get (mapped xs) v)) (sym (finmap.get-from_entries version_key_total ys v) ∙ b v x j)
            ∙ by (finmap.get (mapped xs) v) (ap (values_conflict same (finmap.get (mapped xs) v)) (sym (b v x j)) ∙ agree_at (mapped xs) (mapped ys) none v)
      ]
    where
      by : (o : Option X) → values_conflict same o (Some x) ≡ false → or_else o (Some x) ≡ Some x
      by None e = refl
      by (Some z) e = ap Some (tells z x (not-false (same z x) e))

  pub still_none : (xs ys : List (VersionKey × X)) → conflict same xs ≡ false → conflict same ys ≡ false → maps_conflict same (mapped xs) (mapped ys) ≡ false → conflict same (xs ++ ys) ≡ false
  still_none xs ys p q none = no_conflict same tells alike (xs ++ ys) (agrees_join xs ys (agrees_from same tells alike xs p) (agrees_from same tells alike ys q) none)

-- ---- what is gathered

pub record Gave (config : ConfigValue) (items : List Item) (f : FragmentValue) : Type 0 where
  pub fits : first_wrong_log config items ≡ None
  pub agree : have_conflict items ≡ false
  pub is : f ≡ part config items 0 0

pub gave : (config : ConfigValue) (items : List Item) (f : FragmentValue) → gather_result config items ≡ Ok f → Gave config items f
gave config items f e = by (first_wrong_log config items) (have_conflict items) refl refl (e)
  where
    same : (f g : FragmentValue) → ◌≡◌ {A = Result FragmentValue Refusal} (Ok f) (Ok g) → f ≡ g
    same f g e = cc

    has_conflict_with : (f : FragmentValue) (why : Refusal) → ◌≡◌ {A = Result FragmentValue Refusal} (Err why) (Ok f) → ⊥
    has_conflict_with f why e = cc

    by : (o : Option Refusal) (b : Bool) → first_wrong_log config items ≡ o → have_conflict items ≡ b → gather_result config items ≡ Ok f → Gave config items f
    by (Some why) b m a e = absurd (has_conflict_with f why (sym (ap (gather_result_unless config items) m) ∙ e))
    by None true m a e = absurd (has_conflict_with f Conflict (sym (ap (gather_result_unless config items) m ∙ ap (λ b. cond b (Err Conflict) (Ok (part config items 0 0))) a) ∙ e))
    by None false m a e = record { fits = m; agree = a; is = same f (part config items 0 0) (sym e ∙ gathered_ok config items m a) }

-- all that items say is their fragment
pub part_is : (config : ConfigValue) (items : List Item) → All IsItem items → part config items 0 0 ≡ record { base = 0; content = record { log = config.log; horizon = 0; rows = rows_of items; ends = ends_of items; streams = streams_of config.streams items } }
part_is config items all =
    sym (whole_is (content_of config items 0) (whole_lawful config items all))
    ∙ (λ i. record { base = 0; content = record { log = config.log; horizon = 0; rows = all_kept config items all (rows_of items) i; ends = all_kept config items all (ends_of items) i; streams = streams_of config.streams items } })

module _ (config : ConfigValue) (xs ys : List Item) (all : All IsItem xs) (others : All IsItem ys) where
  both_items : All IsItem (xs ++ ys)
  both_items = All-append IsItem xs ys all others

  united_is : union_of (part config xs 0 0) (part config ys 0 0) ≡ part config (xs ++ ys) 0 0
  united_is =
      (λ i. union_of (part_is config xs all i) (part_is config ys others i))
      ∙ (λ i. record { base = 0; content = record { log = config.log; horizon = 0; rows = rows i; ends = ends i; streams = all_together-streams_of config.streams xs ys i } })
      ∙ sym (part_is config (xs ++ ys) both_items)
    where
      rows : union (rows_of xs) (rows_of ys) ≡ rows_of (xs ++ ys)
      rows = finmap.same_map version_key_total version_key_same _ _ (λ v. get-union version_key_total version_key_same (rows_of xs) (rows_of ys) v ∙ sym (rows_of-append xs ys v))

      ends : union (ends_of xs) (ends_of ys) ≡ ends_of (xs ++ ys)
      ends = finmap.same_map version_key_total version_key_same _ _ (λ v. get-union version_key_total version_key_same (ends_of xs) (ends_of ys) v ∙ sym (ends_of-append xs ys v))

  agree_both : have_conflict xs ≡ false → have_conflict ys ≡ false → contents_conflict (part config xs 0 0).content (part config ys 0 0).content ≡ false → have_conflict (xs ++ ys) ≡ false
  agree_both p q d =
      let own = or_parts (conflict same_row (row_facts xs)) (conflict (λ a b. a == b) (end_facts xs)) p in
      let other = or_parts (conflict same_row (row_facts ys)) (conflict (λ a b. a == b) (end_facts ys)) q in
      let between = or_parts (maps_conflict same_row (rows_of xs) (rows_of ys)) (maps_conflict (λ a b. a == b) (ends_of xs) (ends_of ys)) (sym (λ i. contents_conflict (part_is config xs all i).content (part_is config ys others i).content) ∙ d) in
      let rows : conflict same_row (row_facts (xs ++ ys)) ≡ false = ap (conflict same_row) (row_facts-append xs ys) ∙ still_none same_row same_value row_alike (row_facts xs) (row_facts ys) own.0 other.0 between.0 in
      let ends : conflict (λ a b. a == b) (end_facts (xs ++ ys)) ≡ false = ap (conflict (λ a b. a == b)) (end_facts-append xs ys) ∙ still_none (λ a b. a == b) eqb-true time_alike (end_facts xs) (end_facts ys) own.1 other.1 between.1 in
      (λ i. rows i || ends i)

-- two fragments that do not conflict unite, unless memory ran out
pub united : (old new other : FragmentValue) (r : Result (Unit {0}) Refusal) → contents_conflict old.content other.content ≡ false → OnOk r (new ≡ union_of old other) → IfErr r (λ why. why ≡ Memory) → OnErr r (new ≡ old) → Unites old new other r
united old new other (Ok done) agree ok err kept = (agree, ok)
united old new other (Err why) agree ok err kept = (kept, inr (agree, err))

pub unites_gathered : (old new other : FragmentValue) (r : Result (Unit {0}) Refusal) → Unites old new other r → UnitesGathered old new other r
unites_gathered old new other (Err why) u config xs ys f g = tt
unites_gathered old new other (Ok done) u config xs ys f g =
    let own = gave config xs old f.0 in
    let sent = gave config ys other g.0 in
    let agree = agree_both config xs ys f.1 g.1 own.agree sent.agree ((λ i. contents_conflict (sym own.is i).content (sym sent.is i).content) ∙ u.0) in
    let fits = wrong_log-append config xs ys ∙ (λ i. or_else (own.fits i) (sent.fits i)) in
    let is = u.1 ∙ (λ i. union_of (own.is i) (sent.is i)) ∙ united_is config xs ys f.1 g.1 in
    (gathered_ok config (xs ++ ys) fits agree ∙ ap Ok (sym is), both_items config xs ys f.1 g.1)
