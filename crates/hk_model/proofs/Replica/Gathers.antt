-- Items of a history conflict with each other nowhere, so their fragment is the part of base and horizon 0.
use Rattle.std.proofs.Common.{◌≡◌, refl, sym, ap, ◌∙◌, subst, Bool, true, false, cond, not, None, List, [], ◌∷◌, ◌==◌, ◌&&◌, ◌||◌, Ok, Err, eq-eqb, true≢false}
use Rattle.std.proofs.lemmas.Bool.{and_parts}
use Rattle.std.proofs.lemmas.List.Elements.{All-head, All-tail}
use Rattle.std.specs.List.{list_any}
use Rattle.std.specs.Ordering.{eq_by_cmp}
use Rattle.std.specs.Cmp.{Equal-is}
use Rattle.hk_types.specs.Values.{ConfigValue}
use Rattle.hk_model.proofs.Replica.Maps.{version_key_same}
use Rattle.hk_model.proofs.Replica.Members.{In}
use Rattle.hk_model.proofs.Replica.Joins.{same_row_if}
use Rattle.hk_model.proofs.History.Logs.{facts_agree, ends_agree}
use Rattle.hk_model.proofs.History.Honest.{history_log, items_part, item_fits}
use Rattle.hk_model.proofs.Replica.Visible.{any_where}
use Rattle.hk_types.specs.declared.version_key.VersionKey.{VersionKey}
use Rattle.hk_types.specs.Values.{same_row}
use Rattle.hk_model.specs.History.Rows.{version_key_cmp}
use Rattle.hk_log.specs.declared.item.Item.{Item}
use Rattle.hk_model.specs.History.Facts.{row_facts, end_facts}
use Rattle.hk_model.specs.Replica.Fragments.{part}
use Rattle.hk_model.specs.Replica.Rules.{first_wrong_log, gather_result, gather_result_unless, conflict}
use Rattle.hk_types.specs.declared.faults.Refusal.TheVariants.{Conflict}
use Rattle.hk_model.specs.Replica.Maps.{or_else}
use Rattle.hk_model.specs.History.Histories.{History, commits, IsHistory, IsItemOf, AreItemsOf, entries_of}

no_conflict : {X : Type 0} (same : X → X → Bool) (facts : List (VersionKey × X)) → ((v : VersionKey) (a b : X) → In (v, a) facts → In (v, b) facts → same a b ≡ true) → conflict same facts ≡ false
no_conflict {X = X} same facts agree = by (conflict same facts) refl
  where
    not_true : (b : Bool) → not b ≡ true → b ≡ true → ⊥
    not_true true e f = true≢false (sym e)
    not_true false e f = true≢false (sym f)

    by : (b : Bool) → conflict same facts ≡ b → b ≡ false
    by true c =
        let e = any_where (λ (e : VersionKey × X). list_any (λ f. eq_by_cmp version_key_cmp e.0 f.0 && not (same e.1 f.1)) facts) facts c in
        let f = any_where (λ (f : VersionKey × X). eq_by_cmp version_key_cmp e.0.0 f.0 && not (same e.0.1 f.1)) facts e.2 in
        let p = and_parts (eq_by_cmp version_key_cmp e.0.0 f.0.0) (not (same e.0.1 f.0.1)) f.2 in
        let k = version_key_same e.0.0 f.0.0 ((Equal-is (version_key_cmp e.0.0 f.0.0)).0 p.0) in
        absurd (not_true (same e.0.1 f.0.1) p.1 (agree e.0.0 e.0.1 f.0.1 e.1 (subst (λ v. In (v, f.0.1) facts) (sym k) f.1)))
    by false c = refl

-- no item of a history is of another log
all_fit : (config : ConfigValue) (h : History) → IsHistory config h → (items : List Item) → AreItemsOf config h items → first_wrong_log config items ≡ None
all_fit config h is [] all = refl
all_fit config h is (i ∷ items) all =
    (λ j. or_else (item_fits config h is i (All-head (IsItemOf config h) i items all) j) (all_fit config h is items (All-tail (IsItemOf config h) i items all) j))

pub gathered_law : (config : ConfigValue) (h : History) → IsHistory config h → (items : List Item) → AreItemsOf config h items → gather_result config items ≡ Ok (part config items 0 0)
gathered_law config h is items all =
    let own = items_part config h is items all in
    let rows : conflict same_row (row_facts items) ≡ false = no_conflict same_row (row_facts items) (λ v a b i j. same_row_if a b (facts_agree config (λ e. In e (entries_of config (commits h))) (history_log config h is) items items own own v a b i j)) in
    let ends : conflict (λ a b. a == b) (end_facts items) ≡ false = no_conflict (λ a b. a == b) (end_facts items) (λ v a b i j. eq-eqb a b (ends_agree config (λ e. In e (entries_of config (commits h))) (history_log config h is) items items own own v a b i j)) in
    ap (gather_result_unless config items) (all_fit config h is items all)
    ∙ (λ i. cond (rows i || ends i) (Err Conflict) (Ok (part config items 0 0)))
