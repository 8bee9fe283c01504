-- What a merge is handed of a fragment is the fragment, and a join of it does what is promised.
use Rattle.std.proofs.Common.{◌≡◌, refl, sym, ap, ◌∙◌, subst, ℕ, length, ◌++◌, ◌<◌, ◌≤◌, max, Result, Ok, Err, IfOk, IfErr, ◌⊎◌, inl, inr, List}
use Rattle.std.specs.List.{list_any}
use Rattle.hk_model.specs.Replica.Content.{Content, readable}
use Rattle.hk_store.specs.Reads.{facts_of_content}
use Rattle.hk_types.specs.Values.{ConfigValue}
use Rattle.hk_types.specs.declared.faults.Refusal.{Refusal}
use Rattle.hk_types.specs.declared.faults.Refusal.TheVariants.{Memory, Gap}
use Rattle.hk_model.specs.Replica.Fragments.{FragmentValue}
use Rattle.hk_model.specs.Replica.Rules.{contents_conflict, join_result}
use Rattle.hk_store.specs.Versions.{value_conflicts_at}
use Rattle.hk_store.proofs.ListedVersions.{conflict_listed}
use Rattle.hk_merge.specs.Calls.{Joins}
use Rattle.hk_log.specs.declared.item.Item.{Item}
use Rattle.hk_model.specs.Replica.ContentOf.{content_of}
use Rattle.hk_model.specs.Replica.Fragments.{part}
use Rattle.hk_model.specs.History.Histories.{History, IsHistory, AreItemsOf}
use Rattle.hk_model.specs.Replica.Replicas.{Represents}
use Rattle.hk_model.proofs.Laws.{join_law_proof}
use Rattle.hk_model.proofs.Replica.Steps.{gap_step}
use Rattle.hk_model.proofs.Laws.{represents_both}
use Rattle.hk_state.proofs.WrongLogs.{count_streams}
use Rattle.hk_delta.specs.Joins.{JoinsOf}
use Rattle.hk_fragment.specs.Parts.{Known, versions_listed}
use Rattle.hk_state.proofs.Represented.{inside, has_conflict_with}
use Rattle.hk_fragment.proofs.FoundVersions.{versions_are}

-- the list conflicts where the content does
pub listed_conflicts : (t c : Content) (xs : List Known) → xs ≡ versions_listed c → list_any (λ e. value_conflicts_at (facts_of_content t) e.0 e.1) xs ≡ contents_conflict t c
listed_conflicts t c xs is = ap (list_any (λ (e : Known). value_conflicts_at (facts_of_content t) e.0 e.1)) is ∙ conflict_listed (facts_of_content t) (facts_of_content c) (versions_listed c) (versions_are c)

-- ---- parts of one history

same_refusal : (a b : Refusal) → ◌≡◌ {A = Result Content Refusal} (Err a) (Err b) → a ≡ b
same_refusal a b e = cc

module _ (config : ConfigValue) (history : History) (is : IsHistory config history) (own others : List Item) (g h base : ℕ) (old : Content) (a : Represents config history own g old) (of_history : AreItemsOf config history others) (reach : h ≤ readable (content_of config others h)) where
  sender : Represents config history others h (content_of config others h)
  sender = record { of_history = of_history; within = reach; is_content_of = refl }

  near_result : (base ≡ 0) ⊎ (h ≤ base) → base ≤ readable old → join_result old (part config others h base) ≡ Ok (content_of config (own ++ others) (max g h))
  near_result near low = join_law_proof config history is own others g h base old (content_of config others h) a sender low near

  far_result : readable old < base → join_result old (part config others h base) ≡ Err (Gap base (readable old))
  far_result high =
      gap_step old (content_of config others h) base (sym (ap (λ (c : Content). c.log) a.is_content_of))
      (count_streams config.streams others ∙ sym (ap (λ (c : Content). length c.streams) a.is_content_of ∙ count_streams config.streams own)) high

  near_join : (new : Content) (r : Result (Unit {0}) Refusal) → join_result old (part config others h base) ≡ Ok (content_of config (own ++ others) (max g h)) → Joins old new (part config others h base) r
      → IfOk r (λ done. Represents config history (own ++ others) (max g h) new) × IfErr r (λ why. why ≡ Memory)
  near_join new (Ok done) law gave =
      (subst (Represents config history (own ++ others) (max g h)) (inside _ _ (sym law ∙ gave)) (represents_both config history is own others g h old (content_of config others h) a sender), tt)
  near_join new (Err why) law gave = (tt, elim gave.1 [ inl e ↦ absurd (has_conflict_with _ why (sym law ∙ e)) | inr m ↦ m.0 ])

  far_join : (new : Content) (r : Result (Unit {0}) Refusal) → join_result old (part config others h base) ≡ Err (Gap base (readable old)) → Joins old new (part config others h base) r → (r ≡ Err (Gap base (readable old))) × (new ≡ old)
  far_join new (Ok done) law gave = absurd (has_conflict_with _ _ (sym gave ∙ law))
  far_join new (Err why) law gave = (elim gave.1 [ inl e ↦ ap Err (same_refusal why _ (sym e ∙ law)) | inr m ↦ absurd (has_conflict_with m.1.0 _ (sym m.1.1 ∙ law)) ], gave.0)

pub joins_of : (old new : Content) (f : FragmentValue) (r : Result (Unit {0}) Refusal) → Joins old new f r → JoinsOf old new f r
joins_of old new f r gave config history own others g h base is a of_history reach near f_is =
    let sent = subst (λ (f : FragmentValue). Joins old new f r) f_is gave in (
      λ low. near_join config history is own others g h base old a of_history reach new r (near_result config history is own others g h base old a of_history reach near low) sent,
      λ high. far_join config history is own others g h base old a of_history reach new r (far_result config history is own others g h base old a of_history reach high) sent,
    )
