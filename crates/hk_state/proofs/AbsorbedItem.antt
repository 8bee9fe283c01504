-- What absorbing an item makes of a state's parts.
use Rattle.std.proofs.Common.{◌≡◌, refl, sym, ap, ◌∙◌, subst, ℕ, Bool, true, false, cond, ◌||◌, Some, None, List, [], ◌∷◌, Result, Ok, Err, inl, inr, ◌⊎◌, OnOk, OnErr, IfOk, IfErr, nat_le, length, arith}
use Rattle.std.specs.FinSet as set
use Rattle.hk_types.specs.Values.{ConfigValue}
use Rattle.hk_types.specs.declared.faults.Refusal.{Refusal}
use Rattle.hk_types.specs.declared.faults.Refusal.TheVariants.{Conflict, Memory}
use Rattle.hk_log.specs.Items.{EntryValue, MarkValue, IsEntry, IsMark}
use Rattle.hk_log.specs.declared.item.Item.{Item}
use Rattle.hk_log.specs.declared.item.Item.TheVariants.{Commit, Closed}
use Rattle.hk_model.specs.declared.took.Took.{Took}
use Rattle.hk_model.specs.declared.took.Took.TheVariants.{Taken, Repeated}
use Rattle.hk_model.specs.Replica.Items.{wrong_log}
use Rattle.hk_model.specs.Replica.Streams.{StreamContent, stream_at, all_together, streams_of, adds_nothing}
use Rattle.hk_model.specs.Replica.Content.{Content}
use Rattle.hk_model.specs.Replica.Rules.{take_result, take_result_unless, absorb_result, entry_conflicts, with_items}
use Rattle.hk_model.specs.Replica.Lawful.{IsItem}
use Rattle.hk_model.proofs.Replica.Lawful.{taken_keeps, fits_within}
use Rattle.hk_model.proofs.Replica.Outcomes.{taken_same_log}
use Rattle.hk_model.proofs.Replica.Changes.{no_more_facts, same_if_outcome}
use Rattle.hk_state.specs.Calls.{Absorbs}
use Rattle.hk_store.specs.Facts.{FactsValue, with_entry, conflicts_with_entry}
use Rattle.hk_state.specs.Replica.{content_of_parts, IsReplica}

module _ (config : ConfigValue) (h : ℕ) (facts : FactsValue) (got : List StreamContent) (is : IsReplica config h facts got) where
  abbrev here : Content
  here = content_of_parts config h facts got

  -- an item is of a state's log where it is of its configuration's
  pub fits : (item : Item) → wrong_log config.log (length got) item ≡ wrong_log config.log config.streams item
  fits item = ap (λ n. wrong_log config.log n item) is.as_many

  -- an item that is none of the log is refused so
  pub refused : (item : Item) (why : Refusal) → wrong_log config.log config.streams item ≡ Some why → Absorbs here here item (Err why)
  refused item why m = (refl, inl (ap (take_result_unless here item) (fits item ∙ m)))

  -- what is taken leaves a state
  keeps : (item : Item) (told : Took) (facts' : FactsValue) (got' : List StreamContent) → IsItem item → take_result here item ≡ Ok (told, content_of_parts config h facts' got') → IsReplica config h facts' got'
  keeps item told facts' got' w e = record {
    as_many = (taken_same_log here item told (content_of_parts config h facts' got') e).1 ∙ is.as_many;
    lawful = taken_keeps here item is.lawful w told (content_of_parts config h facts' got') e;
  }

  -- ---- entries

  module _ (e : EntryValue) (w : IsEntry e) where
    fitting : wrong_log config.log (length got) (Commit e) ≡ None → take_result here (Commit e) ≡ absorb_result here (Commit e)
    fitting m = ap (take_result_unless here (Commit e)) m

    unrepeated : wrong_log config.log (length got) (Commit e) ≡ None → set.contains (stream_at got e.stream).taken e.number ≡ false → take_result here (Commit e) ≡ cond (entry_conflicts here e) (Err Conflict) (Ok (Taken, with_items here (Commit e ∷ [])))
    unrepeated m new = fitting m ∙ ap (λ b. cond b (Ok (Repeated, here)) (cond (entry_conflicts here e) (Err Conflict) (Ok (Taken, with_items here (Commit e ∷ []))))) new

    module _ (m : wrong_log config.log (length got) (Commit e) ≡ None) (new : set.contains (stream_at got e.stream).taken e.number ≡ false) (timely : nat_le e.time (stream_at got e.stream).closed ≡ false) where
      agreed : conflicts_with_entry facts e ≡ false → take_result here (Commit e) ≡ Ok (Taken, with_items here (Commit e ∷ []))
      agreed agrees = unrepeated m new ∙ ap (λ b. cond b (Err Conflict) (Ok (Taken, with_items here (Commit e ∷ [])))) (λ i. agrees i || timely i)

      -- a refusal is a conflict, where there is one, and else out of memory
      failed : (why : Refusal) → why ≡ cond (conflicts_with_entry facts e) Conflict Memory → (take_result here (Commit e) ≡ Err why) ⊎ ((why ≡ Memory) × ((c : Content) × (take_result here (Commit e) ≡ Ok (Taken, c))))
      failed why err = each (conflicts_with_entry facts e) refl err
        where
          each : (b : Bool) → conflicts_with_entry facts e ≡ b → why ≡ cond b Conflict Memory → (take_result here (Commit e) ≡ Err why) ⊎ ((why ≡ Memory) × ((c : Content) × (take_result here (Commit e) ≡ Ok (Taken, c))))
          each true is err = inl (unrepeated m new ∙ ap (λ b. cond b (Err Conflict) (Ok (Taken, with_items here (Commit e ∷ [])))) (λ i. is i || nat_le e.time (stream_at got e.stream).closed) ∙ ap Err (sym err))
          each false is err = inr (err, (with_items here (Commit e ∷ []), agreed is))

      pub entry_refused : (why : Refusal) → why ≡ cond (conflicts_with_entry facts e) Conflict Memory → Absorbs here here (Commit e) (Err why)
      entry_refused why err = (refl, failed why err)

      pub entry_result : (r : Result Took Refusal) (facts' : FactsValue) (got' : List StreamContent) → IfOk r (λ took. took ≡ Taken) → OnOk r (facts' ≡ with_entry facts e) → OnOk r (got' ≡ all_together got (streams_of (length got) (Commit e ∷ []))) → OnOk r (conflicts_with_entry facts e ≡ false)
          → IfErr r (λ why. why ≡ cond (conflicts_with_entry facts e) Conflict Memory) → OnErr r (facts' ≡ facts) → OnErr r (got' ≡ got)
          → Absorbs here (content_of_parts config h facts' got') (Commit e) r × IsReplica config h facts' got'
      entry_result (Ok took) facts' got' told f g agrees err sf sg =
          let left : with_items here (Commit e ∷ []) ≡ content_of_parts config h facts' got' = λ i. content_of_parts config h (sym f i) (sym g i) in
          let all : take_result here (Commit e) ≡ Ok (took, content_of_parts config h facts' got') = agreed agrees ∙ (λ i. Ok (sym told i, left i)) in
          (all, keeps (Commit e) took facts' got' w all)
      entry_result (Err why) facts' got' told f g agrees err sf sg =
          (((λ i. content_of_parts config h (sf i) (sg i)), failed why err), subst (λ (x : FactsValue). IsReplica config h x got') (sym sf) (subst (IsReplica config h facts) (sym sg) is))

  -- ---- marks

  module _ (k : MarkValue) (w : IsMark k) where
    outcome_of : Took
    outcome_of = cond (adds_nothing (stream_at got k.stream) k.count k.upto) Repeated Taken

    mark_taken : wrong_log config.log (length got) (Closed k) ≡ None → take_result here (Closed k) ≡ Ok (outcome_of, with_items here (Closed k ∷ []))
    unfolding outcome_of
    mark_taken m = ap (take_result_unless here (Closed k)) m

    pub mark_repeated : wrong_log config.log (length got) (Closed k) ≡ None → adds_nothing (stream_at got k.stream) k.count k.upto ≡ true → Absorbs here here (Closed k) (Ok Repeated)
    unfolding outcome_of
    mark_repeated m told =
        let above = w.stream_least in
        let within = fits_within config.log (length got) (Closed k) m in
        mark_taken m ∙ (λ i. Ok (cond (told i) Repeated Taken, same_if_outcome here is.lawful k (omega arith) within told i))

    pub mark_result : wrong_log config.log (length got) (Closed k) ≡ None → adds_nothing (stream_at got k.stream) k.count k.upto ≡ false
        → (r : Result Took Refusal) (got' : List StreamContent) → IfOk r (λ took. took ≡ Taken) → OnOk r (got' ≡ all_together got (streams_of (length got) (Closed k ∷ []))) → IfErr r (λ why. why ≡ Memory) → OnErr r (got' ≡ got)
        → Absorbs here (content_of_parts config h facts got') (Closed k) r × IsReplica config h facts got'
    unfolding outcome_of
    mark_result m new (Ok took) got' told g err sg =
        let left : with_items here (Closed k ∷ []) ≡ content_of_parts config h facts got' = λ i. record { log = config.log; horizon = h; rows = no_more_facts facts.rows i; ends = no_more_facts facts.ends i; streams = sym g i } in
        let all : take_result here (Closed k) ≡ Ok (took, content_of_parts config h facts got') = mark_taken m ∙ (λ i. Ok (cond (new i) Repeated Taken, left i)) ∙ (λ i. Ok (sym told i, content_of_parts config h facts got')) in
        (all, keeps (Closed k) took facts got' w all)
    mark_result m new (Err why) got' told g err sg =
        let t : take_result here (Closed k) ≡ Ok (Taken, with_items here (Closed k ∷ [])) = mark_taken m ∙ (λ i. Ok (cond (new i) Repeated Taken, with_items here (Closed k ∷ []))) in
        (((λ i. content_of_parts config h facts (sg i)), inr (err, (with_items here (Closed k ∷ []), t))), subst (IsReplica config h facts) (sym sg) is)
