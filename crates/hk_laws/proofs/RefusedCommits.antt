-- Commits that are refused before a transaction is built.
use Rattle.std.proofs.Common.{◌≡◌, refl, sym, ap, ◌∙◌, ℕ, Bool, true, false, true≢false, cond, ◌||◌, ◌==◌, nat_lt, nat_le, List, [], ◌∷◌, Option, Some, None, Ok, Err, Result, MatchOption, unwrap_or, ◌⊎◌, inl, inr, ◌+◌, ◌^◌}
use Rattle.std.specs.FinMap as finmap
use Rattle.hk_types.specs.Values.{ConfigValue}
use Rattle.hk_types.specs.declared.faults.Refusal.{Refusal}
use Rattle.hk_types.specs.declared.faults.Refusal.TheVariants.{NoStream, Retired, NotYet, WriteConflict, NoRow, ClockFull, TwiceWritten, TooManyWrites}
use Rattle.hk_model.specs.History.Rows.{RowKey, row_key_cmp}
use Rattle.hk_model.specs.History.Histories.{Transaction, commits, is_retired, written_key, last, tables_of}
use Rattle.hk_model.specs.History.Commits.{writes_result, commit_result, committed_writes, accepted_writes, first_conflict, first_absent}
use Rattle.hk_model.specs.Replica.Content.{Content}
use Rattle.hk_model.specs.World.Worlds.{World, Replica, EventValue, after_commit}
use Rattle.hk_model.specs.declared.write_op.WriteOp.{WriteOp}
use Rattle.hk_acting.specs.Telling.{is_first, is_memory, is_first_outcome}
use Rattle.hk_laws.specs.Calls.{IsBuilt, refusal_of_transaction, is_of_writes, horizons_of, may_lack, takes_memory_at, Happens, Turns}
use Rattle.hk_laws.specs.Running.{Running, step_outcome}
use Rattle.hk_model.specs.declared.told.Told.{Told}

abbrev Writes : Type 0
Writes = finmap.FinMap row_key_cmp WriteOp

-- writes that make no transaction have a key twice, or are too many
built_kind : (m : Writes) (ws : List WriteOp) (why : Refusal) → writes_result m ws ≡ Err why → (why ≡ TwiceWritten) ⊎ (why ≡ TooManyWrites)
built_kind m [] why e = absurd cc
built_kind m (w ∷ ws) why e = by (finmap.contains_key m (written_key w)) (nat_le 1024 (finmap.len m)) (writes_result (finmap.insert m (written_key w) w) ws) (built_kind (finmap.insert m (written_key w) w) ws why) e
  where
    by : (twice many : Bool) (rest : Result Writes Refusal) → (rest ≡ Err why → (why ≡ TwiceWritten) ⊎ (why ≡ TooManyWrites)) → cond twice (Err TwiceWritten) (cond many (Err TooManyWrites) rest) ≡ Err why → (why ≡ TwiceWritten) ⊎ (why ≡ TooManyWrites)
    by true many rest h e = let k : why ≡ TwiceWritten = cc in inl k
    by false true rest h e = let k : why ≡ TooManyWrites = cc in inr k
    by false false rest h e = h e

built_first : (ws : List WriteOp) (why : Refusal) → writes_result finmap.empty ws ≡ Err why → is_first why ≡ false
built_first ws why e = elim (built_kind finmap.empty ws why e) [ inl t ↦ ap is_first t | inr m ↦ ap is_first m ]

built_outcome : (ws : List WriteOp) (why : Refusal) → writes_result finmap.empty ws ≡ Err why → is_memory why ≡ false
built_outcome ws why e = elim (built_kind finmap.empty ws why e) [ inl t ↦ ap is_memory t | inr m ↦ ap is_memory m ]

accepted_first : {R : Type 0} (config : ConfigValue) (w : World R) (history : List Transaction) (stream read_at : ℕ) (ws : List WriteOp) (conflict absent : Option RowKey) → is_first_outcome (after_commit config w (accepted_writes history stream read_at ws conflict absent)).0 ≡ false
accepted_first config w history stream read_at ws (Some k) absent = refl
accepted_first config w history stream read_at ws None (Some k) = refl
accepted_first config w history stream read_at [] None None = refl
accepted_first config w history stream read_at (x ∷ more) None None = full (nat_le (2 ^ 62) (last history))
  where
    full : (b : Bool) → is_first_outcome (after_commit config w (cond b (Err ClockFull) (Ok (Some (record { time = last history + 1; stream = stream; writes = x ∷ more }))))).0 ≡ false
    full true = refl
    full false = refl

module _ (config : ConfigValue) (w : World Content) (stream read_at : ℕ) (ws : List WriteOp) where
  abbrev known : Result Writes Refusal → Result (Option Transaction) Refusal
  known x = committed_writes config w.history stream read_at x

  -- what bars a transaction is told where its writes make one
  bars : (m : Writes) (why : Refusal) → refusal_of_transaction config w.history stream read_at ≡ Some why → known (Ok m) ≡ Err why
  bars m why = by (nat_lt stream 1 || nat_lt config.streams stream) (is_retired w.history stream) (nat_lt (last (commits w.history)) read_at) (accepted_writes (commits w.history) stream read_at (finmap.values m) (first_conflict (commits w.history) read_at (finmap.values m)) (first_absent (tables_of (commits w.history)) (finmap.values m)))
    where
      by : (p r q : Bool) (rest : Result (Option Transaction) Refusal) → cond p (Some NoStream) (cond r (Some (Retired stream)) (cond q (Some (NotYet (last (commits w.history)))) None)) ≡ Some why → cond p (Err NoStream) (cond r (Err (Retired stream)) (cond q (Err (NotYet (last (commits w.history)))) rest)) ≡ Err why
      by true r q rest e = let k : NoStream ≡ why = cc in ap (λ x. Err x) k
      by false true q rest e = let k : Retired stream ≡ why = cc in ap (λ x. Err x) k
      by false false true rest e = let k : NotYet (last (commits w.history)) ≡ why = cc in ap (λ x. Err x) k
      by false false false rest e = absurd cc

  bars_outcome : (why : Refusal) → refusal_of_transaction config w.history stream read_at ≡ Some why → is_memory why ≡ false
  bars_outcome why = by (nat_lt stream 1 || nat_lt config.streams stream) (is_retired w.history stream) (nat_lt (last (commits w.history)) read_at)
    where
      by : (p r q : Bool) → cond p (Some NoStream) (cond r (Some (Retired stream)) (cond q (Some (NotYet (last (commits w.history)))) None)) ≡ Some why → is_memory why ≡ false
      by true r q e = let k : why ≡ NoStream = cc in ap is_memory k
      by false true q e = let k : why ≡ Retired stream = cc in ap is_memory k
      by false false true e = let k : why ≡ NotYet (last (commits w.history)) = cc in ap is_memory k
      by false false false e = absurd cc

  -- the first refusal of a transaction that is barred
  pub barred_tells : (o : Option Refusal) (why : Refusal) → MatchOption o (IsBuilt ws) (λ x. writes_result finmap.empty ws ≡ Err x) → refusal_of_transaction config w.history stream read_at ≡ Some why → commit_result config w.history stream read_at ws ≡ Err (unwrap_or o why)
  barred_tells None why m e = ap known m.1 ∙ bars m.0 why e
  barred_tells (Some x) why m e = ap known m

  pub barred_hears : (o : Option Refusal) (why : Refusal) → MatchOption o (IsBuilt ws) (λ x. writes_result finmap.empty ws ≡ Err x) → refusal_of_transaction config w.history stream read_at ≡ Some why → is_memory (unwrap_or o why) ≡ false
  barred_hears None why m e = bars_outcome why e
  barred_hears (Some x) why m e = built_outcome ws x m

  -- one that is not barred tells none of the refusals that are tested first
  pub open_first : refusal_of_transaction config w.history stream read_at ≡ None → is_first_outcome (after_commit config w (commit_result config w.history stream read_at ws)).0 ≡ false
  open_first e = of_built (writes_result finmap.empty ws) (built_first ws)
    where
      by : (m : Writes) (p r q : Bool) → cond p (Some NoStream) (cond r (Some (Retired stream)) (cond q (Some (NotYet (last (commits w.history)))) None)) ≡ None →
          is_first_outcome (after_commit config w (cond p (Err NoStream) (cond r (Err (Retired stream)) (cond q (Err (NotYet (last (commits w.history)))) (accepted_writes (commits w.history) stream read_at (finmap.values m) (first_conflict (commits w.history) read_at (finmap.values m)) (first_absent (tables_of (commits w.history)) (finmap.values m))))))).0 ≡ false
      by m true r q e = absurd cc
      by m false true q e = absurd cc
      by m false false true e = absurd cc
      by m false false false e = accepted_first config w (commits w.history) stream read_at (finmap.values m) (first_conflict (commits w.history) read_at (finmap.values m)) (first_absent (tables_of (commits w.history)) (finmap.values m))

      of_built : (x : Result Writes Refusal) → ((why : Refusal) → x ≡ Err why → is_first why ≡ false) → is_first_outcome (after_commit config w (known x)).0 ≡ false
      of_built (Err why) h = h why refl
      of_built (Ok m) h = by m (nat_lt stream 1 || nat_lt config.streams stream) (is_retired w.history stream) (nat_lt (last (commits w.history)) read_at) e

-- what happened is all that was to be said, where nothing is expected that is tested first
pub turned : (old new : Running) (event : EventValue) (result : Result Told Refusal) → Turns old new event result → is_first_outcome (step_outcome old event).0 ≡ false → takes_memory_at (horizons_of old.world.replicas) event ≡ true → Happens old new event result
turned old new event (Ok outcome) t f g = t
turned old new event (Err why) t f g = (t.0, t.1, f, g)

-- ---- on items

accepted_lacks : (config : ConfigValue) (w : World Replica) (history : List Transaction) (stream read_at : ℕ) (ws : List WriteOp) (conflict absent : Option RowKey) → may_lack (after_commit config w (accepted_writes history stream read_at ws conflict absent)).0 ≡ true
accepted_lacks config w history stream read_at ws (Some k) absent = refl
accepted_lacks config w history stream read_at ws None (Some k) = refl
accepted_lacks config w history stream read_at [] None None = refl
accepted_lacks config w history stream read_at (x ∷ more) None None = full (nat_le (2 ^ 62) (last history))
  where
    full : (b : Bool) → may_lack (after_commit config w (cond b (Err ClockFull) (Ok (Some (record { time = last history + 1; stream = stream; writes = x ∷ more }))))).0 ≡ true
    full true = refl
    full false = refl

built_lacks : (ws : List WriteOp) (why : Refusal) → writes_result finmap.empty ws ≡ Err why → is_of_writes why ≡ true
built_lacks ws why e = elim (built_kind finmap.empty ws why e) [ inl t ↦ ap is_of_writes t | inr m ↦ ap is_of_writes m ]

-- a commit that tells none of the refusals that are tested first is accepted, or refused for what it writes
pub commit_lacks : (config : ConfigValue) (w : World Replica) (stream read_at : ℕ) (ws : List WriteOp) → is_first_outcome (after_commit config w (commit_result config w.history stream read_at ws)).0 ≡ false → may_lack (after_commit config w (commit_result config w.history stream read_at ws)).0 ≡ true
commit_lacks config w stream read_at ws = of_built (writes_result finmap.empty ws) (built_lacks ws)
  where
    by : (p r q : Bool) (rest : Result (Option Transaction) Refusal) → may_lack (after_commit config w rest).0 ≡ true →
        is_first_outcome (after_commit config w (cond p (Err NoStream) (cond r (Err (Retired stream)) (cond q (Err (NotYet (last (commits w.history)))) rest)))).0 ≡ false → may_lack (after_commit config w (cond p (Err NoStream) (cond r (Err (Retired stream)) (cond q (Err (NotYet (last (commits w.history)))) rest)))).0 ≡ true
    by true r q rest h e = absurd (true≢false e)
    by false true q rest h e = absurd (true≢false e)
    by false false true rest h e = absurd (true≢false e)
    by false false false rest h e = h

    of_built : (x : Result Writes Refusal) → ((why : Refusal) → x ≡ Err why → is_of_writes why ≡ true) → is_first_outcome (after_commit config w (committed_writes config w.history stream read_at x)).0 ≡ false → may_lack (after_commit config w (committed_writes config w.history stream read_at x)).0 ≡ true
    of_built (Err why) h e = h why refl
    of_built (Ok m) h e =
        by (nat_lt stream 1 || nat_lt config.streams stream) (is_retired w.history stream) (nat_lt (last (commits w.history)) read_at) (accepted_writes (commits w.history) stream read_at (finmap.values m) (first_conflict (commits w.history) read_at (finmap.values m)) (first_absent (tables_of (commits w.history)) (finmap.values m)))
        (accepted_lacks config w (commits w.history) stream read_at (finmap.values m) (first_conflict (commits w.history) read_at (finmap.values m)) (first_absent (tables_of (commits w.history)) (finmap.values m))) e
