-- What a verdict says of an accepted transaction, and when it accepts one.
use Rattle.std.proofs.Common.{◌≡◌, refl, sym, ap, ◌∙◌, subst, ℕ, ◌+◌, ◌^◌, ◌<◌, ◌≤◌, max, arith, Bool, true, false, cond, ◌||◌, ◌==◌, Option, Some, None, List, [], ◌∷◌, map, length, Ok, Err, Result, nat_lt, nat_le, ltb-false, leb-false, eqb-true, eq-eqb, true≢false, le-ltb}
use Rattle.std.proofs.lemmas.Bool.{or_parts}
use Rattle.std.proofs.lemmas.Bool.Decides.{nat_tests}
use Rattle.std.proofs.lemmas.List.{length-map}
use Rattle.std.specs.Option.{option_map}
use Rattle.std.specs.FinMap as finmap
use Rattle.hk_types.specs.Values.{ConfigValue}
use Rattle.hk_types.specs.Numbers.{checked_time}
use Rattle.hk_types.specs.declared.faults.FormFault.{FormFault}
use Rattle.hk_types.specs.declared.faults.FormFault.TheVariants.{BadNumber}
use Rattle.hk_types.specs.declared.faults.Refusal.{Refusal}
use Rattle.hk_types.specs.declared.faults.Refusal.TheVariants.{NotYet, NoStream, ClockFull, Retired}
use Rattle.hk_model.specs.History.Rows.{RowKey, row_key_cmp}
use Rattle.hk_model.specs.History.Histories.{Transaction, History, MayCommit, commits, is_retired, written_key, tables_of, last, Follows, KeysRise}
use Rattle.hk_model.specs.History.Commits.{last_written, first_conflict, first_absent}
use Rattle.hk_model.specs.declared.write_op.WriteOp.{WriteOp}
use Rattle.hk_model.proofs.History.Commits.{rises, follows_at}
use Rattle.hk_model.proofs.Replica.Maps.{row_key_total}
use Rattle.hk_model.proofs.Replica.Visible.{get_entry}
use Rattle.hk_primary.specs.Calls.{verdict_of, verdict_time, time_of, Tells, primary_after}
use Rattle.hk_primary.specs.Log.{PrimaryValue}
use Rattle.hk_primary.specs.Txns.{TxnValue, AreWrites}
use Rattle.hk_primary.specs.Verdicts.{clock, accepted_after, committed_after, AcceptedLaw}

abbrev Writes : Type 0
Writes = finmap.FinMap row_key_cmp WriteOp

keys_rise : (d : Writes) → AreWrites d → KeysRise (map written_key (finmap.values d))
keys_rise d are = rises (finmap.entries d) (λ e i. are.keyed e.0 e.1 (get_entry row_key_cmp row_key_total d e.0 e.1 i)) (finmap.entries_sorted d)

few_values : (d : Writes) → AreWrites d → length (finmap.values d) ≤ 1024
few_values d are = let few = are.few in omega (arith, length-map (finmap.entries d) (λ (x : RowKey × WriteOp). x.1), finmap.len-entries d)

-- ---- an accepted transaction may follow

accepted_follows : (config : ConfigValue) (after : ℕ) (h : List Transaction) (stream : ℕ) (ws : List WriteOp) (a b : Option RowKey) (t : Transaction) → 0 < stream → stream ≤ config.streams → length ws ≤ 1024 → KeysRise (map written_key ws) → b ≡ first_absent (tables_of h) ws → accepted_after after h stream ws a b ≡ Ok (Some t) → Follows config h t × (t.stream ≡ stream)
accepted_follows config after h stream ws (Some k) b t above within few rise p e = absurd cc
accepted_follows config after h stream ws None (Some k) t above within few rise p e = absurd cc
accepted_follows config after h stream [] None None t above within few rise p e = absurd cc
accepted_follows config after h stream (w ∷ ws) None None t above within few rise p e = follows_at config (clock after h) h stream w ws t (omega arith) above within few rise (sym p) e

pub accepted_law_proof : AcceptedLaw
accepted_law_proof config after history stream read_at d t are e =
    elim (nat_lt stream 1 || nat_lt config.streams stream) as (λ c. (nat_lt stream 1 || nat_lt config.streams stream) ≡ c → cond c (Err NoStream) (cond (is_retired history stream) (Err (Retired stream)) in_time) ≡ Ok (Some t) → MayCommit config history t) [
      | true ↦ λ c g. absurd cc
      | false ↦ λ c g.
          let p = or_parts (nat_lt stream 1) (nat_lt config.streams stream) c in
          let above = ltb-false stream 1 p.0 in
          let within = ltb-false config.streams stream p.1 in
          elim (is_retired history stream) as (λ r. is_retired history stream ≡ r → cond r (Err (Retired stream)) in_time ≡ Ok (Some t) → MayCommit config history t) [
            | true ↦ λ r i. absurd cc
            | false ↦ λ r i.
                let a = elim (nat_lt (last h) read_at) as (λ x. cond x (Err (NotYet (last h))) accepted ≡ Ok (Some t) → Follows config h t × (t.stream ≡ stream)) [
                  | true ↦ λ i. absurd cc
                  | false ↦ λ i. accepted_follows config after h stream ws (first_conflict h read_at ws) (first_absent (tables_of h) ws) t above within (few_values d are) (keys_rise d are) refl i
                ] i
                in
                record { follows = a.0; not_retired = ap (is_retired history) a.1 ∙ r }
          ] refl g
    ] refl e
  where
    h : List Transaction
    h = commits history

    ws : List WriteOp
    ws = finmap.values d

    accepted : Result (Option Transaction) Refusal
    accepted = accepted_after after h stream ws (first_conflict h read_at ws) (first_absent (tables_of h) ws)

    in_time : Result (Option Transaction) Refusal
    in_time = cond (nat_lt (last h) read_at) (Err (NotYet (last h))) accepted

-- ---- an accepted transaction is the one that was handed in

accepted_shape : (after : ℕ) (h : List Transaction) (stream : ℕ) (ws : List WriteOp) (a b : Option RowKey) (time : ℕ) → Ok (Some time) ≡ verdict_time (accepted_after after h stream ws a b) → accepted_after after h stream ws a b ≡ Ok (Some (record { time = time; stream = stream; writes = ws }))
accepted_shape after h stream ws (Some k) b time e = absurd cc
accepted_shape after h stream ws None (Some k) time e = absurd cc
accepted_shape after h stream [] None None time e = absurd cc
accepted_shape after h stream (w ∷ ws) None None time e =
    let yes : Result (Option Transaction) Refusal = Ok (Some (record { time = clock after h + 1; stream = stream; writes = w ∷ ws })) in
    let goal : Result (Option Transaction) Refusal = Ok (Some (record { time = time; stream = stream; writes = w ∷ ws })) in
    elim (nat_le (2 ^ 62) (clock after h)) as (λ b. Ok (Some time) ≡ verdict_time (cond b (Err ClockFull) yes) → cond b (Err ClockFull) yes ≡ goal) [
      | true ↦ λ f. absurd cc
      | false ↦ λ f. let same : clock after h + 1 ≡ time = cc in λ i. Ok (Some (record { time = same i; stream = stream; writes = w ∷ ws }))
    ] e

pub judged_shape : (p : PrimaryValue) (txn : TxnValue) (stream time : ℕ) → Ok (Some time) ≡ verdict_time (verdict_of p txn stream) → verdict_of p txn stream ≡ Ok (Some (record { time = time; stream = stream; writes = finmap.values txn.writes }))
judged_shape p txn stream time e =
    let ws = finmap.values txn.writes in
    let h = commits p.history in
    let rest = accepted_after p.after h stream ws (first_conflict h txn.read_at ws) (first_absent (tables_of h) ws) in
    let in_time : Result (Option Transaction) Refusal = cond (nat_lt (last h) txn.read_at) (Err (NotYet (last h))) rest in
    let goal : Result (Option Transaction) Refusal = Ok (Some (record { time = time; stream = stream; writes = ws })) in
    elim (nat_lt stream 1 || nat_lt p.config.streams stream) as (λ c. Ok (Some time) ≡ verdict_time (cond c (Err NoStream) (cond (is_retired p.history stream) (Err (Retired stream)) in_time)) → cond c (Err NoStream) (cond (is_retired p.history stream) (Err (Retired stream)) in_time) ≡ goal) [
      | true ↦ λ g. absurd cc
      | false ↦ elim (is_retired p.history stream) as (λ r. Ok (Some time) ≡ verdict_time (cond r (Err (Retired stream)) in_time) → cond r (Err (Retired stream)) in_time ≡ goal) [
        | true ↦ λ g. absurd cc
        | false ↦ elim (nat_lt (last h) txn.read_at) as (λ x. Ok (Some time) ≡ verdict_time (cond x (Err (NotYet (last h))) rest) → cond x (Err (NotYet (last h))) rest ≡ goal) [
          | true ↦ λ g. absurd cc
          | false ↦ λ g. accepted_shape p.after h stream ws (first_conflict h txn.read_at ws) (first_absent (tables_of h) ws) time g
        ]
      ]
    ] e

-- ---- what is left to say where nothing is against the writes

none_found : {X Y : Type 0} (f : X → Y) (o : Option X) → None ≡ option_map f o → o ≡ None
none_found f None e = refl
none_found f (Some x) e = absurd cc

module _ (p : PrimaryValue) (txn : TxnValue) (stream : ℕ) (above : 1 ≤ stream) (within : stream ≤ p.config.streams) (still : is_retired p.history stream ≡ false) (read : txn.read_at ≤ last (commits p.history))
    (no_conflict : None ≡ option_map {U = RowKey × ℕ} (λ k. (k, last_written (commits p.history) k)) (first_conflict (commits p.history) txn.read_at (finmap.values txn.writes)))
    (no_absent : None ≡ first_absent (tables_of (commits p.history)) (finmap.values txn.writes)) where
  abbrev ws : List WriteOp
  ws = finmap.values txn.writes

  no_way : (nat_lt stream 1 || nat_lt p.config.streams stream) ≡ false
  no_way = λ i. le-ltb stream 1 above i || le-ltb p.config.streams stream within i

  judged_is : verdict_of p txn stream ≡ accepted_after p.after (commits p.history) stream ws None None
  judged_is =
      (λ i. cond (no_way i) (Err NoStream) (cond (still i) (Err (Retired stream)) (cond (le-ltb (last (commits p.history)) txn.read_at read i) (Err (NotYet (last (commits p.history)))) (accepted_after p.after (commits p.history) stream ws (none_found (λ k. (k, last_written (commits p.history) k)) (first_conflict (commits p.history) txn.read_at ws) no_conflict i) (sym no_absent i)))))

  no_values : (xs : List WriteOp) → length xs ≡ 0 → verdict_time (accepted_after p.after (commits p.history) stream xs None None) ≡ Ok None
  no_values [] e = refl
  no_values (x ∷ xs) e = absurd (omega arith)

  pub judged_empty : (finmap.len txn.writes == 0) ≡ true → Ok None ≡ verdict_time (verdict_of p txn stream)
  judged_empty e =
      let none = eqb-true (finmap.len txn.writes) 0 e in
      let long : length ws ≡ 0 = omega (arith, length-map (finmap.entries txn.writes) (λ (x : RowKey × WriteOp). x.1), finmap.len-entries txn.writes) in
      sym (ap verdict_time judged_is ∙ no_values ws long)

  some_values : (xs : List WriteOp) → (length xs ≡ 0 → ⊥) → verdict_time (accepted_after p.after (commits p.history) stream xs None None) ≡ cond (nat_le (2 ^ 62) (clock p.after (commits p.history))) (Err ClockFull) (Ok (Some (clock p.after (commits p.history) + 1)))
  some_values [] n = absurd (n refl)
  some_values (x ∷ xs) n = elim (nat_le (2 ^ 62) (clock p.after (commits p.history))) as (λ b. verdict_time (cond {A = Result (Option Transaction) Refusal} b (Err ClockFull) (Ok (Some (record { time = clock p.after (commits p.history) + 1; stream = stream; writes = x ∷ xs })))) ≡ cond b (Err ClockFull) (Ok (Some (clock p.after (commits p.history) + 1)))) [ true ↦ refl | false ↦ refl ]

  judged_some : (finmap.len txn.writes == 0) ≡ false → verdict_time (verdict_of p txn stream) ≡ cond (nat_le (2 ^ 62) (clock p.after (commits p.history))) (Err ClockFull) (Ok (Some (clock p.after (commits p.history) + 1)))
  judged_some e =
      ap verdict_time judged_is ∙ some_values ws (λ z. let long : finmap.len txn.writes ≡ 0 = omega (arith, length-map (finmap.entries txn.writes) (λ (x : RowKey × WriteOp). x.1), finmap.len-entries txn.writes) in true≢false (sym (eq-eqb (finmap.len txn.writes) 0 long) ∙ e))

  full_or_not : (n : ℕ) → nat_le (2 ^ 62) n ≡ nat_lt (2 ^ 62) (n + 1)
  full_or_not n = grind (arith, nat_tests)

  pub judged_time : (finmap.len txn.writes == 0) ≡ false → (n time : ℕ) → n ≡ clock p.after (commits p.history) → Ok time ≡ checked_time (n + 1) → Ok (Some time) ≡ verdict_time (verdict_of p txn stream)
  judged_time e n time is ok =
      elim (nat_lt (2 ^ 62) (n + 1)) as (λ b. nat_lt (2 ^ 62) (n + 1) ≡ b → ◌≡◌ {A = Result ℕ FormFault} (Ok time) (cond b (Err BadNumber) (Ok (n + 1))) → Ok (Some time) ≡ verdict_time (verdict_of p txn stream)) [
        | true ↦ λ t f. absurd cc
        | false ↦ λ t f.
            let same : time ≡ n + 1 = cc in
            sym (judged_some e ∙ (λ i. cond ((ap (nat_le (2 ^ 62)) (sym is) ∙ full_or_not n ∙ t) i) (Err ClockFull) (Ok (Some (clock p.after (commits p.history) + 1)))) ∙ ap (λ m. Ok (Some m)) (ap (λ k. k + 1) (sym is) ∙ sym same))
      ] refl ok

  pub judged_full : (finmap.len txn.writes == 0) ≡ false → (n : ℕ) (why : FormFault) → n ≡ clock p.after (commits p.history) → Err why ≡ checked_time (n + 1) → Err ClockFull ≡ verdict_time (verdict_of p txn stream)
  judged_full e n why is err =
      elim (nat_lt (2 ^ 62) (n + 1)) as (λ b. nat_lt (2 ^ 62) (n + 1) ≡ b → ◌≡◌ {A = Result ℕ FormFault} (Err why) (cond b (Err BadNumber) (Ok (n + 1))) → Err ClockFull ≡ verdict_time (verdict_of p txn stream)) [
        | true ↦ λ t f. sym (judged_some e ∙ (λ i. cond ((ap (nat_le (2 ^ 62)) (sym is) ∙ full_or_not n ∙ t) i) (Err ClockFull) (Ok (Some (clock p.after (commits p.history) + 1)))))
        | false ↦ λ t f. absurd cc
      ] refl err
