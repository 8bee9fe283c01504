-- A commit in a world turns out as the primary's verdict says.
use Rattle.std.proofs.Common.{◌≡◌, refl, sym, ap, ◌∙◌, subst, ℕ, Bool, false, true≢false, cond, max, arith, ◌+◌, ◌^◌, ◌||◌, nat_le, nat_lt, Option, Some, None, List, [], ◌∷◌, Ok, Err, Result, MatchResult, OnOk, OnErr}
use Rattle.hk_types.specs.declared.faults.Refusal.{Refusal}
use Rattle.hk_types.specs.declared.faults.Refusal.TheVariants.{Memory, NoStream, Retired, NotYet, ClockFull}
use Rattle.hk_model.specs.declared.write_op.WriteOp.{WriteOp}
use Rattle.hk_model.specs.declared.told.Told.{Told}
use Rattle.hk_model.specs.Replica.Content.{Content}
use Rattle.hk_model.specs.History.Histories.{Transaction, commits, is_retired, last, tables_of}
use Rattle.hk_model.specs.History.Rows.{RowKey}
use Rattle.hk_model.specs.History.Commits.{commit_result, committed_writes, accepted_writes, first_conflict, first_absent, writes_result}
use Rattle.hk_model.specs.World.Events.{told_seen}
use Rattle.hk_model.specs.World.Worlds.{ToldValue, World, after_commit}
use Rattle.hk_model.specs.World.Worlds.EventValue.{Commit}
use Rattle.hk_model.specs.World.Worlds.ToldValue.{Committed, Refused}
use Rattle.hk_primary.specs.Calls.{Tells, primary_after, verdict_of}
use Rattle.hk_primary.specs.Log.{PrimaryValue}
use Rattle.hk_primary.specs.Txns.{TxnValue}
use Rattle.hk_primary.specs.Verdicts.{committed_after, accepted_after}
use Rattle.hk_acting.specs.Telling.{is_memory, is_memory_outcome}
use Rattle.hk_laws.specs.Calls.{Turns}
use Rattle.hk_laws.specs.Running.{Running}
use Rattle.hk_acting.proofs.OutOfMemory.{Passes}
use Rattle.std.specs.FinMap as finmap

zero_clock : (n : ℕ) → n ≡ max 0 n
zero_clock n = omega arith

-- a clock that starts at 0 shows the last commit's time
same_accepted : (h : List Transaction) (stream read_at : ℕ) (ws : List WriteOp) (a b : Option RowKey) → accepted_writes h stream read_at ws a b ≡ accepted_after 0 h stream ws a b
same_accepted h stream read_at ws (Some k) b = refl
same_accepted h stream read_at ws None (Some k) = refl
same_accepted h stream read_at [] None None = refl
same_accepted h stream read_at (w ∷ more) None None =
    ap (λ n. cond (nat_le (2 ^ 62) n) (Err ClockFull) (Ok (Some (record { time = n + 1; stream = stream; writes = w ∷ more })))) (zero_clock (last h))

-- a world with this primary and these replicas
abbrev pub world_of : PrimaryValue → List Content → Running
world_of p replicas = record { config = p.config; world = record { history = p.history; emitted = p.items; replicas = replicas } }

module _ (p q : PrimaryValue) (replicas : List Content) where
  abbrev expected : Result (Option Transaction) Refusal → ToldValue × World Content
  expected v = after_commit p.config (world_of p replicas).world v

  -- an outcome is as the verdict says
  abbrev TurnsBy : Result (Option Transaction) Refusal → Result Told Refusal → Type 0
  TurnsBy v (Ok outcome) = (told_seen outcome ≡ (expected v).0) × (world_of q replicas ≡ record { config = p.config; world = (expected v).1 }) × (is_memory_outcome (told_seen outcome) ≡ false)
  TurnsBy v (Err why) = (why ≡ Memory) × (world_of q replicas ≡ world_of p replicas)

  committed_by : (v : Result (Option Transaction) Refusal) (time : Option ℕ) (outcome : Told) → told_seen outcome ≡ Committed time → Tells v (Ok time) → q ≡ primary_after p v → TurnsBy v (Ok outcome)
  committed_by (Ok None) time outcome told e n = (told ∙ ap Committed e, ap (λ x. world_of x replicas) n, ap is_memory_outcome told)
  committed_by (Ok (Some t)) time outcome told e n = (told ∙ ap Committed e, ap (λ x. world_of x replicas) n, ap is_memory_outcome told)
  committed_by (Err why) time outcome told e n = absurd e

  refused_by : (v : Result (Option Transaction) Refusal) (e : TxnValue × Refusal) (out : Result Told Refusal) → Tells v (Err e) → q ≡ p → Passes e.1 out → TurnsBy v out
  refused_by (Ok None) e out t n m = absurd t
  refused_by (Ok (Some t)) e (Ok outcome) told n m = absurd (true≢false (sym (ap is_memory told) ∙ m.1))
  refused_by (Ok (Some t)) e (Err why) told n m = (m.0, ap (λ x. world_of x replicas) n)
  refused_by (Err why) e (Ok outcome) told n m = (m.0 ∙ ap Refused told, ap (λ x. world_of x replicas) n, ap is_memory_outcome m.0 ∙ m.1)
  refused_by (Err why) e (Err other) told n m = (m.0, ap (λ x. world_of x replicas) n)

  turns_by : (stream read_at : ℕ) (ws : List WriteOp) (v : Result (Option Transaction) Refusal) (out : Result Told Refusal) → commit_result p.config p.history stream read_at ws ≡ v → TurnsBy v out → Turns (world_of p replicas) (world_of q replicas) (Commit stream read_at ws) out
  turns_by stream read_at ws v (Ok outcome) e t = subst (λ x. TurnsBy x (Ok outcome)) (sym e) t
  turns_by stream read_at ws v (Err why) e t = t

  -- what a transaction of these writes commits as is what the definition says of the writes
  same_verdict : p.after ≡ 0 → (txn : TxnValue) (stream : ℕ) (ws : List WriteOp) → writes_result finmap.empty ws ≡ Ok txn.writes → commit_result p.config p.history stream txn.read_at ws ≡ verdict_of p txn stream
  same_verdict zero txn stream ws built =
      let h = commits p.history in
      let ds = finmap.values txn.writes in
      ap (committed_writes p.config p.history stream txn.read_at) built
      ∙ ap (λ x. cond (nat_lt stream 1 || nat_lt p.config.streams stream) (Err NoStream) (cond (is_retired p.history stream) (Err (Retired stream)) (cond (nat_lt (last h) txn.read_at) (Err (NotYet (last h))) x)))
      (same_accepted h stream txn.read_at ds (first_conflict h txn.read_at ds) (first_absent (tables_of h) ds))
      ∙ ap (λ after. committed_after p.config after p.history stream txn.read_at txn.writes) (sym zero)

  pub turned_committed : p.after ≡ 0 → (txn : TxnValue) (stream : ℕ) (ws : List WriteOp) → writes_result finmap.empty ws ≡ Ok txn.writes → (time : Option ℕ) (outcome : Told) → told_seen outcome ≡ Committed time → Tells (verdict_of p txn stream) (Ok time) → q ≡ primary_after p (verdict_of p txn stream) →
      Turns (world_of p replicas) (world_of q replicas) (Commit stream txn.read_at ws) (Ok outcome)
  turned_committed zero txn stream ws built time outcome told e n =
      turns_by stream txn.read_at ws (verdict_of p txn stream) (Ok outcome) (same_verdict zero txn stream ws built) (committed_by (verdict_of p txn stream) time outcome told e n)

  pub turned_refused : p.after ≡ 0 → (txn : TxnValue) (stream : ℕ) (ws : List WriteOp) → writes_result finmap.empty ws ≡ Ok txn.writes → (e : TxnValue × Refusal) (out : Result Told Refusal) → Tells (verdict_of p txn stream) (Err e) → q ≡ p → Passes e.1 out →
      Turns (world_of p replicas) (world_of q replicas) (Commit stream txn.read_at ws) out
  turned_refused zero txn stream ws built e out told n m =
      turns_by stream txn.read_at ws (verdict_of p txn stream) out (same_verdict zero txn stream ws built) (refused_by (verdict_of p txn stream) e out told n m)
