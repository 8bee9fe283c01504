-- What a primary whose clock starts after a time makes of a transaction.
use Rattle.std.specs.Prelude.{◌≡◌, ℕ, ◌+◌, ◌^◌, max, List, [], ◌∷◌, Option, Some, None, ◌||◌, nat_le, nat_lt, if◌then◌else◌, Result, Ok, Err}
use Rattle.std.specs.FinMap as finmap
use Rattle.hk_types.specs.Values.{ConfigValue}
use Rattle.hk_types.specs.declared.faults.Refusal.{Refusal}
use Rattle.hk_types.specs.declared.faults.Refusal.TheVariants.{NoStream, WriteConflict, NoRow, ClockFull, Retired, NotYet}
use Rattle.hk_model.specs.History.Rows.{RowKey, row_key_cmp}
use Rattle.hk_model.specs.History.Histories.{Transaction, History, commits, is_retired, tables_of, last, MayCommit}
use Rattle.hk_model.specs.History.Commits.{last_written, first_conflict, first_absent, committed_writes}
use Rattle.hk_model.specs.declared.write_op.WriteOp.{WriteOp}
use Rattle.hk_primary.specs.Txns.{AreWrites}

-- the time that the clock shows: the greater of the time that it starts after and the last commit's
abbrev pub clock : ℕ → List Transaction → ℕ
clock after history = max after (last history)

-- the transaction of these writes in rising order, where they are accepted: its time is the next one
abbrev pub accepted_after : ℕ → List Transaction → ℕ → List WriteOp → Option RowKey → Option RowKey → Result (Option Transaction) Refusal
accepted_after after history stream writes (Some k) absent = Err (WriteConflict k.table k.key (last_written history k))
accepted_after after history stream writes None (Some k) = Err (NoRow k.table k.key)
accepted_after after history stream [] None None = Ok None
accepted_after after history stream (w ∷ more) None None =
    if nat_le (2 ^ 62) (clock after history) then Err ClockFull
    else Ok (Some (record { time = clock after history + 1; stream = stream; writes = w ∷ more }))

-- what a commit of these writes gives: the transaction that extends the history, nothing, or a refusal
abbrev pub committed_after : ConfigValue → ℕ → History → ℕ → ℕ → finmap.FinMap row_key_cmp WriteOp → Result (Option Transaction) Refusal
committed_after config after history stream read_at writes =
    if nat_lt stream 1 || nat_lt config.streams stream then Err NoStream
    else if is_retired history stream then Err (Retired stream)
    else if nat_lt (last (commits history)) read_at then Err (NotYet (last (commits history)))
    else accepted_after after (commits history) stream (finmap.values writes) (first_conflict (commits history) read_at (finmap.values writes)) (first_absent (tables_of (commits history)) (finmap.values writes))

-- with a clock that starts at 0 it is the verdict of the definition
abbrev pub FromZeroLaw : Type 0
FromZeroLaw =
    (config : ConfigValue) (history : History) (stream read_at : ℕ) (writes : finmap.FinMap row_key_cmp WriteOp)
    → committed_after config 0 history stream read_at writes ≡ committed_writes config history stream read_at (Ok writes)

-- an accepted transaction may follow the history
abbrev pub AcceptedLaw : Type 0
AcceptedLaw =
    (config : ConfigValue) (after : ℕ) (history : History) (stream read_at : ℕ) (writes : finmap.FinMap row_key_cmp WriteOp) (t : Transaction)
    → AreWrites writes → committed_after config after history stream read_at writes ≡ Ok (Some t) → MayCommit config history t
