-- What a transaction is that is being built.
use Rattle.std.specs.Prelude.{◌≡◌, ℕ, ◌≤◌, List, Option, Some, None, if◌then◌else◌, nat_le, refl}
use Rattle.std.specs.Coded.{Coded, code_by, coded×, coded_ℕ, coded_option}
use Rattle.std.specs.FinMap as finmap
use Rattle.hk_types.specs.Values.{RowValue}
use Rattle.hk_types.specs.declared.faults.Refusal.{Refusal}
use Rattle.hk_types.specs.declared.faults.Refusal.TheVariants.{TwiceWritten, TooManyWrites, Memory}
use Rattle.hk_log.specs.Versions.{row_code}
use Rattle.hk_model.specs.History.Rows.{RowKey, row_key_cmp}
use Rattle.hk_model.specs.History.Histories.{Transaction, written_key}
use Rattle.hk_model.specs.declared.write_op.WriteOp.{WriteOp}
use Rattle.hk_model.specs.declared.write_op.WriteOp.TheVariants.{Put, Remove}

-- the value of a `Txn`: the time at which it reads, and its writes by key
pub record TxnValue : Type 0 where
  pub read_at : ℕ
  pub writes : finmap.FinMap row_key_cmp WriteOp

-- a write as its key and its row, if it has one, and back
abbrev pub parts_of_write : WriteOp → ℕ × (ℕ × Option RowValue)
parts_of_write (Put table key row) = (table, (key, Some row))
parts_of_write (Remove table key) = (table, (key, None))

abbrev pub write_of_row : ℕ → ℕ → Option RowValue → WriteOp
write_of_row table key (Some row) = Put table key row
write_of_row table key None = Remove table key

pub write_again : (w : WriteOp) → write_of_row (parts_of_write w).0 (parts_of_write w).1.0 (parts_of_write w).1.1 ≡ w
write_again (Put table key row) = refl
write_again (Remove table key) = refl

abbrev pub write_code : Coded WriteOp
write_code = code_by (ℕ × (ℕ × Option RowValue)) (coded× coded_ℕ (coded× coded_ℕ (coded_option row_code))) parts_of_write (λ p. write_of_row p.0 p.1.0 p.1.1) write_again

abbrev pub row_key_code : Coded RowKey
row_key_code = code_by (ℕ × ℕ) (coded× coded_ℕ coded_ℕ) (λ k. (k.table, k.key)) (λ p. record { table = p.0; key = p.1 }) (λ _. refl)

abbrev pub txn_code : Coded TxnValue
txn_code = code_by (ℕ × finmap.FinMap row_key_cmp WriteOp) (coded× coded_ℕ (finmap.code row_key_code write_code)) (λ t. (t.read_at, t.writes)) (λ p. record { read_at = p.0; writes = p.1 }) (λ _. refl)

-- each write stands at its own key, and there are at most 1,024
pub record AreWrites (writes : finmap.FinMap row_key_cmp WriteOp) : Type 0 where
  pub keyed : (k : RowKey) (w : WriteOp) → finmap.get writes k ≡ Some w → written_key w ≡ k
  pub few : finmap.len writes ≤ 1024

-- a transaction with no writes
abbrev pub no_writes : ℕ → TxnValue
no_writes read_at = record { read_at = read_at; writes = finmap.empty }

-- the writes of a transaction, by rising key
abbrev pub writes_in : TxnValue → List WriteOp
writes_in t = finmap.values t.writes

-- the transaction that commits these writes on a stream at a time
abbrev pub committed_at : TxnValue → ℕ → ℕ → Transaction
committed_at t stream time = record { time = time; stream = stream; writes = writes_in t }

-- why a write of this key is refused, if it is
abbrev pub write_refused : TxnValue → RowKey → Option Refusal
write_refused t k =
    if finmap.contains_key t.writes k then Some TwiceWritten
    else if nat_le 1024 (finmap.len t.writes) then Some TooManyWrites
    else None

-- the transaction with one more write
abbrev pub with_write : TxnValue → WriteOp → TxnValue
with_write t w = record { read_at = t.read_at; writes = finmap.insert t.writes (written_key w) w }

-- it is refused so, and where nothing is against it, memory ran out
abbrev pub IsRefusal : Option Refusal → Refusal → Type 0
IsRefusal (Some why) e = e ≡ why
IsRefusal None e = e ≡ Memory
