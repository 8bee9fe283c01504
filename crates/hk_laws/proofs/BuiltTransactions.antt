-- Building a transaction write by write.
use Rattle.std.proofs.Common.{◌≡◌, refl, sym, ap, ◌∙◌, Bool, true, false, cond, Option, Some, None, List, ◌∷◌, nat_le, Result, Err, ◌⊎◌, inl, inr}
use Rattle.std.specs.FinMap as finmap
use Rattle.hk_types.specs.declared.faults.Refusal.{Refusal}
use Rattle.hk_types.specs.declared.faults.Refusal.TheVariants.{TwiceWritten, TooManyWrites, Memory}
use Rattle.hk_model.specs.History.Commits.{writes_result}
use Rattle.hk_model.specs.History.Histories.{written_key}
use Rattle.hk_model.specs.History.Rows.{row_key_cmp}
use Rattle.hk_model.specs.declared.write_op.WriteOp.{WriteOp}
use Rattle.hk_primary.specs.Txns.{TxnValue, IsRefusal, with_write, write_refused}

-- the outcome of a write, and of those after it
abbrev built_on : Option Refusal → Result (finmap.FinMap row_key_cmp WriteOp) Refusal → Result (finmap.FinMap row_key_cmp WriteOp) Refusal
built_on (Some why) rest = Err why
built_on None rest = rest

built_next : (t : TxnValue) (w : WriteOp) (more : List WriteOp) → writes_result t.writes (w ∷ more) ≡ built_on (write_refused t (written_key w)) (writes_result (with_write t w).writes more)
built_next t w more = by (finmap.contains_key t.writes (written_key w)) (nat_le 1024 (finmap.len t.writes)) (writes_result (with_write t w).writes more)
  where
    by : (twice many : Bool) (rest : Result (finmap.FinMap row_key_cmp WriteOp) Refusal) → cond twice (Err TwiceWritten) (cond many (Err TooManyWrites) rest) ≡ built_on (cond twice (Some TwiceWritten) (cond many (Some TooManyWrites) None)) rest
    by true many rest = refl
    by false true rest = refl
    by false false rest = refl

-- an accepted write leaves the others to be built
pub built_more : (t u : TxnValue) (w : WriteOp) (more : List WriteOp) → write_refused t (written_key w) ≡ None → u ≡ with_write t w → writes_result u.writes more ≡ writes_result t.writes (w ∷ more)
built_more t u w more e f = ap (λ (x : TxnValue). writes_result x.writes more) f ∙ sym (built_next t w more ∙ ap (λ x. built_on x (writes_result (with_write t w).writes more)) e)

-- a refused write is the outcome, unless memory ran out
pub built_refused : (t : TxnValue) (w : WriteOp) (more : List WriteOp) (why : Refusal) → IsRefusal (write_refused t (written_key w)) why → (writes_result t.writes (w ∷ more) ≡ Err why) ⊎ (why ≡ Memory)
built_refused t w more why r = by (write_refused t (written_key w)) refl r
  where
    by : (x : Option Refusal) → write_refused t (written_key w) ≡ x → IsRefusal x why → (writes_result t.writes (w ∷ more) ≡ Err why) ⊎ (why ≡ Memory)
    by None e i = inr i
    by (Some y) e i = inl (built_next t w more ∙ ap (λ x. built_on x (writes_result (with_write t w).writes more)) e ∙ ap (λ z. Err z) (sym i))
