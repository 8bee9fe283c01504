-- What one more write makes of a transaction's writes.
use Rattle.std.proofs.Common.{◌≡◌, refl, sym, ap, ◌∙◌, subst, ℕ, ◌+◌, ◌≤◌, ◌<◌, arith, Bool, true, false, cond, Some, None, Option, nat_le, leb-false}
use Rattle.std.specs.Ordering.{eq_by_cmp}
use Rattle.std.specs.FinMap as finmap
use Rattle.hk_types.specs.declared.faults.Refusal.{Refusal}
use Rattle.hk_types.specs.declared.faults.Refusal.TheVariants.{TwiceWritten, TooManyWrites}
use Rattle.hk_model.specs.History.Rows.{RowKey, row_key_cmp}
use Rattle.hk_model.specs.History.Histories.{written_key}
use Rattle.hk_model.specs.declared.write_op.WriteOp.{WriteOp}
use Rattle.hk_model.proofs.Replica.Maps.{row_key_total}
use Rattle.hk_model.proofs.History.Writes.{tied_key}
use Rattle.hk_primary.specs.Txns.{TxnValue, AreWrites, write_refused}

abbrev Writes : Type 0
Writes = finmap.FinMap row_key_cmp WriteOp

pub no_write : AreWrites finmap.empty
no_write = record {
  keyed = λ k w e. absurd (let none = finmap.get-empty {X = WriteOp} row_key_cmp k in cc);
  few = omega (arith, finmap.len-empty row_key_cmp WriteOp);
}

abbrev refused_by : Bool → Bool → Option Refusal
refused_by twice many = cond twice (Some TwiceWritten) (cond many (Some TooManyWrites) None)

accepted_parts : (twice many : Bool) → refused_by twice many ≡ None → (twice ≡ false) × (many ≡ false)
accepted_parts true many e = absurd cc
accepted_parts false true e = absurd cc
accepted_parts false false e = (refl, refl)

pub one_more : (t : TxnValue) (w : WriteOp) → AreWrites t.writes → write_refused t (written_key w) ≡ None → AreWrites (finmap.insert t.writes (written_key w) w)
one_more t x are e =
    let p = accepted_parts (finmap.contains_key t.writes (written_key x)) (nat_le 1024 (finmap.len t.writes)) e in
    let few = leb-false 1024 (finmap.len t.writes) p.1 in
    let n : finmap.len (finmap.insert t.writes (written_key x) x) ≡ finmap.len t.writes + 1 = finmap.len-insert row_key_total t.writes (written_key x) x ∙ ap (λ b. cond b (finmap.len t.writes) (finmap.len t.writes + 1)) p.0 in
    record {
      keyed = λ k w f.
          elim (eq_by_cmp row_key_cmp k (written_key x)) as (λ b. eq_by_cmp row_key_cmp k (written_key x) ≡ b → cond b (Some x) (finmap.get t.writes k) ≡ Some w → written_key w ≡ k) [
            | true ↦ λ s g. let same : x ≡ w = cc in ap written_key (sym same) ∙ sym (tied_key k (written_key x) s)
            | false ↦ λ s g. are.keyed k w g
          ] refl (sym (finmap.get-insert row_key_total t.writes (written_key x) x k) ∙ f);
      few = omega arith;
    }
