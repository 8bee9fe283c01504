use Rattle.std.proofs.Common.{◌≡◌, sym, ap, ◌∙◌, subst, Some, None}
use Rattle.std.specs.FinMap as finmap
use Rattle.hk_model.specs.declared.write_op.WriteOp.TheVariants.{Remove}
use Rattle.hk_primary.specs.Txns.{AreWrites, TxnValue, write_refused}
use Rattle.hk_primary.proofs.StoredWrites.{seen, seen_insert}
use Rattle.hk_primary.proofs.OneMoreWrite.{one_more}
use Rattle.hk_primary.proofs.txn.Txn.remove.Goals as goal

pub invariant_of-self-2 : goal.invariant_of-self-2
invariant_of-self-2 c =
    let t : TxnValue = record { read_at = c.self.inside.read_at; writes = seen c.self.inside.writes } in
    let w = Remove c.args.table c.args.key in
    let none : write_refused t c.new-place.result ≡ None = ap (λ (x : TxnValue). write_refused x c.new-place.result) c.self.view_is ∙ sym c.in_default.ensures in
    rw (seen_insert c.self.inside.writes c.insert.new.self c.new-place.result w c.in_ok-insert.ensures.updates, c.new-place.ensures)
    (one_more t w c.self.invariant (ap (write_refused t) (sym c.new-place.ensures) ∙ none))

pub returns-clause-done : goal.returns-clause-done
returns-clause-done c =
    let w = Remove c.args.table c.args.key in
    rw (← c.self.view_is) (ap (λ m. record { read_at = c.self.inside.read_at; writes = m }) (seen_insert c.self.inside.writes c.insert.new.self c.new-place.result w c.in_ok-insert.ensures.updates ∙ ap (λ k. finmap.insert (seen c.self.inside.writes) k w) c.new-place.ensures))
