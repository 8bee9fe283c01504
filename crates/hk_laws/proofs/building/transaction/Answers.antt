use Rattle.std.proofs.Common.{◌≡◌, sym, ap, ◌∙◌, subst, ◌∷◌, Err, ◌⊎◌, Result, List}
use Rattle.std.specs.FinMap as finmap
use Rattle.hk_types.specs.declared.faults.Refusal.{Refusal}
use Rattle.hk_types.specs.declared.faults.Refusal.TheVariants.{Memory}
use Rattle.hk_model.specs.History.Commits.{writes_result}
use Rattle.hk_model.specs.History.Rows.{row_key_cmp}
use Rattle.hk_model.specs.declared.write_op.WriteOp.{WriteOp}
use Rattle.hk_primary.specs.Txns.{TxnValue}
use Rattle.hk_laws.proofs.BuiltTransactions.{built_more, built_refused}
use Rattle.hk_laws.proofs.building.transaction.Goals as goal

pub returns-in-Err : goal.returns-in-Err
returns-in-Err c =
    let whole : writes_result c.loop-write.txn.writes (c.in-Some.write ∷ c.next.new.self.rest.items) ≡ writes_result finmap.empty c.args.writes.items =
    ap (λ (ws : List WriteOp). writes_result c.loop-write.txn.writes ws) (sym c.in-Some.ensures.steps.0) ∙ c.loop-write.invariant.rest
    in
    subst (λ (x : Result (finmap.FinMap row_key_cmp WriteOp) Refusal). (x ≡ Err c.in-Err.why) ⊎ (c.in-Err.why ≡ Memory)) whole
    (built_refused c.loop-write.txn c.in-Some.write c.next.new.self.rest.items c.in-Err.why c.in-Err.ensures.refused)

pub loop-write-preserved : goal.loop-write-preserved
loop-write-preserved c = record {
  rest = built_more c.loop-write.txn c.add.new.txn c.in-Some.write c.next.new.self.rest.items c.in_default.ensures.accepted c.in_default.ensures.done
      ∙ ap (λ (ws : List WriteOp). writes_result c.loop-write.txn.writes ws) (sym c.in-Some.ensures.steps.0)
      ∙ c.loop-write.invariant.rest;
  time = ap (λ (t : TxnValue). t.read_at) c.in_default.ensures.done ∙ c.loop-write.invariant.time;
}
