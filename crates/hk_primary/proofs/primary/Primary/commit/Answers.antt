use Rattle.std.proofs.Common.{◌≡◌, ℕ, sym, ap, ◌∙◌, subst, Result, Ok, Err, Option, Some, None, refl}
use Rattle.hk_types.specs.declared.faults.Refusal.{Refusal}
use Rattle.hk_primary.specs.Calls.{Tells, primary_after, verdict_of, verdict_time}
use Rattle.hk_primary.specs.Log.{PrimaryValue}
use Rattle.hk_primary.specs.Txns.{TxnValue, committed_at}
use Rattle.std.specs.FinMap as finmap
use Rattle.hk_model.specs.History.Histories.{Transaction}
use Rattle.hk_primary.proofs.Verdicts.{accepted_law_proof, judged_shape}
use Rattle.hk_primary.proofs.primary.Primary.commit.Goals as goal

-- what is told where the verdict is a refusal, or that nothing is written
refused : (v : Result (Option Transaction) Refusal) (why : Refusal) (txn : TxnValue) → Err why ≡ verdict_time v → Tells v (Err (txn, why))
refused (Ok t) why txn e = absurd (cc)
refused (Err w) why txn e = cc

empty : (p : PrimaryValue) (v : Result (Option Transaction) Refusal) → Ok None ≡ verdict_time v → Tells v (Ok None) × (p ≡ primary_after p v)
empty p (Ok None) e = (refl, refl)
empty p (Ok (Some t)) e = absurd (cc)
empty p (Err w) e = absurd (cc)

pub store-requires : goal.store-requires
store-requires c =
    let p : PrimaryValue = c.args.self.now in
    let time = c.in-Ok-Some.time in
    let t : Transaction = record { time = time; stream = c.args.stream; writes = finmap.values c.args.txn.writes } in
    let verdict : Ok (Some time) ≡ verdict_time (verdict_of p c.args.txn c.args.stream) = sym (c.in-Ok-Some.is ∙ ap Ok c.in-Ok-Some.field-0-is) ∙ c.judge.ensures.verdict in
    accepted_law_proof p.config p.after p.history c.args.stream c.args.txn.read_at c.args.txn.writes t c.judge.ensures.lawful (judged_shape p c.args.txn c.args.stream time verdict)

pub returns-in-Err-clause-told : goal.returns-in-Err-clause-told
returns-in-Err-clause-told c = refused (verdict_of c.args.self.now c.args.txn c.args.stream) c.in-Err.why c.args.txn c.in-Err.ensures.verdict

pub returns-in-Ok-clause-told : goal.returns-in-Ok-clause-told
returns-in-Ok-clause-told c =
    let p : PrimaryValue = c.args.self.now in
    let time = c.in-Ok-Some.time in
    let verdict : Ok (Some time) ≡ verdict_time (verdict_of p c.args.txn c.args.stream) = sym (c.in-Ok-Some.is ∙ ap Ok c.in-Ok-Some.field-0-is) ∙ c.judge.ensures.verdict in
    subst (λ (v : Result (Option Transaction) Refusal). Tells v (Ok (Some time))) (sym (judged_shape p c.args.txn c.args.stream time verdict)) refl

pub returns-in-Ok-clause-done : goal.returns-in-Ok-clause-done
returns-in-Ok-clause-done c =
    let p : PrimaryValue = c.args.self.now in
    let time = c.in-Ok-Some.time in
    let verdict : Ok (Some time) ≡ verdict_time (verdict_of p c.args.txn c.args.stream) = sym (c.in-Ok-Some.is ∙ ap Ok c.in-Ok-Some.field-0-is) ∙ c.judge.ensures.verdict in
    c.in-Ok.ensures.ok ∙ ap (primary_after p) (sym (judged_shape p c.args.txn c.args.stream time verdict))

pub returns-in-Err-store-clause-told : goal.returns-in-Err-store-clause-told
returns-in-Err-store-clause-told c =
    let p : PrimaryValue = c.args.self.now in
    let time = c.in-Ok-Some.time in
    let verdict : Ok (Some time) ≡ verdict_time (verdict_of p c.args.txn c.args.stream) = sym (c.in-Ok-Some.is ∙ ap Ok c.in-Ok-Some.field-0-is) ∙ c.judge.ensures.verdict in
    subst (λ (v : Result (Option Transaction) Refusal). Tells v (Err (c.args.txn, c.in-Err-store.why))) (sym (judged_shape p c.args.txn c.args.stream time verdict)) c.in-Err-store.ensures.err

pub returns-in-Ok-None-clause-told : goal.returns-in-Ok-None-clause-told
returns-in-Ok-None-clause-told c =
    let told = empty c.args.self.now (verdict_of c.args.self.now c.args.txn c.args.stream) (sym (c.in-Ok-None.is ∙ ap Ok c.in-Ok-None.field-0-is) ∙ c.judge.ensures.verdict) in
    told.0

pub returns-in-Ok-None-clause-done : goal.returns-in-Ok-None-clause-done
returns-in-Ok-None-clause-done c =
    let told = empty c.args.self.now (verdict_of c.args.self.now c.args.txn c.args.stream) (sym (c.in-Ok-None.is ∙ ap Ok c.in-Ok-None.field-0-is) ∙ c.judge.ensures.verdict) in
    told.1
