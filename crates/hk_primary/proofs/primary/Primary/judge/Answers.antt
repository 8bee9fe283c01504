use Rattle.std.proofs.Common.{◌≡◌, ◌≤◌, ℕ, sym, ap, ◌∙◌, subst, arith, false, nat_cmp, is_lt}
use Rattle.std.proofs.lemmas.Bool.Decides.{nat_tests}
use Rattle.hk_model.specs.History.Histories.{commits, last}
use Rattle.hk_primary.specs.Log.{PrimaryValue}
use Rattle.hk_primary.proofs.Verdicts.{judged_empty, judged_time, judged_full}
use Rattle.hk_primary.proofs.primary.Primary.judge.Goals as goal

not_below : (a b : ℕ) → is_lt (nat_cmp a b) ≡ false → b ≤ a
not_below a b e = grind (arith, nat_tests)

pub returns-then-is_empty-clause-verdict : goal.returns-then-is_empty-clause-verdict
returns-then-is_empty-clause-verdict c =
    let p : PrimaryValue = c.args.self.now in
    let a = c.self.inside in
    let stream = c.number.ensures.value in
    let least = c.number.ensures.least in
    let streams : c.streams.result ≡ p.config.streams = c.streams.ensures.value ∙ ap (λ (q : PrimaryValue). q.config.streams) c.self.view_is in
    let newest : a.newest ≡ last (commits p.history) = c.self.invariant.newest_is ∙ ap (λ (q : PrimaryValue). last (commits q.history)) c.self.view_is in
    let read = not_below a.newest c.read_at-read_at.result (sym c.lt.ensures ∙ c.if-lt.false) in
    let value = c.read_at-read_at.ensures.value in
    judged_empty p c.args.txn.now c.args.stream (omega arith) (omega (arith, c.if-number-streams.false)) (sym c.retired.ensures ∙ c.if-retired.false) (omega arith) c.in_default.ensures c.in_default-first_absent.ensures (sym c.is_empty.ensures ∙ c.if-is_empty.true)

pub returns-in-Ok-clause-verdict : goal.returns-in-Ok-clause-verdict
returns-in-Ok-clause-verdict c =
    let p : PrimaryValue = c.args.self.now in
    let a = c.self.inside in
    let stream = c.number.ensures.value in
    let least = c.number.ensures.least in
    let streams : c.streams.result ≡ p.config.streams = c.streams.ensures.value ∙ ap (λ (q : PrimaryValue). q.config.streams) c.self.view_is in
    let newest : a.newest ≡ last (commits p.history) = c.self.invariant.newest_is ∙ ap (λ (q : PrimaryValue). last (commits q.history)) c.self.view_is in
    let read = not_below a.newest c.read_at-read_at.result (sym c.lt.ensures ∙ c.if-lt.false) in
    let value = c.read_at-read_at.ensures.value in
    judged_time p c.args.txn.now c.args.stream (omega arith) (omega (arith, c.if-number-streams.false)) (sym c.retired.ensures ∙ c.if-retired.false) (omega arith) c.in_default.ensures c.in_default-first_absent.ensures (sym c.is_empty.ensures ∙ c.if-is_empty.false) c.number-2.result c.in-Ok.time (c.number-2.ensures.value ∙ c.clock.ensures) c.in-Ok.ensures

pub returns-in-Err-clause-verdict : goal.returns-in-Err-clause-verdict
returns-in-Err-clause-verdict c =
    let p : PrimaryValue = c.args.self.now in
    let a = c.self.inside in
    let stream = c.number.ensures.value in
    let least = c.number.ensures.least in
    let streams : c.streams.result ≡ p.config.streams = c.streams.ensures.value ∙ ap (λ (q : PrimaryValue). q.config.streams) c.self.view_is in
    let newest : a.newest ≡ last (commits p.history) = c.self.invariant.newest_is ∙ ap (λ (q : PrimaryValue). last (commits q.history)) c.self.view_is in
    let read = not_below a.newest c.read_at-read_at.result (sym c.lt.ensures ∙ c.if-lt.false) in
    let value = c.read_at-read_at.ensures.value in
    judged_full p c.args.txn.now c.args.stream (omega arith) (omega (arith, c.if-number-streams.false)) (sym c.retired.ensures ∙ c.if-retired.false) (omega arith) c.in_default.ensures c.in_default-first_absent.ensures (sym c.is_empty.ensures ∙ c.if-is_empty.false) c.number-2.result _ (c.number-2.ensures.value ∙ c.clock.ensures) c.in-Err.ensures
