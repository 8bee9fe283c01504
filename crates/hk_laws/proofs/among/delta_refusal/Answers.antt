use Rattle.std.proofs.Common.{◌≡◌, sym, ◌∙◌, ℕ, ◌≤◌, false, nat_cmp, arith}
use Rattle.std.specs.Ordering.{is_lt}
use Rattle.hk_model.specs.Replica.Content.{readable}
use Rattle.hk_acting.proofs.OutOfMemory.{delta_first}
use Rattle.hk_laws.proofs.among.delta_refusal.Goals as goal
use Rattle.hk_laws.proofs.among.delta_refusal.Goals.{else-log-via-then-log+then-streams+else-lt-2, else-log-via-then-log+else-streams, else-log-via-else-log}

not_below : (a b : ℕ) → is_lt (nat_cmp a b) ≡ false → b ≤ a
not_below a b e = grind arith

pub returns : goal.returns
returns c =
    let a = c.args.target.now in
    let b = c.args.source.now in
    let base = c.args.base in
    let from = not_below base c.horizon-horizon.result (sym c.lt.ensures ∙ c.if-lt.false) in
    let old : b.horizon ≤ base = omega (arith, from, c.horizon-horizon.ensures.value) in
    elim c.else-log.branch [
      | else-log-via-then-log+then-streams+else-lt-2 w ↦
          let upto = not_below c.readable-readable.result base (sym w.lt-then-streams.ensures ∙ w.if-lt-2.false) in
          let near : base ≤ readable a = omega (arith, upto, c.readable-readable.ensures.value) in
          delta_first a b base old (λ l s. near)
      | else-log-via-then-log+else-streams w ↦
          delta_first a b base old (λ l s. absurd (w.if-streams.false (w.streams.ensures.value ∙ c.config-own.ensures.streams ∙ s ∙ sym (w.streams-then-log.ensures.value ∙ c.config-sent.ensures.streams))))
      | else-log-via-else-log w ↦
          delta_first a b base old (λ l s. absurd (w.if-log.false (c.log.ensures ∙ c.config-own.ensures.log ∙ l ∙ sym (c.log-2.ensures ∙ c.config-sent.ensures.log))))
    ]
