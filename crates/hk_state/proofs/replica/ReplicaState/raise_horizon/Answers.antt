use Rattle.std.proofs.Common.{◌≡◌, sym, ap, ◌∙◌, subst, false, nat_lt, nat_le}
use Rattle.std.specs.Result.{IsErrAnd}
use Rattle.hk_types.specs.declared.faults.Refusal.{Refusal}
use Rattle.hk_model.specs.Replica.Content.{Content, readable}
use Rattle.hk_state.specs.Calls.{Prunes}
use Rattle.hk_state.specs.Replica.{content_of_parts}
use Rattle.hk_state.proofs.PrunedState.{prune_refused, prune_keeps, not_below, not_above}
use Rattle.hk_state.proofs.replica.ReplicaState.raise_horizon.Goals as goal

pub returns-in_err-drop_until-clause-gives : goal.returns-in_err-drop_until-clause-gives
returns-in_err-drop_until-clause-gives c =
    let a = c.self.inside in
    let here = content_of_parts a.config a.horizon a.facts a.got in
    let after = content_of_parts a.config a.horizon c.drop_until.new.self a.got in
    let t = c.args.time in
    let below : nat_lt (readable here) t ≡ false = ap (λ n. nat_lt n t) (sym c.readable-readable.ensures.value) ∙ sym (not_below c.readable-readable.result t) ∙ sym c.lt.ensures ∙ c.if-lt.false in
    let above : nat_le t a.horizon ≡ false = sym (not_above t a.horizon) ∙ sym c.le.ensures ∙ c.if-le.false in
    subst (λ (x : Content). Prunes x after t c.from_residual.result) c.self.view_is
    (prune_refused a.config a.horizon a.facts a.got t below above c.from_residual.result c.from_residual.ensures.0 (subst (λ (w : Refusal). IsErrAnd c.from_residual.result (λ why. why ≡ w)) c.in_err-drop_until.ensures.err c.from_residual.ensures.1) c.drop_until.new.self c.in_err-drop_until.ensures.kept)

pub invariant_of-self-2 : goal.invariant_of-self-2
invariant_of-self-2 c =
    let a = c.self.inside in
    let here = content_of_parts a.config a.horizon a.facts a.got in
    let t = c.args.time in
    let below : nat_lt (readable here) t ≡ false = ap (λ n. nat_lt n t) (sym c.readable-readable.ensures.value) ∙ sym (not_below c.readable-readable.result t) ∙ sym c.lt.ensures ∙ c.if-lt.false in
    prune_keeps a.config a.horizon a.facts a.got t c.self.invariant below c.drop_until.new.self c.in_ok-drop_until.ensures.ok
