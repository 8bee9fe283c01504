use Rattle.std.proofs.Common.{◌≡◌, ◌<◌, ◌^◌, arith, refl, sym, ap, ◌∙◌}
use Rattle.std.proofs.lemmas.Bool.{ltb-false}
use Rattle.hk_model.specs.Replica.Rules.{prune_result}
use Rattle.hk_state_host.specs.Values.{HostValue}
use Rattle.hk_state_host.specs.Steps.{prune_takes}
use Rattle.hk_state_host.proofs.ChangeReplies.{settled_is, pruned_so}
use Rattle.hk_state_host.proofs.state_host.StateHost.prune.Goals as goal

pub returns : goal.returns
returns c =
    let a = c.self.inside in
    let old : HostValue = record { content = a.state; ops = a.ops } in
    let made = prune_result a.state c.args.horizon in
    let mid : HostValue = record { content = c.prune-outcome.new.self; ops = a.ops } in
    let same : a.ops ≡ c.args.self.now.ops = ap (λ (h : HostValue). h.ops) c.self.view_is in
    let room : a.ops < 2 ^ 62 = omega (arith, same, ltb-false _ _ (sym c.is_full.ensures ∙ c.if-is_full.false)) in
    rw (← c.self.view_is) (settled_is (prune_takes a.state c.args.horizon) old mid made _ _ room refl (c.settle.ensures (prune_takes a.state c.args.horizon) a.state made (pruned_so a.state mid.content c.args.horizon made c.prune-outcome.result c.prune-outcome.ensures.below c.prune-outcome.ensures.gives)))
