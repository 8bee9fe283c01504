use Rattle.std.proofs.Common.{◌≡◌, ◌<◌, ◌^◌, arith, refl, sym, ap, is_ok, ◌∙◌}
use Rattle.std.proofs.lemmas.Bool.{ltb-false}
use Rattle.hk_model.specs.Replica.Rules.{join_result}
use Rattle.hk_state_host.specs.Values.{HostValue}
use Rattle.hk_state_host.proofs.ChangeReplies.{settled_is, left_so}
use Rattle.hk_state_host.proofs.state_host.StateHost.join_this.Goals as goal

pub returns : goal.returns
returns c =
    let a = c.self.inside in
    let old : HostValue = record { content = a.state; ops = a.ops } in
    let made = join_result a.state c.args.fragment.now in
    let mid : HostValue = record { content = c.join-outcome.new.target; ops = a.ops } in
    let same : a.ops ≡ c.args.self.now.ops = ap (λ (h : HostValue). h.ops) c.self.view_is in
    let room : a.ops < 2 ^ 62 = omega (arith, same, ltb-false _ _ (sym c.is_full.ensures ∙ c.if-is_full.false)) in
    rw (← c.self.view_is) (settled_is (is_ok made) old mid made _ _ room refl (c.settle.ensures (is_ok made) a.state made (left_so a.state mid.content made c.join-outcome.result c.join-outcome.ensures.gives)))
