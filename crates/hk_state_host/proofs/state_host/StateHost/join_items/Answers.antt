use Rattle.std.proofs.Common.{◌≡◌, ap, subst}
use Rattle.hk_model.specs.Replica.Content.{Content}
use Rattle.hk_delta.specs.Joins.{JoinsItems}
use Rattle.hk_state_host.specs.Values.{HostValue}
use Rattle.hk_state_host.proofs.ChangeReplies.{joined_so}
use Rattle.hk_state_host.proofs.state_host.StateHost.join_items.Goals as goal

pub returns-clause-gives : goal.returns-clause-gives
returns-clause-gives c =
    let same : c.self.inside.state ≡ c.args.self.now.content = ap (λ (h : HostValue). h.content) c.self.view_is in
    joined_so c.args.self.now.content c.join_items.new.target c.args.items.now c.join_items.result
    (subst (λ (x : Content). JoinsItems x c.join_items.new.target c.args.items.now c.join_items.result) same c.join_items.ensures)
