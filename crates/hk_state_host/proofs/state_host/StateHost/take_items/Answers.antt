use Rattle.std.proofs.Common.{◌<◌, ◌^◌, arith, is_ok, sym, ◌∙◌}
use Rattle.std.proofs.lemmas.Bool.{ltb-false}
use Rattle.hk_model.specs.Replica.Rules.{gather_result}
use Rattle.hk_state_host.specs.Steps.{config_of}
use Rattle.hk_state_host.proofs.ChangeReplies.{settled_is}
use Rattle.hk_state_host.proofs.state_host.StateHost.take_items.Goals as goal

pub returns : goal.returns
returns c =
    let room : c.args.self.now.ops < 2 ^ 62 = omega (arith, ltb-false _ _ (sym c.is_full.ensures ∙ c.if-is_full.false)) in
    settled_is (is_ok (gather_result (config_of c.args.self.now.content) c.args.items.now)) c.args.self.now c.join_items-outcome.new.self _ _ _ room c.join_items-outcome.ensures.ops (c.settle.ensures _ c.args.self.now.content _ c.join_items-outcome.ensures.gives)
