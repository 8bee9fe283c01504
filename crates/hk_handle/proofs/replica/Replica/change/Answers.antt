use Rattle.std.proofs.Common.{refl, subst}
use Rattle.hk_handle.specs.Calls.{Asked}
use Rattle.hk_handle.specs.Values.{ReplicaValue}
use Rattle.hk_handle.proofs.replica.Replica.change.Goals as goal

pub returns : goal.returns
returns c =
    let a = c.self.inside in
    let new : ReplicaValue = record { host = c.answer-reply.new.self; rest = a.feeder; reply = a.reply.items } in
    subst (λ (r : ReplicaValue). Asked r new c.args.request c.number_of.result) c.self.view_is
    (c.answer-reply.result, c.answer-reply.ensures.may, c.number_of.ensures, refl)
