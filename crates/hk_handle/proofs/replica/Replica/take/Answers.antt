use Rattle.std.proofs.Common.{refl, inr, subst, sym, List}
use Rattle.hk_log.specs.declared.item.Item.{Item}
use Rattle.hk_state_host.specs.Steps.{gathered, with_items, MakesChange}
use Rattle.hk_messages.specs.declared.request.Request.TheVariants.{Items}
use Rattle.hk_handle.specs.Calls.{Taken}
use Rattle.hk_handle.specs.Values.{ReplicaValue}
use Rattle.hk_handle.proofs.replica.Replica.take.Goals as goal

pub returns : goal.returns
returns c =
    let a = c.self.inside in
    let reply = c.take_items-reply in
    let made = subst (λ (xs : List Item). MakesChange a.host (gathered a.host xs) (with_items a.host xs) reply.result reply.new.self) c.deref.ensures.value reply.ensures in
    subst (λ (r : ReplicaValue). Taken r c.keep_items-2.new.self c.args.items.items c.number_of.result) c.self.view_is
    (subst (λ (r : ReplicaValue). Taken (record { host = a.host; rest = a.feeder; reply = a.reply.items }) r c.args.items.items c.number_of.result) (sym c.keep_items-2.ensures)
    (inr (Items c.args.items, (reply.result, made, c.number_of.ensures, refl), refl)))
