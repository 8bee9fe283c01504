use Rattle.std.proofs.Common.{ℕ, List, refl, ap, subst, ◌∙◌}
use Rattle.std.specs.Prelude.{◌==◌, if◌then◌else◌}
use Rattle.hk_log.specs.declared.item.Item.{Item}
use Rattle.hk_codec.specs.Frames.{Adds, Feeds, KeepsFault, KeepsOnMemory}
use Rattle.hk_handle.specs.Calls.{Absorbed}
use Rattle.hk_handle.specs.Values.{ReplicaValue}
use Rattle.hk_handle.proofs.replica.Replica.absorb.Goals as goal

pub returns : goal.returns
returns c =
    let a = c.self.inside in
    let fed = c.feed-fed in
    subst (λ (r : ReplicaValue). Absorbed r c.take-refused.new.self c.args.piece.now c.first_of.result) (c.self.view_is ∙ c.fresh_items-items.ensures.kept)
    (record {
      mid = record { host = a.host; rest = fed.new.self; reply = a.reply.items };
      items = fed.new.out.items;
      fed = fed.result;
      feeds = subst (λ (xs : List Item). Feeds Adds a.feeder fed.new.self xs fed.new.out.items c.args.piece.now fed.result) c.fresh_items-items.ensures.empty fed.ensures.reads;
      fault = subst (λ (xs : List Item). KeepsFault a.feeder fed.new.self xs fed.new.out.items fed.result) c.fresh_items-items.ensures.empty fed.ensures.fault;
      memory = subst (λ (xs : List Item). KeepsOnMemory a.feeder fed.new.self xs fed.new.out.items fed.result) c.fresh_items-items.ensures.empty fed.ensures.memory;
      only = refl;
      refused = c.take-refused.result;
      taken = c.take-refused.ensures;
      told = c.first_of.ensures ∙ ap (λ (n : ℕ). if c.take-refused.result == 0 then n else c.take-refused.result) c.number_done-fault.ensures;
    })
