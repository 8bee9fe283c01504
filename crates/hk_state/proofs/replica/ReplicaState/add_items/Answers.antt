use Rattle.std.proofs.Common.{sym, ap, ◌∙◌, subst, length}
use Rattle.hk_model.specs.Replica.Content.{Content}
use Rattle.hk_model.specs.Replica.Lawful.{IsLawful}
use Rattle.hk_model.specs.Replica.Rules.{with_items}
use Rattle.hk_model.specs.Replica.Streams.{streams_of}
use Rattle.hk_model.proofs.Replica.Streams.{as_many_together}
use Rattle.hk_state.specs.Replica.{content_of_parts}
use Rattle.hk_state.proofs.WrongLogs.{count_streams}
use Rattle.hk_state.proofs.replica.ReplicaState.add_items.Goals as goal

pub invariant_of-self-2 : goal.invariant_of-self-2
invariant_of-self-2 c =
    let a = c.self.inside in
    let e = c.in_ok-add_all.ensures in
    let items = c.args.items.now in
    record {
      as_many = ap length e.got ∙ as_many_together a.got (streams_of (length a.got) items) (count_streams (length a.got) items) ∙ c.self.invariant.as_many;
      lawful = subst IsLawful (ap (λ (x : Content). with_items x items) (sym c.self.view_is) ∙ (λ i. content_of_parts a.config a.horizon (sym e.facts i) (sym e.got i))) c.requires.lawful;
    }
