use Rattle.std.proofs.Common.{sym, ap, ◌∙◌, subst, length}
use Rattle.hk_model.specs.Replica.Content.{Content}
use Rattle.hk_model.specs.Replica.Lawful.{IsLawful}
use Rattle.hk_model.proofs.Replica.Streams.{as_many_together}
use Rattle.hk_state.specs.Changes.{content_after_change}
use Rattle.hk_state.specs.Replica.{content_of_parts}
use Rattle.hk_state.proofs.replica.ReplicaState.apply.Goals as goal

pub invariant_of-self-2 : goal.invariant_of-self-2
invariant_of-self-2 c =
    let a = c.self.inside in
    let e = c.in_ok-take_change.ensures in
    let given = c.args.given.now in
    record {
      as_many = ap length e.got ∙ as_many_together a.got given (c.requires.as_many ∙ ap (λ (x : Content). length x.streams) (sym c.self.view_is)) ∙ c.self.invariant.as_many;
      lawful = subst IsLawful (
          ap (λ x. content_after_change x c.args.change given) (sym c.self.view_is)
          ∙ (λ i. content_of_parts a.config c.args.change.horizon (sym (c.note_ends_above.ensures ∙ e.facts) i) (sym e.got i))) c.requires.lawful;
    }
