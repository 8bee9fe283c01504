use Rattle.hk_store.proofs.StatedFacts.{max_later}
use Rattle.hk_store.proofs.facts.Facts.note_ends_above.Goals as goal

pub invariant_of-self : goal.invariant_of-self
invariant_of-self c = record {
  tagged = c.self.invariant.tagged;
  stated = c.self.invariant.stated;
  later = λ v died e. max_later c.self.inside.first_end c.args.time c.number.result c.max-self-inside.result died c.number.ensures.value c.max-self-inside.ensures (c.self.invariant.later v died e) ((rw (← c.self.view_is) at c.requires) v died e);
}
