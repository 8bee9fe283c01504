use Rattle.std.proofs.Common.{ap, ◌∙◌}
use Rattle.std.specs.FinSet as set
use Rattle.hk_chains.proofs.WalkedRows.{keys_have}
use Rattle.hk_store.proofs.facts.Facts.keys.Goals as goal

pub returns : goal.returns
returns c = rw (← c.self.view_is) (λ v. ap (λ s. set.contains s v) c.of.ensures ∙ keys_have c.self.inside.chains v)
