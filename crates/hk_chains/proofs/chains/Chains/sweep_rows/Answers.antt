use Rattle.std.proofs.Common.{ap, ◌∙◌}
use Rattle.hk_model.specs.Replica.Content.{at_most}
use Rattle.hk_chains.proofs.FactsByRow.{seen}
use Rattle.hk_chains.proofs.StoredFacts.{get_end}
use Rattle.hk_chains.proofs.chains.Chains.sweep_rows.Goals as goal

pub sweep_listed-requires-clause-listed : goal.sweep_listed-requires-clause-listed
sweep_listed-requires-clause-listed c q e = (rw (← c.self.view_is) at c.requires) q (ap (at_most c.args.until) (get_end (seen c.self.inside.chains) q) ∙ e)
