use Rattle.std.proofs.Common.{sym, ap, ◌∙◌, ◌&&◌, leb}
use Rattle.hk_facts.specs.Chains.{last_where}
use Rattle.hk_facts.proofs.StoredTrees.{entries_seen}
use Rattle.hk_facts.proofs.LastOfList.{has_row, latest_in_range, step_back, step_onto}
use Rattle.hk_facts.proofs.versions.Versions.latest.Goals as goal

pub loop-born-init : goal.loop-born-init
loop-born-init c = rw (← c.self.view_is) (sym (ap (last_where (λ e. leb e.0 c.args.time && has_row e)) (entries_seen c.self.inside.versions c.range-earlier.ensures.ordered) ∙ latest_in_range c.args.time c.self.inside.versions.entries c.range-earlier.result (c.range-earlier.ensures.between tt)))

pub returns-in-Some-row : goal.returns-in-Some-row
returns-in-Some-row c = sym (step_onto _ _ _ _ c.in-Some.ensures.steps c.in-Some-row.ensures.value) ∙ c.loop-born.invariant

pub loop-born-preserved : goal.loop-born-preserved
loop-born-preserved c = sym (step_back _ _ _ c.in-Some.ensures.steps c.in_default-row.ensures.value) ∙ c.loop-born.invariant
