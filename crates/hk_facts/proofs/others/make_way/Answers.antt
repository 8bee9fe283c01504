use Rattle.std.proofs.Common.{sym, ◌∙◌}
use Rattle.hk_facts.proofs.PartedChains.{only_end, moved_same, moved_apart, forgotten_no_rows, was_ok}
use Rattle.hk_facts.specs.declared.fact.Part.TheVariants.{Whole}
use Rattle.hk_facts.proofs.others.make_way.Goals as goal

pub returns-then-is_ok-clause-same : goal.returns-then-is_ok-clause-same
returns-then-is_ok-clause-same c = rw c.forget.ensures (moved_same c.args.rows.now c.args.ends.now c.args.born c.in-Some.died (only_end _ c.in-Some.died c.in-Some.ensures) c.requires c.put.new.self (was_ok c.put.result (sym c.is_ok.ensures.value ∙ c.if-is_ok.true) c.put.ensures.ok))

pub returns-then-is_ok-clause-apart : goal.returns-then-is_ok-clause-apart
returns-then-is_ok-clause-apart c = rw c.forget.ensures (moved_apart c.args.rows.now c.args.ends.now c.args.born c.in-Some.died (only_end _ c.in-Some.died c.in-Some.ensures) c.requires c.put.new.self (was_ok c.put.result (sym c.is_ok.ensures.value ∙ c.if-is_ok.true) c.put.ensures.ok))

pub returns-then-is_ok-clause-bare : goal.returns-then-is_ok-clause-bare
returns-then-is_ok-clause-bare c = rw c.forget.ensures (forgotten_no_rows c.args.ends.now c.args.born Whole)
