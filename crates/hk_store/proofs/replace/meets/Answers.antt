use Rattle.std.proofs.Common.{◌∙◌}
use Rattle.hk_store.proofs.ReplacedFacts.{meets_set}
use Rattle.hk_store.proofs.replace.meets.Goals as goal

pub returns-clause-ok : goal.returns-clause-ok
returns-clause-ok c = c.has_any_of.ensures ∙ meets_set c.args.versions.now c.in_ok-among.among c.args.rows.now c.args.ends.now c.in_ok-among.ensures.ok
