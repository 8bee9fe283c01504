use Rattle.std.proofs.Common.{rules}
use Rattle.hk_chains.proofs.SoughtVersions.{both_stated}
use Rattle.hk_chains.proofs.stated.state.Goals as goal

pub returns-clause-ok : goal.returns-clause-ok
returns-clause-ok c =
    both_stated c.args.version.now c.args.known.now c.add_if.new.self c.add_if-2.new.self c.map.result (search rules) (rw (← c.of_version-row.ensures) c.in_ok-add_if.ensures.ok) c.add_if-2.ensures.kept c.add_if-2.result
    (rw (← c.of_version-row.ensures, ← c.died.ensures.value) c.add_if-2.ensures.ok)
