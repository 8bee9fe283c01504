use Rattle.std.proofs.Common.{◌≡◌, drop}
use Rattle.hk_cli_commands.specs.Statuses as spec
use Rattle.hk_cli_commands.proofs.status.are_closed_at.Given as goal

abbrev pub invariant-loop-index : goal.invariant-loop-index
invariant-loop-index l = spec.are_closed_at l.time (drop l.index l.got) ≡ spec.are_closed_at l.time l.got
