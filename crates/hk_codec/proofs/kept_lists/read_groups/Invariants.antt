use Rattle.std.proofs.Common.{◌≡◌, ◌-◌}
use Rattle.hk_codec.specs.Kept.{steps_at, kept_group_at}
use Rattle.hk_codec.proofs.kept_lists.read_groups.Given as goal

abbrev pub invariant-loop-passed : goal.invariant-loop-passed
invariant-loop-passed g l = steps_at (kept_group_at g.K.Keeps.kept l.time) (l.groups - l.passed) l.kept l.cursor ≡ steps_at (kept_group_at g.K.Keeps.kept l.time) l.groups l.fn.kept l.fn.cursor
