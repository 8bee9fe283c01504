use Rattle.std.proofs.Common.{◌≡◌, ◌≤◌, ◌*◌, length, take, All}
use Rattle.std.specs.List.{flat_map}
use Rattle.hk_answers.specs.Told as spec
use Rattle.hk_answers.proofs.told.told_streams_len.Given as goal

abbrev pub invariant-loop-told : goal.invariant-loop-told
invariant-loop-told l = (l.total ≡ length (flat_map spec.told_text (take l.told-index l.streams))) × (l.total ≤ 32 * l.told-index) × All spec.ToldFits (take l.told-index l.streams)
