use Rattle.std.proofs.Common.{◌≡◌, None, drop}
use Rattle.hk_answers.specs.Answers as spec
use Rattle.hk_answers.proofs.answer.keys_rise.Given as goal

abbrev pub invariant-loop-key : goal.invariant-loop-key
invariant-loop-key l = spec.keys_rise l.before (drop l.key-index l.rows) ≡ spec.keys_rise None l.rows
