use Rattle.std.proofs.Common.{◌≡◌, take, None}
use Rattle.hk_model.specs.Replica.Rules.{first_wrong_log}
use Rattle.hk_delta.proofs.gathering.first_wrong_log.Given as goal

abbrev pub invariant-loop-item : goal.invariant-loop-item
invariant-loop-item l = first_wrong_log l.config (take l.item-index l.items) ≡ None
