use Rattle.std.proofs.Common.{◌≡◌, replicate}
use Rattle.hk_model.specs.Replica.Replicas.{empty_content}
use Rattle.hk_laws.proofs.world.new_replicas.Given as goal

abbrev pub invariant-loop-made : goal.invariant-loop-made
invariant-loop-made l = l.replicas.items ≡ replicate l._made (empty_content l.config)
