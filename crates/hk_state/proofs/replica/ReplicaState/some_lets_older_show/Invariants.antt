use Rattle.std.proofs.Common.{◌≡◌, ◌&&◌, false, is_some, map}
use Rattle.std.specs.List.{list_any}
use Rattle.std.specs.FinMap as finmap
use Rattle.hk_model.specs.Replica.Touches.{uncovers}
use Rattle.hk_store.specs.Versions.{borrowed}
use Rattle.hk_state.proofs.replica.ReplicaState.some_lets_older_show.Given as goal

abbrev pub invariant-loop-version : goal.invariant-loop-version
invariant-loop-version l = list_any (λ e. is_some (finmap.get l.self.rows e.0) && uncovers l.self l.fn.time e.0) (map borrowed l.yielded) ≡ false
