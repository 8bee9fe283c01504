use Rattle.std.proofs.Common.{◌≡◌, false, map}
use Rattle.std.specs.List.{list_any}
use Rattle.hk_store.specs.Versions.{borrowed}
use Rattle.hk_merge.specs.Late.{strays}
use Rattle.hk_merge.proofs.past.some_stray.Given as goal

abbrev pub invariant-loop-version : goal.invariant-loop-version
invariant-loop-version l = list_any (λ e. strays l.fn.leaving e.0 e.1) (map borrowed l.yielded) ≡ false
