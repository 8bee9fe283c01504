use Rattle.std.proofs.Common.{◌≡◌, sym, ap, ◌∙◌, arith}
use Rattle.std.specs.FinMap as finmap
use Rattle.hk_primary.proofs.StoredWrites.{len_seen, seen}
use Rattle.hk_primary.proofs.txn.Txn.len.Goals as goal

pub returns-clause-value : goal.returns-clause-value
returns-clause-value c = rw (← c.self.view_is) (c.len.ensures.len ∙ len_seen c.self.inside.writes c.len.ensures.ordered)

pub returns-clause-bound : goal.returns-clause-bound
returns-clause-bound c =
    let few = c.self.invariant.few in
    let is : c.len.result ≡ finmap.len (seen c.self.inside.writes) = c.len.ensures.len ∙ len_seen c.self.inside.writes c.len.ensures.ordered in
    omega arith
