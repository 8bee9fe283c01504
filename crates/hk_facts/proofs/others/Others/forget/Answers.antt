use Rattle.std.proofs.Common.{sym}
use Rattle.hk_facts.proofs.StoredTrees.{none_at, some_at}
use Rattle.hk_facts.proofs.PartedChains.{forget_rows, forget_ends, parted_rows_forgotten, parted_ends_forgotten}
use Rattle.hk_facts.proofs.others.Others.forget.Goals as goal

pub invariant_of-self : goal.invariant_of-self
invariant_of-self c =
    let a = c.self.inside in
    rw c.forget.ensures (parted_rows_forgotten a.rows a.ends a.mixed c.self.invariant c.args.born c.args.part (c.self.invariant.apart c.args.born (some_at (λ x. x.now) c.version.result _ c.version.ensures (sym c.if-is_some.ensures))))

pub returns-then-is_some : goal.returns-then-is_some
returns-then-is_some c =
    let a = c.self.inside in
    rw (c.forget.ensures, ← c.self.view_is) (forget_rows a.rows a.ends c.args.born c.args.part (c.self.invariant.apart c.args.born (some_at (λ x. x.now) c.version.result _ c.version.ensures (sym c.if-is_some.ensures))))

pub invariant_of-self-2 : goal.invariant_of-self-2
invariant_of-self-2 c =
    let a = c.self.inside in
    rw c.forget-2.ensures (parted_ends_forgotten a.rows a.ends a.mixed c.self.invariant c.args.born c.args.part (none_at (λ x. x.now) c.version.result _ c.version.ensures (sym c.if-is_some.ensures)))

pub returns : goal.returns
returns c =
    let a = c.self.inside in
    rw (c.forget-2.ensures, ← c.self.view_is) (forget_ends a.rows a.ends c.args.born c.args.part (none_at (λ x. x.now) c.version.result _ c.version.ensures (sym c.if-is_some.ensures)))
