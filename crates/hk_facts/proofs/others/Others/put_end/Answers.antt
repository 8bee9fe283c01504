use Rattle.std.proofs.Common.{sym}
use Rattle.std.proofs.lemmas.Result.{on_ok_weaker}
use Rattle.hk_facts.specs.declared.fact.Fact.TheVariants.{End as EndFact}
use Rattle.hk_facts.proofs.StoredTrees.{IfErr_map, new_as, none_at, some_at}
use Rattle.hk_facts.proofs.PartedChains.{get_row, get_end, put_rows, put_ends, rows_refused, ends_refused, parted_rows_put, parted_end_put}
use Rattle.hk_facts.proofs.others.Others.put_end.Goals as goal

pub invariant_of-self : goal.invariant_of-self
invariant_of-self c =
    let a = c.self.inside in
    parted_rows_put a.rows a.ends a.mixed c.self.invariant (EndFact c.args.died) c.args.born c.put.result c.put.new.self (c.self.invariant.apart c.args.born (some_at (λ x. x.now) c.version.result _ c.version.ensures (sym c.if-is_some.ensures))) c.put.ensures.ok c.put.ensures.kept

pub returns-then-is_some-clause-ok : goal.returns-then-is_some-clause-ok
returns-then-is_some-clause-ok c =
    let a = c.self.inside in
    rw (← c.self.view_is) (on_ok_weaker c.put.result (λ e. put_rows (EndFact c.args.died) c.args.born a.rows a.ends (c.self.invariant.apart c.args.born (some_at (λ x. x.now) c.version.result _ c.version.ensures (sym c.if-is_some.ensures))) c.put.new.self e) c.put.ensures.ok)

pub returns-then-is_some-clause-err : goal.returns-then-is_some-clause-err
returns-then-is_some-clause-err c =
    let a = c.self.inside in
    rw (← c.self.view_is) (IfErr_map c.put.result (λ why e. rows_refused (EndFact c.args.died) c.args.born a.rows a.ends (c.self.invariant.apart c.args.born (some_at (λ x. x.now) c.version.result _ c.version.ensures (sym c.if-is_some.ensures))) why e) c.put.ensures.err)

pub invariant_of-self-2 : goal.invariant_of-self-2
invariant_of-self-2 c =
    let a = c.self.inside in
    parted_end_put a.rows a.ends a.mixed c.self.invariant c.args.died c.args.born c.put-2.result c.put-2.new.self (none_at (λ x. x.now) c.version.result _ c.version.ensures (sym c.if-is_some.ensures)) c.put-2.ensures.ok c.put-2.ensures.kept

pub returns-clause-ok : goal.returns-clause-ok
returns-clause-ok c =
    let a = c.self.inside in
    rw (← c.self.view_is) (on_ok_weaker c.put-2.result (λ e. put_ends (EndFact c.args.died) c.args.born a.rows a.ends (none_at (λ x. x.now) c.version.result _ c.version.ensures (sym c.if-is_some.ensures)) c.put-2.new.self e) c.put-2.ensures.ok)

pub returns-clause-err : goal.returns-clause-err
returns-clause-err c =
    let a = c.self.inside in
    rw (← c.self.view_is) (IfErr_map c.put-2.result (λ why e. ends_refused (EndFact c.args.died) c.args.born a.rows a.ends (none_at (λ x. x.now) c.version.result _ c.version.ensures (sym c.if-is_some.ensures)) why e) c.put-2.ensures.err)

pub returns-then-is_some-clause-new : goal.returns-then-is_some-clause-new
returns-then-is_some-clause-new c =
    let a = c.self.inside in
    rw (← c.self.view_is) (new_as c.put.result _ _ (EndFact c.args.died) (sym (get_row a.rows a.ends c.args.born (c.self.invariant.apart c.args.born (some_at (λ x. x.now) c.version.result _ c.version.ensures (sym c.if-is_some.ensures))))) c.put.ensures.new)

pub returns-clause-new : goal.returns-clause-new
returns-clause-new c =
    let a = c.self.inside in
    rw (← c.self.view_is) (new_as c.put-2.result _ _ (EndFact c.args.died) (sym (get_end a.rows a.ends c.args.born (none_at (λ x. x.now) c.version.result _ c.version.ensures (sym c.if-is_some.ensures)))) c.put-2.ensures.new)
