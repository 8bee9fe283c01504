use Rattle.std.proofs.Common.{◌≡◌, refl, sym, ap, ◌∙◌, subst, not, None, Err, ◌⊎◌}
use Rattle.std.specs.FinMap as finmap
use Rattle.std.proofs.lemmas.Result.{on_ok_weaker}
use Rattle.hk_types.specs.declared.faults.Refusal.TheVariants.{Memory}
use Rattle.hk_facts.specs.declared.fact.Fact.TheVariants.{Row as RowFact}
use Rattle.hk_facts.specs.Chains.{ChainValue, chain_put}
use Rattle.hk_facts.proofs.StoredTrees.{IfErr_map, new_as, none_at, some_at}
use Rattle.hk_facts.proofs.PartedChains.{get_row, get_end, put_rows, put_ends, rows_refused, ends_refused, parted_rows_put, parted_mixed, not_in_rows}
use Rattle.hk_facts.proofs.others.Others.put_row.Goals as goal

pub invariant_of-self : goal.invariant_of-self
invariant_of-self c =
    let m = c.make_way.new in
    let none = none_at (λ x. x.now) c.version.result _ c.version.ensures (c.is_none.ensures ∙ ap not c.if-is_none.true) in
    parted_rows_put m.rows m.ends c.self.inside.mixed (record { apart = c.make_way.ensures.apart; bare = λ is. c.make_way.ensures.bare (c.self.invariant.bare is) }) (RowFact c.args.row) c.args.born c.put.result c.put.new.self none c.put.ensures.ok c.put.ensures.kept

pub returns-then-is_none-clause-ok : goal.returns-then-is_none-clause-ok
returns-then-is_none-clause-ok c =
    let m = c.make_way.new in
    let fact = RowFact c.args.row in
    let none = none_at (λ x. x.now) c.version.result _ c.version.ensures (c.is_none.ensures ∙ ap not c.if-is_none.true) in
    rw (← c.self.view_is) (on_ok_weaker c.put.result (λ e. ap (λ n. chain_put n c.args.born fact) (sym c.make_way.ensures.same) ∙ put_rows fact c.args.born m.rows m.ends none c.put.new.self e) c.put.ensures.ok)

pub returns-then-is_none-clause-err : goal.returns-then-is_none-clause-err
returns-then-is_none-clause-err c =
    let m = c.make_way.new in
    let fact = RowFact c.args.row in
    let none = none_at (λ x. x.now) c.version.result _ c.version.ensures (c.is_none.ensures ∙ ap not c.if-is_none.true) in
    rw (← c.self.view_is) (IfErr_map c.put.result (λ why e. subst (λ (n : ChainValue). (chain_put n c.args.born fact ≡ Err why) ⊎ ((why ≡ Memory) × (finmap.get n c.args.born ≡ None))) c.make_way.ensures.same (rows_refused fact c.args.born m.rows m.ends none why e)) c.put.ensures.err)

pub invariant_of-self-2 : goal.invariant_of-self-2
invariant_of-self-2 c =
    let m = c.make_way.new in
    let none = not_in_rows m.rows m.ends c.args.born c.make_way.ensures.apart _ refl (some_at (λ x. x.now) c.version.result _ c.version.ensures (c.is_none.ensures ∙ ap not c.if-is_none.false)) in
    parted_mixed m.rows m.ends (RowFact c.args.row) c.args.born c.put-2.result c.put-2.new.self none c.put-2.ensures.ok c.put-2.ensures.kept c.make_way.ensures.apart

pub returns-clause-ok : goal.returns-clause-ok
returns-clause-ok c =
    let m = c.make_way.new in
    let fact = RowFact c.args.row in
    let none = not_in_rows m.rows m.ends c.args.born c.make_way.ensures.apart _ refl (some_at (λ x. x.now) c.version.result _ c.version.ensures (c.is_none.ensures ∙ ap not c.if-is_none.false)) in
    rw (← c.self.view_is) (on_ok_weaker c.put-2.result (λ e. ap (λ n. chain_put n c.args.born fact) (sym c.make_way.ensures.same) ∙ put_ends fact c.args.born m.rows m.ends none c.put-2.new.self e) c.put-2.ensures.ok)

pub returns-clause-err : goal.returns-clause-err
returns-clause-err c =
    let m = c.make_way.new in
    let fact = RowFact c.args.row in
    let none = not_in_rows m.rows m.ends c.args.born c.make_way.ensures.apart _ refl (some_at (λ x. x.now) c.version.result _ c.version.ensures (c.is_none.ensures ∙ ap not c.if-is_none.false)) in
    rw (← c.self.view_is) (IfErr_map c.put-2.result (λ why e. subst (λ (n : ChainValue). (chain_put n c.args.born fact ≡ Err why) ⊎ ((why ≡ Memory) × (finmap.get n c.args.born ≡ None))) c.make_way.ensures.same (ends_refused fact c.args.born m.rows m.ends none why e)) c.put-2.ensures.err)

pub returns-then-is_none-clause-new : goal.returns-then-is_none-clause-new
returns-then-is_none-clause-new c =
    let m = c.make_way.new in
    let none = none_at (λ x. x.now) c.version.result _ c.version.ensures (c.is_none.ensures ∙ ap not c.if-is_none.true) in
    rw (← c.self.view_is) (new_as c.put.result _ _ (RowFact c.args.row) (sym (get_row m.rows m.ends c.args.born none) ∙ ap (λ n. finmap.get n c.args.born) c.make_way.ensures.same) c.put.ensures.new)

pub returns-clause-new : goal.returns-clause-new
returns-clause-new c =
    let m = c.make_way.new in
    let none = not_in_rows m.rows m.ends c.args.born c.make_way.ensures.apart _ refl (some_at (λ x. x.now) c.version.result _ c.version.ensures (c.is_none.ensures ∙ ap not c.if-is_none.false)) in
    rw (← c.self.view_is) (new_as c.put-2.result _ _ (RowFact c.args.row) (sym (get_end m.rows m.ends c.args.born none) ∙ ap (λ n. finmap.get n c.args.born) c.make_way.ensures.same) c.put-2.ensures.new)
