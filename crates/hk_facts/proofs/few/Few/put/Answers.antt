use Rattle.std.proofs.Common.{◌∙◌, ap, sym, subst, arith}
use Rattle.std.specs.FinMap as finmap
use Rattle.hk_facts.specs.Listed.{listed, FitsAt}
use Rattle.hk_facts.proofs.StoredTrees.{out_of_memory, new_at}
use Rattle.hk_facts.proofs.ListedVersions.{absent, below_most, put_in, sorted_put_in}
use Rattle.hk_facts.proofs.few.Few.put.Goals as goal

pub returns-in_err-insert_at-in-Err-clause-err : goal.returns-in_err-insert_at-in-Err-clause-err
returns-in_err-insert_at-in-Err-clause-err c = rw (← c.self.view_is) (out_of_memory _ c.from_residual.result c.from_residual.ensures.1 (ap (λ es. finmap.get (listed es) c.args.born) (sym c.deref.ensures.value) ∙ absent c.deref.result.now c.args.born c.in-Err.place c.in-Err.ensures.between))

pub invariant_of-self-in-Err : goal.invariant_of-self-in-Err
invariant_of-self-in-Err c =
    let none = ap (λ es. finmap.get (listed es) c.args.born) (sym c.deref.ensures.value) ∙ absent c.deref.result.now c.args.born c.in-Err.place c.in-Err.ensures.between in
    let few = below_most c.self.inside.versions.items c.args.self.now c.args.born c.self.invariant.0 (sym c.self.view_is) c.requires none in
    (sorted_put_in c.self.inside.versions.items _ c.in-Err.place c.args.born c.version_of.result c.self.invariant.0 (subst (λ es. FitsAt es c.args.born c.in-Err.place) c.deref.ensures.value c.in-Err.ensures.between) c.in_ok-insert_at-in-Err.ensures.ok, omega (arith, c.in_ok-insert_at-in-Err.ensures.many, few, c.self.inside.versions.ok.0))

pub returns-in_ok-insert_at-in-Err-clause-ok : goal.returns-in_ok-insert_at-in-Err-clause-ok
returns-in_ok-insert_at-in-Err-clause-ok c = rw (← c.self.view_is) (put_in c.self.inside.versions.items c.insert_at.new.versions.items c.in-Err.place c.args.born c.args.fact c.version_of.result (subst (λ es. FitsAt es c.args.born c.in-Err.place) c.deref.ensures.value c.in-Err.ensures.between) c.version_of.ensures c.in_ok-insert_at-in-Err.ensures.ok)

pub returns-in_ok-insert_at-in-Err-clause-new : goal.returns-in_ok-insert_at-in-Err-clause-new
returns-in_ok-insert_at-in-Err-clause-new c = rw (← c.self.view_is) (new_at _ c.args.fact (ap (λ es. finmap.get (listed es) c.args.born) (sym c.deref.ensures.value) ∙ absent c.deref.result.now c.args.born c.in-Err.place c.in-Err.ensures.between))
