use Rattle.std.proofs.Common.{ap, nat_cmp}
use Rattle.std.specs.Cmp.{nat_cmp_total}
use Rattle.std.specs.FinMap as finmap
use Rattle.std.specs.Map.Iter.{deref_pair}
use Rattle.std.proofs.lemmas.Map.Iter.{iter_end}
use Rattle.hk_facts.proofs.CopiedTrees.{fill_more, filled_all}
use Rattle.hk_facts.proofs.versions.Versions.copy.Goals as goal

pub loop-born-preserved : goal.loop-born-preserved
loop-born-preserved c = fill_more nat_cmp deref_pair c.loop-born.versions c.insert.new.versions c.loop-born.yielded (c.in-Some.born, c.in-Some.version) c.in-Some.born.now _ (ap (λ v. (c.in-Some.born.now, v)) c.in_ok-copy.ensures) c.loop-born.invariant c.in_ok-insert.ensures.ok

pub returns : goal.returns
returns c =
    let given = c.into_iter-born-iterator.ensures.into_iter_gives in
    let all = iter_end deref_pair c.self.inside.versions.entries c.loop-born.yielded c.into_iter-born-iterator.result c.loop-born.born-iterator c.next.new.self c.next.result given.0 c.loop-born.yielded_by c.in-None.is c.next.ensures.steps in
    rw (← c.self.view_is) (filled_all nat_cmp nat_cmp_total finmap.nat_cmp-IsAntisymmetric c.self.inside.versions c.loop-born.versions _ given.5 all.0 c.loop-born.invariant)
