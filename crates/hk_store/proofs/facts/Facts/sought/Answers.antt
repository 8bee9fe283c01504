use Rattle.std.proofs.Common.{map, subst, List}
use Rattle.hk_model.specs.History.Rows.{RowKey}
use Rattle.hk_chains.specs.Facts.{FactsValue}
use Rattle.hk_chains.specs.Stated.{sought_among, sought_at}
use Rattle.hk_chains.specs.Versions.{AreVersionsOf, borrowed}
use Rattle.hk_chains.proofs.SoughtVersions.{all_sought}
use Rattle.hk_store.proofs.facts.Facts.sought.Goals as goal

pub sought_of-requires : goal.sought_of-requires
sought_of-requires c = rw c.deref.ensures.value c.in_ok-rows.ensures.ok.rising

pub returns-clause-ok : goal.returns-clause-ok
returns-clause-ok c =
    let a = c.self.inside in
    let s = c.args.sought.now in
    let rows = c.in_ok-rows.rows.items in
    let found = map borrowed c.in_ok-found.found.items in
    subst (λ (f : FactsValue). AreVersionsOf f (sought_at f s) found) c.self.view_is
    (all_sought a.chains s a.stated rows found c.self.invariant.stated c.in_ok-rows.ensures.ok (subst (λ (l : List RowKey). AreVersionsOf a.chains (sought_among a.chains s l) found) c.deref.ensures.value c.in_ok-found.ensures))
