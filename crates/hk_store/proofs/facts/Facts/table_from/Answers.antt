use Rattle.std.proofs.Common.{subst, is_le}
use Rattle.hk_model.specs.History.Rows.{version_key_cmp}
use Rattle.hk_chains.specs.Versions.{AreVersionsOf, borrowed}
use Rattle.hk_store.proofs.TableLists.{from_table, not_below, none_between}
use Rattle.hk_store.proofs.facts.Facts.table_from.Goals as goal

pub returns-in-Some-clause-later : goal.returns-in-Some-clause-later
returns-in-Some-clause-later c =
    let f = c.self.inside.chains in
    let first = c.args.first in
    let walk = subst (λ k. AreVersionsOf f (λ q. is_le (version_key_cmp (record { table = first; key = k; born = 0 }) q)) c.walk_from-walk.result) c.new.ensures c.walk_from-walk.ensures in
    let are = subst (AreVersionsOf f (from_table first)) c.in-Some.ensures.steps walk in
    not_below f first (borrowed (c.in-Some.version, c.in-Some._known)) c.next.new.self are

pub returns-in-Some-clause-least : goal.returns-in-Some-clause-least
returns-in-Some-clause-least c =
    let f = c.self.inside.chains in
    let first = c.args.first in
    let walk = subst (λ k. AreVersionsOf f (λ q. is_le (version_key_cmp (record { table = first; key = k; born = 0 }) q)) c.walk_from-walk.result) c.new.ensures c.walk_from-walk.ensures in
    let are = subst (AreVersionsOf f (from_table first)) c.in-Some.ensures.steps walk in
    rw (← c.self.view_is) (none_between f first (borrowed (c.in-Some.version, c.in-Some._known)) c.next.new.self are)
