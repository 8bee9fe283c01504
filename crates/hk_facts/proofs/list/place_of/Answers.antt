use Rattle.std.proofs.Common.{rules, nat_cmp}
use Rattle.std.proofs.lemmas.Fn.{always_returns_same}
use Rattle.hk_facts.proofs.ListedVersions.{Entry, placed, fits_last, told_less}
use Rattle.hk_facts.proofs.list.place_of.Goals as goal

pub returns-in-Greater-clause-found : goal.returns-in-Greater-clause-found
returns-in-Greater-clause-found c = (placed c.args.list.now c.args.born c.binary_search_by.result c.requires c.binary_search_by.ensures.bound (c.binary_search_by.ensures.position (λ (e : Entry). nat_cmp e.0 c.args.born) (always_returns_same _ _ _ (λ a r f h. search rules)))).0

pub returns-in-Greater-clause-between : goal.returns-in-Greater-clause-between
returns-in-Greater-clause-between c = (placed c.args.list.now c.args.born c.binary_search_by.result c.requires c.binary_search_by.ensures.bound (c.binary_search_by.ensures.position (λ (e : Entry). nat_cmp e.0 c.args.born) (always_returns_same _ _ _ (λ a r f h. search rules)))).1

pub returns-in-Less-clause-between : goal.returns-in-Less-clause-between
returns-in-Less-clause-between c = fits_last c.args.list.now c.in-Some.last.now c.requires c.in-Some.ensures.value c.args.born (told_less c.in-Some.last.now.0 c.args.born c.cmp.result c.cmp.ensures c.in-Less.is)
