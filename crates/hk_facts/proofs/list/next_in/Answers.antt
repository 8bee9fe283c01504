use Rattle.std.proofs.Common.{arith}
use Rattle.hk_facts.specs.Chains.{is_after}
use Rattle.hk_facts.proofs.ListedVersions.{next_none, found_as}
use Rattle.hk_facts.proofs.list.next_in.Goals as goal

pub returns-then-first-list : goal.returns-then-first-list
returns-then-first-list c = next_none c.args.list.now (is_after c.args.after.now) c.count_before-first.result c.requires c.count_before-first.ensures.front c.count_before-first.ensures.back c.if-first-list.true

pub returns : goal.returns
returns c = found_as c.args.list.now (is_after c.args.after.now) c.count_before-first.result c.requires c.count_before-first.ensures.front c.count_before-first.ensures.back c.index-list-first.result c.index-list-first.is (omega arith)
