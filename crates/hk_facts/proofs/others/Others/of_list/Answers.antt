use Rattle.hk_facts.proofs.ListedVersions.{parted_list, both_parts}
use Rattle.hk_facts.proofs.others.Others.of_list.Goals as goal

pub invariant_of-result : goal.invariant_of-result
invariant_of-result c = parted_list c.args.list.now c.in_ok-rows.rows c.in_ok-ends.ends c.in_ok-rows.ensures c.in_ok-ends.ensures

pub returns : goal.returns
returns c = both_parts c.args.list.now c.in_ok-rows.rows c.in_ok-ends.ends c.in_ok-rows.ensures c.in_ok-ends.ensures
