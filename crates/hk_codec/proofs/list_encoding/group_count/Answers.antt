use Rattle.std.proofs.Common.{length, ap, arith}
use Rattle.hk_codec.proofs.LongestRuns.{groups_no_more}
use Rattle.hk_codec.proofs.list_encoding.group_count.Goals as goal

pub returns-in-None-clause-count : goal.returns-in-None-clause-count
returns-in-None-clause-count g c = omega (arith, c.groups.invariant, groups_no_more g.E.Elements.place c.groups.rest.now, c.in-None.ensures)

pub returns-in-None-clause-most : goal.returns-in-None-clause-most
returns-in-None-clause-most g c = omega (arith, c.groups.invariant, groups_no_more g.E.Elements.place c.args.elements.now)

pub overflow_add-groups : goal.overflow_add-groups
overflow_add-groups g c = omega (arith, c.groups.invariant, groups_no_more g.E.Elements.place c.args.elements.now, ap length c.in-Some.ensures.groups, c.requires)

pub groups-preserved : goal.groups-preserved
groups-preserved g c = rw c.split_at.ensures.back (omega (arith, c.groups.invariant, ap length c.in-Some.ensures.groups))
