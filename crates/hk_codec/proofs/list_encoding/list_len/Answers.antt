use Rattle.std.proofs.Common.{arith, length, ap}
use Rattle.hk_codec.proofs.Lengths.{counted_len, grouped_len_else}
use Rattle.hk_codec.proofs.LongestRuns.{groups_no_more}
use Rattle.hk_codec.proofs.list_encoding.list_len.Goals as goal

pub returns-then-version-eq-VERSION_1-clause-len : goal.returns-then-version-eq-VERSION_1-clause-len
returns-then-version-eq-VERSION_1-clause-len g c = rw c.if-version-eq-VERSION_1.true (omega (arith, counted_len g.E.Elements.place g.E.Elements.text c.args.elements.now, c.elements_len-beside.ensures.len))

pub returns-in-Some-clause-len : goal.returns-in-Some-clause-len
returns-in-Some-clause-len g c = omega (arith, grouped_len_else c.args.version g.E.Elements.place g.E.Elements.text c.args.elements.now c.if-version-eq-VERSION_1.false, c.elements_len-beside.ensures.len, ap length c.in-Some.ensures)

pub returns-in-Some-clause-bound : goal.returns-in-Some-clause-bound
returns-in-Some-clause-bound g c = omega (arith, groups_no_more g.E.Elements.place c.args.elements.now, ap length c.in-Some.ensures, c.elements_len-beside.ensures.bound)

pub returns-in-None-clause-len : goal.returns-in-None-clause-len
returns-in-None-clause-len g c = omega (arith, grouped_len_else c.args.version g.E.Elements.place g.E.Elements.text c.args.elements.now c.if-version-eq-VERSION_1.false, c.elements_len-beside.ensures.len, c.group_count.ensures.count)
