use Rattle.std.proofs.Common.{◌++◌, length}
use Rattle.hk_codec.specs.Lists.{grouped_text}
use Rattle.hk_codec.proofs.ListLoops.{ToWrite}
use Rattle.hk_codec.proofs.list_encoding.put_groups.Given as goal

abbrev pub invariant-groups : goal.invariant-groups
invariant-groups g l = ToWrite g.E.Elements.place g.E.Elements.text l.fn.out.items l.out.items (l.fn.out.items ++ grouped_text g.E.Elements.place g.E.Elements.text l.elements) l.rest

abbrev pub decreases-groups : goal.decreases-groups
decreases-groups g l = length l.rest
