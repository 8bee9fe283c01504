use Rattle.std.proofs.Common.{◌≡◌, ◌+◌, length}
use Rattle.hk_codec.specs.Lists.{groups_of}
use Rattle.hk_codec.proofs.list_encoding.group_count.Given as goal

abbrev pub invariant-groups : goal.invariant-groups
invariant-groups g l = l.groups + length (groups_of g.E.Elements.place l.rest) ≡ length (groups_of g.E.Elements.place l.elements)

abbrev pub decreases-groups : goal.decreases-groups
decreases-groups g l = length l.rest
