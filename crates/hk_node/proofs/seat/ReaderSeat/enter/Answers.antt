use Rattle.std.proofs.Common.{List, ◌∙◌, subst}
use mathlib.Core.List.{IsPrefix}
use Rattle.hk_oplog.specs.declared.op.Op.{Op}
use Rattle.hk_node.proofs.Prefixes.{prefix_self}
use Rattle.hk_node.proofs.PublishedCopy.{looks}
use Rattle.hk_node.proofs.seat.ReaderSeat.enter.Goals as goal

pub enter_as-requires : goal.enter_as-requires
enter_as-requires g c = looks _ _

pub returns-then-look-clause-list : goal.returns-then-look-clause-list
returns-then-look-clause-list g c = (c.look.ensures.legal, c.look.ensures.kind ∙ c.self.invariant.1)

pub returns-then-look-clause-seen : goal.returns-then-look-clause-seen
returns-then-look-clause-seen g c = subst (λ (l : List Op). IsPrefix l c.look.new.prefix.1) c.self.view_is c.look.ensures.seen

pub returns-else-look-clause-list : goal.returns-else-look-clause-list
returns-else-look-clause-list g c = (c.look.ensures.legal, c.look.ensures.kind ∙ c.self.invariant.1)

pub returns-else-look-clause-seen : goal.returns-else-look-clause-seen
returns-else-look-clause-seen g c = subst (λ (l : List Op). IsPrefix l c.look.new.prefix.1) c.self.view_is c.look.ensures.seen

pub returns-in-Err-clause-list : goal.returns-in-Err-clause-list
returns-in-Err-clause-list g c = (c.len-legal.ensures.legal, c.self.invariant.1)

pub returns-in-Err-clause-seen : goal.returns-in-Err-clause-seen
returns-in-Err-clause-seen g c = subst (λ (l : List Op). IsPrefix l c.self.inside.prefix.1) c.self.view_is (prefix_self c.self.inside.prefix.1)

pub returns-in_default-clause-list : goal.returns-in_default-clause-list
returns-in_default-clause-list g c = (c.len-legal.ensures.legal, c.self.invariant.1)

pub returns-in_default-clause-seen : goal.returns-in_default-clause-seen
returns-in_default-clause-seen g c = subst (λ (l : List Op). IsPrefix l c.self.inside.prefix.1) c.self.view_is (prefix_self c.self.inside.prefix.1)
