-- What a client has seen of a node.
use Rattle.std.specs.Prelude.{List, [], Option, None, Some}
use Rattle.hk_oplog.specs.declared.op.Op.{Op}

-- the list of its receipt, where it has one
abbrev pub shown_of : Option (List Op) → List Op
shown_of None = []
shown_of (Some seen) = seen
