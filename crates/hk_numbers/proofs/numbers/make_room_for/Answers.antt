use Rattle.hk_numbers.proofs.JoinedRuns.{seen_same, none_refused}
use Rattle.hk_numbers.proofs.numbers.make_room_for.Goals as goal

pub returns-clause-same : goal.returns-clause-same
returns-clause-same c = seen_same _ _ c.requires.kept.proper c.make_room.ensures.runs c.make_room.ensures.same

pub returns-clause-none : goal.returns-clause-none
returns-clause-none c = none_refused c.args.others.now c.requires.others.proper c.make_room.result c.make_room.ensures.none
