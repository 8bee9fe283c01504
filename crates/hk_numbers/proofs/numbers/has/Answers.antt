use Rattle.std.proofs.lemmas.Bool.Decides.{Decides-ltb}
use Rattle.hk_numbers.proofs.JoinedRuns.{none_seen}
use Rattle.hk_numbers.proofs.SeenRuns.{Decides-before, none_before}
use Rattle.hk_numbers.proofs.numbers.has.Goals as goal

pub returns-in-Some : goal.returns-in-Some
returns-in-Some c = (Decides-before _ c.requires.proper c.args.number _ c.in-Some.ensures _ (Decides-ltb c.args.number c.in-Some.end))

pub returns-in-None : goal.returns-in-None
returns-in-None c = (none_before _ c.requires.proper c.args.number c.in-None.ensures)

pub returns-then-is_empty : goal.returns-then-is_empty
returns-then-is_empty c = none_seen c.args.runs.now c.args.number (c.is_empty.ensures.0 c.if-is_empty.true)
