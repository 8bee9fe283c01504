use Rattle.hk_model.specs.World.Events.{event_seen, told_seen}
use Rattle.hk_laws.proofs.StepOnItems.{steps_of}
use Rattle.hk_laws.proofs.world.World.step.Goals as goal

pub returns-clause-represents : goal.returns-clause-represents
returns-clause-represents c = steps_of c.args.self.now c.tell.new.self (event_seen c.args.event) (told_seen c.tell.result) c.tell.ensures
