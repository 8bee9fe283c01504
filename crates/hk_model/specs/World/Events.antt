-- How the events of the program, and what they are told, are seen.
use Rattle.hk_model.specs.declared.event.Event.{Event}
use Rattle.hk_model.specs.declared.event.Event.TheVariants as events
use Rattle.hk_model.specs.declared.told.Told.{Told}
use Rattle.hk_model.specs.declared.told.Told.TheVariants as tells
use Rattle.hk_model.specs.Replica.Answers.{answer_seen}
use Rattle.hk_model.specs.World.Worlds.{EventValue, ToldValue}
use Rattle.hk_model.specs.World.Worlds.EventValue.{Commit, MarkOf, Retire, Absorb, Batch, Prune, Merge, Delta, Ask, FrontOf}
use Rattle.hk_model.specs.World.Worlds.ToldValue.{Committed, Marked, Absorbed, Done, Answered, Fronted, Refused}

-- the value that an `Event` has
abbrev pub event_seen : Event → EventValue
event_seen (events.Commit stream read_at writes) = Commit stream read_at writes.items
event_seen (events.MarkOf stream) = MarkOf stream
event_seen (events.Retire stream) = Retire stream
event_seen (events.Absorb replica item) = Absorb replica item
event_seen (events.Batch replica items) = Batch replica items.items
event_seen (events.Prune replica horizon) = Prune replica horizon
event_seen (events.Merge to from) = Merge to from
event_seen (events.Delta to from base) = Delta to from base
event_seen (events.Ask replica t query) = Ask replica t query
event_seen (events.FrontOf replica) = FrontOf replica

-- the value that a `Told` has
abbrev pub told_seen : Told → ToldValue
told_seen (tells.Committed time) = Committed time
told_seen (tells.Marked mark) = Marked mark
told_seen (tells.Took took) = Absorbed took
told_seen tells.Done = Done
told_seen (tells.Answered answer) = Answered (answer_seen answer)
told_seen (tells.Fronted front) = Fronted front.horizon front.readable
told_seen (tells.Refused why) = Refused why
