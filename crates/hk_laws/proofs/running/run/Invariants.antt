use Rattle.std.proofs.Common.{◌≡◌, ◌≤◌, ◌+◌, map}
use Rattle.std.specs.Vec.{vec_capacity, vec_len}
use Rattle.hk_model.specs.World.Events.{event_seen, told_seen}
use Rattle.hk_laws.proofs.RunByEvents.{Carries}
use Rattle.hk_laws.proofs.EachTold.{Stands}
use Rattle.hk_laws.proofs.running.run.Given as goal

abbrev pub invariant-loop-event : goal.invariant-loop-event
invariant-loop-event l = record {
  carried : Carries l.fn.config l.fn.replicas (map event_seen l.fn.events.items) (map told_seen l.outcome.items) (map event_seen l.event-iterator.rest.items) l.world.world;
  stands : Stands l.fn.config l.fn.replicas (map event_seen l.fn.events.items) (map told_seen l.outcome.items) (map event_seen l.event-iterator.rest.items) l.world.world;
  same : l.world.config ≡ l.fn.config;
  counted : vec_len l.outcome + l.event-iterator.rest.len ≡ vec_len l.fn.events;
  room : vec_len l.fn.events ≤ vec_capacity l.outcome;
}
