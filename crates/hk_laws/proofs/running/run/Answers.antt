use Rattle.std.proofs.Common.{◌≡◌, sym, ap, ◌∙◌, subst, arith, length, map, List, [], ◌∷◌, ◌++◌, refl}
use Rattle.std.proofs.lemmas.List.{length-map, map-append}
use Rattle.hk_model.specs.Replica.Content.{Content}
use Rattle.hk_model.specs.declared.event.Event.{Event}
use Rattle.hk_model.specs.declared.told.Told.{Told}
use Rattle.hk_model.specs.World.Events.{event_seen, told_seen}
use Rattle.hk_model.specs.World.Worlds.{World, ToldValue, new_contents, new_items}
use Rattle.hk_laws.specs.Running.{Running}
use Rattle.hk_laws.proofs.RunByEvents.{Carries, carries_all, carries_on, carried, same_config}
use Rattle.hk_laws.proofs.EachTold.{MayFollow, Stands, all_left, stands_on, each_told}
use Rattle.hk_laws.proofs.running.run.Goals as goal

pub loop-event-init : goal.loop-event-init
loop-event-init c =
    let config = c.args.config in
    let n = c.args.replicas in
    let all = map event_seen c.args.events.items in
    record {
      carried =
          subst (λ (w : World Content). Carries config n all (map told_seen c.in_ok-outcome.outcome.items) (map event_seen c.into_iter-event-iterator.result.rest.items) w) (sym (ap (λ (r : Running). r.world) c.in_ok-world.ensures.ok))
          (subst (λ (es : List Event). Carries config n all (map told_seen c.in_ok-outcome.outcome.items) (map event_seen es) (new_contents config n)) (sym c.into_iter-event-iterator.ensures.into_iter_gives.0)
          (subst (λ (ts : List Told). Carries config n all (map told_seen ts) all (new_contents config n)) (sym c.in_ok-outcome.ensures.items) (carries_all config n all)));
      stands = (
        new_items n,
        c.in_ok-world.ensures.represents,
        subst (λ (es : List Event). MayFollow config n all (map told_seen c.in_ok-outcome.outcome.items) (map event_seen es) (new_items n)) (sym c.into_iter-event-iterator.ensures.into_iter_gives.0)
            (subst (λ (ts : List Told). MayFollow config n all (map told_seen ts) all (new_items n)) (sym c.in_ok-outcome.ensures.items) (all_left config n all)),
      );
      same = ap (λ (r : Running). r.config) c.in_ok-world.ensures.ok;
      counted = omega (arith, c.in_ok-outcome.ensures.len, c.into_iter-event-iterator.ensures.into_iter_gives.1);
      room = omega (arith, c.in_ok-outcome.ensures.capacity, c.len.ensures);
    }

pub push_outcome-requires : goal.push_outcome-requires
push_outcome-requires c = omega (arith, c.loop-event.invariant.counted, c.loop-event.invariant.room, c.in-Some.ensures.steps.1)

pub loop-event-preserved : goal.loop-event-preserved
loop-event-preserved c =
    let config = c.args.config in
    let n = c.args.replicas in
    let all = map event_seen c.args.events.items in
    let before = subst (λ (es : List Event). Carries config n all (map told_seen c.loop-event.outcome.items) (map event_seen es) c.loop-event.world.world) c.in-Some.ensures.steps.0 c.loop-event.invariant.carried in
    let stood = subst (λ (es : List Event). Stands config n all (map told_seen c.loop-event.outcome.items) (map event_seen es) c.loop-event.world.world) c.in-Some.ensures.steps.0 c.loop-event.invariant.stands in
    let outcome : map told_seen c.loop-event.outcome.items ++ told_seen c.step.result ∷ [] ≡ map told_seen c.push_outcome.new.list.items = sym (ap (map told_seen) c.push_outcome.ensures.items ∙ map-append told_seen c.loop-event.outcome.items (c.step.result ∷ [])) in
    record {
      carried = subst (λ (ts : List ToldValue). Carries config n all ts (map event_seen c.next.new.self.rest.items) c.step.new.self.world) outcome
          (carries_on config n all (map told_seen c.loop-event.outcome.items) (event_seen c.in-Some.event) (map event_seen c.next.new.self.rest.items) c.loop-event.world c.step.new.self (told_seen c.step.result) c.loop-event.invariant.same c.step.ensures.gives before);
      stands = subst (λ (ts : List ToldValue). Stands config n all ts (map event_seen c.next.new.self.rest.items) c.step.new.self.world) outcome
          (stands_on config n all (map told_seen c.loop-event.outcome.items) (event_seen c.in-Some.event) (map event_seen c.next.new.self.rest.items) c.loop-event.world c.step.new.self (told_seen c.step.result) c.loop-event.invariant.same c.step.ensures.represents stood);
      same = same_config c.loop-event.world c.step.new.self (event_seen c.in-Some.event) (told_seen c.step.result) c.step.ensures.gives ∙ c.loop-event.invariant.same;
      counted = omega (arith, c.loop-event.invariant.counted, c.push_outcome.ensures.len, c.in-Some.ensures.steps.1);
      room = omega (arith, c.loop-event.invariant.room, c.push_outcome.ensures.room);
    }

none_left : (es : List Event) → length es ≡ 0 → es ≡ []
none_left [] e = refl
none_left (x ∷ es) e = absurd (omega arith)

pub returns-clause-ok : goal.returns-clause-ok
returns-clause-ok c =
    let config = c.args.config in
    let n = c.args.replicas in
    let all = map event_seen c.args.events.items in
    let end : length c.loop-event.event-iterator.rest.items ≡ 0 = omega (arith, c.loop-event.event-iterator.rest.ok, c.in-None.ensures.steps.0) in
    let left = none_left c.loop-event.event-iterator.rest.items end in
    record {
      as_many = omega (arith, length-map c.loop-event.outcome.items told_seen, length-map c.args.events.items event_seen, c.loop-event.outcome.ok.0, c.args.events.ok.0, c.loop-event.invariant.counted, c.in-None.ensures.steps.0);
      same = carried config n all (map told_seen c.loop-event.outcome.items) c.loop-event.world.world
          (subst (λ (es : List Event). Carries config n all (map told_seen c.loop-event.outcome.items) (map event_seen es) c.loop-event.world.world) left c.loop-event.invariant.carried);
    }

pub returns-clause-each : goal.returns-clause-each
returns-clause-each c =
    let config = c.args.config in
    let n = c.args.replicas in
    let all = map event_seen c.args.events.items in
    let end : length c.loop-event.event-iterator.rest.items ≡ 0 = omega (arith, c.loop-event.event-iterator.rest.ok, c.in-None.ensures.steps.0) in
    let left = none_left c.loop-event.event-iterator.rest.items end in
    each_told config n all (map told_seen c.loop-event.outcome.items) c.loop-event.world.world
    (subst (λ (es : List Event). Stands config n all (map told_seen c.loop-event.outcome.items) (map event_seen es) c.loop-event.world.world) left c.loop-event.invariant.stands)
