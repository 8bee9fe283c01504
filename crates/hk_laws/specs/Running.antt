-- A world whose replicas are kept as their contents, with the configuration of its log.
use Rattle.hk_types.specs.Values.{ConfigValue}
use Rattle.hk_model.specs.Replica.Content.{Content}
use Rattle.hk_model.specs.World.Worlds.{World, EventValue, ToldValue, step, by_contents}

-- the value of a `World`
pub record Running : Type 0 where
  pub config : ConfigValue
  pub world : World Content

-- what an event tells, and the world after it
abbrev pub step_outcome : Running → EventValue → ToldValue × Running
step_outcome r event =
    let after = step (by_contents r.config) r.config r.world event in (after.0, record { config = r.config; world = after.1 })
