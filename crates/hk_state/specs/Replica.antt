-- What a `ReplicaState` is, by its parts.
use Rattle.std.specs.Prelude.{◌≡◌, ℕ, List, length, nat_le, if◌then◌else◌, Option, Some, None}
use Rattle.hk_types.specs.Values.{ConfigValue}
use Rattle.hk_model.specs.Replica.Content.{Content}
use Rattle.hk_model.specs.Replica.Lawful.{IsLawful}
use Rattle.hk_model.specs.Replica.Streams.{StreamContent, stream_at}
use Rattle.hk_store.specs.Facts.{FactsValue}

-- the content of these parts
abbrev pub content_of_parts : ConfigValue → ℕ → FactsValue → List StreamContent → Content
content_of_parts config horizon facts streams = record { log = config.log; horizon = horizon; rows = facts.rows; ends = facts.ends; streams = streams }

-- what holds of the parts of every state, whatever came in
pub record IsReplica (config : ConfigValue) (horizon : ℕ) (facts : FactsValue) (streams : List StreamContent) : Type 0 where
  pub as_many : length streams ≡ config.streams
  pub lawful : IsLawful (content_of_parts config horizon facts streams)

-- the time up to which a stream is closed, if there is such a stream
abbrev pub closed_at : List StreamContent → ℕ → Option ℕ
closed_at streams stream = if nat_le stream (length streams) then Some (stream_at streams stream).closed else None
