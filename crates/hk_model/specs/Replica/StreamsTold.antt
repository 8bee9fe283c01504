-- What is told of the streams of a content.
use Rattle.std.specs.Prelude.{ℕ, Bool, List, Option}
use Rattle.hk_model.specs.declared.streams_told.StreamTold.{StreamTold}
use Rattle.hk_model.specs.declared.streams_told.StreamsTold.{StreamsTold}

-- the value of a `StreamsTold`
pub record StreamsValue : Type 0 where
  pub log : ℕ
  pub horizon : ℕ
  pub readable : ℕ
  pub damaged : Bool
  pub operations : ℕ
  pub least_hold : Option ℕ
  pub streams : List StreamTold

-- the value that a `StreamsTold` has
abbrev pub streams_seen : StreamsTold → StreamsValue
streams_seen told =
    record {
      log = told.log;
      horizon = told.horizon;
      readable = told.readable;
      damaged = told.damaged;
      operations = told.operations;
      least_hold = told.least_hold;
      streams = told.streams.items;
    }
