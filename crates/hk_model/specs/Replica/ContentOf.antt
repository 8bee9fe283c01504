-- The content that represents a set of items at a horizon.
use Rattle.std.specs.Prelude.{ℕ, List}
use Rattle.hk_log.specs.declared.item.Item.{Item}
use Rattle.hk_types.specs.Values.{ConfigValue}
use Rattle.hk_model.specs.History.Facts.{rows_of, ends_of}
use Rattle.hk_model.specs.Replica.Streams.{streams_of}
use Rattle.hk_model.specs.Replica.Content.{Content, without_ended}

-- the rows with no end at most h, the ends above h, and what the items tell of each stream
abbrev pub content_of : ConfigValue → List Item → ℕ → Content
content_of config items h =
    record {
      log = config.log;
      horizon = h;
      rows = without_ended (ends_of items) h (rows_of items);
      ends = without_ended (ends_of items) h (ends_of items);
      streams = streams_of config.streams items;
    }
