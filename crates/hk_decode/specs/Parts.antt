-- Frames of items that were read from the front of a text, and parts of it that are whole frames.
use Rattle.std.specs.Prelude.{◌≡◌, ℕ, ◌≤◌, List, ◌++◌, length, map, drop}
use Rattle.std.specs.List.{flat_map, AllByRecursion}
use Rattle.hk_log.specs.declared.item.Item.{Item}
use Rattle.hk_codec.specs.Encoding.{WrittenItem, IsWritten}
use Rattle.hk_codec.specs.Frames.{frame_text}

-- the frames of so many bytes from the front were read, and their items added
pub record HasRead (text : List ℕ) (before after : List Item) (used : ℕ) : Type 0 where
  pub fits : used ≤ length text
  pub written : List WrittenItem
  pub added : after ≡ before ++ map (λ w. w.item) written
  pub whole : text ≡ flat_map frame_text written ++ drop used text
  pub each : AllByRecursion IsWritten written

-- from start to end are encodings of the items
pub record IsPart (text : List ℕ) (start end : ℕ) (items : List Item) : Type 0 where
  pub fits : end ≤ length text
  pub written : List WrittenItem
  pub same : items ≡ map (λ w. w.item) written
  pub whole : drop start text ≡ flat_map frame_text written ++ drop end text
  pub each : AllByRecursion IsWritten written
