-- Frames of items, one after the other on a stream.
use Rattle.std.specs.Prelude.{◌≡◌, ℕ, ◌⊎◌, List, [], ◌++◌, map, Option, Result, Ok, Err}
use Rattle.std.specs.Global.{Vec}
use Rattle.std.specs.List.{flat_map, AllByRecursion}
use Rattle.hk_types.specs.declared.faults.FormFault.{FormFault}
use Rattle.hk_types.specs.declared.faults.Refusal.{Refusal}
use Rattle.hk_types.specs.declared.faults.Refusal.TheVariants as refusals
use Rattle.hk_log.specs.declared.item.Item.{Item}
use Rattle.hk_frames.specs.Framing.{framed, encoded, Begins, FormatOf}
pub use Rattle.hk_frames.specs.Framing.{rest_of, rest_from, answer, last_answer, Feeds, KeepsFault, KeepsOnMemory}
use Rattle.hk_codec.specs.Encoding.{WrittenItem, rest_text, IsWritten}
use Rattle.hk_codec.specs.Reading.{item_at}

-- a frame: the length of the rest, and the rest
abbrev pub frame_text : WrittenItem → List ℕ
frame_text = encoded rest_text

-- the frame of an item in a version
abbrev pub encoding_of : ℕ → Item → List ℕ
encoding_of version item = frame_text (record { version = version; item = item })

-- The item at the front with its version, and how many bytes its frame has, or none where a whole frame isn't there yet.
-- The shortest rest is a mark's, with 28 bytes, and the longest is that in version 2 of an entry with 1,024 ends and
-- 1,024 rows of full bodies, each in a table of its own, with 4,233,248. It is the limit in version 1 too.
abbrev pub frame_at : List ℕ → Result (Option (WrittenItem × ℕ)) FormFault
frame_at bytes = framed 28 4233248 item_at bytes

-- The text begins with encodings of these items, each in version 1 or 2. After them comes less than a frame, which is
-- left, or bytes with this fault.
abbrev pub Reads : List ℕ → List Item → Result (List ℕ) FormFault → Type 0
Reads text items left = (written : List WrittenItem) × (items ≡ map (λ w. w.item) written) × Begins 28 4233248 item_at rest_text IsWritten text written left

-- how items stand in rests
abbrev pub item_format : FormatOf Item 28 4233248
item_format = record { Told = WrittenItem; Seen = Item; seen = λ item. item; meant = λ w. w.item; read = item_at; rest_text = rest_text; IsEncodable = IsWritten }

-- what is added to a list where this text is read so far
abbrev pub Adds : List Item → List Item → List ℕ → Result (List ℕ) FormFault → Type 0
Adds before after text left = (items : List Item) × (after ≡ before ++ items) × Reads text items left

-- There is a fault after the encodings that the text begins with, or it ends inside a frame.
abbrev pub IsRefused : List ℕ → Refusal → Type 0
IsRefused text why = (items : List Item) × (left : Result (List ℕ) FormFault) × Reads text items left × (last_answer left ≡ Err why)

-- All of the text is encodings of the items, each in version 1 or 2, or the text is refused.
abbrev pub Decodes : List ℕ → Result (Vec Item) Refusal → Type 0
Decodes text (Ok v) = (written : List WrittenItem) × (v.items ≡ map (λ w. w.item) written) × (text ≡ flat_map frame_text written) × AllByRecursion IsWritten written
Decodes text (Err r) = (r ≡ refusals.Memory) ⊎ IsRefused text r

-- The items that all of the text encodes were added in version 2, or the text is refused and nothing was added.
abbrev pub Rewrites : List ℕ → List ℕ → List ℕ → Result (Unit {0}) Refusal → Type 0
Rewrites text before after (Ok done) = (items : List Item) × Reads text items (Ok []) × (after ≡ before ++ flat_map (encoding_of 2) items)
Rewrites text before after (Err r) = (after ≡ before) × ((r ≡ refusals.Memory) ⊎ IsRefused text r)
