-- Outlines of items: an entry without what it writes.
use Rattle.std.specs.Prelude.{◌≡◌, ℕ, List, ◌++◌, length, map, Result}
use Rattle.hk_types.specs.declared.faults.FormFault.{FormFault}
use Rattle.hk_log.specs.Items.{EntryValue}
use Rattle.hk_log.specs.declared.item.Item.{Item}
use Rattle.hk_log.specs.declared.item.Item.TheVariants as items
use Rattle.hk_frames.specs.Fields.{mapped}
use Rattle.hk_frames.specs.Framing.{FormatOf}
use Rattle.hk_codec.specs.declared.outline.EntryOutline.{EntryOutline}
use Rattle.hk_codec.specs.declared.outline.ItemOutline.{ItemOutline}
use Rattle.hk_codec.specs.declared.outline.ItemOutline.TheVariants as outlines
use Rattle.hk_codec.specs.Encoding.{rest_text, IsWritten}
use Rattle.hk_codec.specs.Reading.{HeadValue, entry_behind, kind_at, item_at}
use Rattle.hk_codec.specs.Frames.{Reads}

-- how many ends and rows an entry has, in place of these
abbrev pub entry_outline : EntryValue → EntryOutline
entry_outline e = record { log = e.log; stream = e.stream; number = e.number; time = e.time; ends = length e.ends; rows = length e.rows }

abbrev pub item_outline : Item → ItemOutline
item_outline (items.Commit e) = outlines.Commit (entry_outline e)
item_outline (items.Closed m) = outlines.Closed m

-- the outline of what an entry has behind its head, of what stands behind a head, and the bytes after it
abbrev pub entry_outline_behind : HeadValue → List ℕ → Result (EntryOutline × List ℕ) FormFault
entry_outline_behind head bytes = mapped (λ e. (entry_outline e.0, e.1)) (entry_behind head bytes)

abbrev pub outline_behind : HeadValue → List ℕ → Result (ItemOutline × List ℕ) FormFault
outline_behind head bytes = mapped (λ i. (item_outline i.0, i.1)) (kind_at head bytes)

-- items stand in rests as ever, and their outlines are what is seen of them
abbrev pub outline_format : FormatOf ItemOutline 28 4233248
outline_format = record { Told = _; Seen = ItemOutline; seen = λ outline. outline; meant = λ w. item_outline w.item; read = item_at; rest_text = rest_text; IsEncodable = IsWritten }

-- the outlines are those of these items, which the text encodes
abbrev pub ReadsOutlines : List ℕ → List ItemOutline → Result (List ℕ) FormFault → Type 0
ReadsOutlines text outlines left = (items : List Item) × (outlines ≡ map item_outline items) × Reads text items left

-- what is added to a list where this text is read so far
abbrev pub AddsOutlines : List ItemOutline → List ItemOutline → List ℕ → Result (List ℕ) FormFault → Type 0
AddsOutlines before after text left = (more : List ItemOutline) × (after ≡ before ++ more) × ReadsOutlines text more left
