-- What one number, one mark or a prefix makes of a stream, and which numbers are extra.
use Rattle.std.specs.Prelude.{◌≡◌, ℕ, List, [], ◌∷◌, length, max, not}
use Rattle.std.specs.Ordering.{nat_cmp}
use Rattle.std.specs.FinMap as finmap
use Rattle.std.specs.FinSet as set
use Rattle.hk_log.specs.Items.{EntryValue, MarkValue}
use Rattle.hk_log.specs.declared.item.Item.{Item}
use Rattle.hk_log.specs.declared.item.Item.TheVariants.{Commit, Closed}
use Rattle.hk_model.specs.Replica.Streams.{StreamContent, all_together, covers, stream_with, streams_of}
use Rattle.hk_marks.specs.Seen.{up_to}

-- the stream after this number was taken
abbrev pub with_number : StreamContent → ℕ → StreamContent
with_number s number = stream_with (set.insert s.taken number) s.closed (finmap.entries s.waiting)

-- the stream after this mark was taken
abbrev pub with_mark : StreamContent → ℕ → ℕ → StreamContent
with_mark s count upto = stream_with s.taken s.closed ((count, upto) ∷ finmap.entries s.waiting)

-- the stream after the numbers 1 to the prefix were taken, closed at least to this time
abbrev pub with_prefix : StreamContent → ℕ → ℕ → StreamContent
with_prefix s prefix closed = stream_with (set.union s.taken (up_to prefix)) (max s.closed closed) (finmap.entries s.waiting)

-- the taken numbers above the prefix
abbrev pub extra_numbers : StreamContent → set.FinSet nat_cmp
extra_numbers s = set.retain s.taken (λ number. not (covers s.taken number))

-- no number above the prefix is taken, and no mark waits
abbrev pub IsInOrder : StreamContent → Type 0
IsInOrder s = (set.len (extra_numbers s) ≡ 0) × (finmap.len s.waiting ≡ 0)

-- the streams with what this item tells
abbrev pub with_told : List StreamContent → Item → List StreamContent
with_told streams item = all_together streams (streams_of (length streams) (item ∷ []))

-- the new streams are the old ones with what any entry of this stream and number tells
abbrev pub TakesEntry : List StreamContent → ℕ → ℕ → List StreamContent → Type 0
TakesEntry old stream number new = (e : EntryValue) → e.stream ≡ stream → e.number ≡ number → new ≡ with_told old (Commit e)

-- the new streams are the old ones with what this mark of this stream tells
abbrev pub TakesMark : List StreamContent → ℕ → ℕ → ℕ → List StreamContent → Type 0
TakesMark old stream count upto new =
    (mark : MarkValue) → mark.stream ≡ stream → mark.count ≡ count → mark.upto ≡ upto → new ≡ with_told old (Closed mark)
