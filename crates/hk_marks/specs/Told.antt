-- What is told of a stream: how much is known of it.
use Rattle.std.specs.Prelude.{ℕ, max, if◌then◌else◌, List, [], ◌∷◌}
use Rattle.std.specs.Ordering.{nat_cmp}
use Rattle.std.specs.FinMap as finmap
use Rattle.std.specs.FinSet as set
use Rattle.hk_model.specs.Replica.Streams.{StreamContent, covers}
use Rattle.hk_model.specs.declared.streams_told.StreamTold.{StreamTold}
use Rattle.hk_marks.specs.Steps.{extra_numbers}

-- the greatest of these numbers up to which all are taken, else 0
abbrev pub greatest_reached : set.FinSet nat_cmp → List ℕ → ℕ
greatest_reached taken [] = 0
greatest_reached taken (q ∷ numbers) = if covers taken q then max q (greatest_reached taken numbers) else greatest_reached taken numbers

-- the greatest number up to which all are taken
abbrev pub prefix_of : StreamContent → ℕ
prefix_of s = greatest_reached s.taken (set.items s.taken)

-- the prefix and the closed time, and how many numbers above the prefix are taken, and how many marks wait
abbrev pub stream_told : StreamContent → StreamTold
stream_told s = record { prefix = prefix_of s; closed = s.closed; extra = set.len (extra_numbers s); waiting = finmap.len s.waiting }
