-- What calls do to the stored parts of a stream: its prefix, its extra numbers, its closed time and its waiting marks.
use Rattle.std.specs.Prelude.{◌≡◌, ℕ, Bool, ◌<◌, ◌++◌, ◌&&◌, true, not, cond, filter, is_some, nat_le, nat_lt, List, [], Some, None}
use Rattle.std.specs.List.{list_any}
use Rattle.std.specs.Ordering.{nat_cmp, eq_by_cmp}
use Rattle.std.specs.FinMap as finmap
use Rattle.std.specs.FinSet as set
use Rattle.std.specs.BTreeMap as tree
use Rattle.std.specs.BTreeMap.{BTreeMap}
use Rattle.hk_model.specs.Replica.Streams.{covers, stream_with}
use Rattle.hk_model.proofs.Replica.Streams.{later, told}
use Rattle.hk_marks.specs.Seen.{up_to, taken_seen, waiting_seen}
use Rattle.hk_numbers.specs.Runs.{numbers_seen}

-- the numbers 1 to the prefix are all taken, and the next one is not
abbrev pub HasPrefix : set.FinSet nat_cmp → ℕ → Type 0
HasPrefix taken prefix = (n : ℕ) → covers taken n ≡ nat_le n prefix

-- the numbers of two views of a stream: each has a prefix, and extra numbers in runs
abbrev pub both_taken : ℕ → BTreeMap ℕ ℕ → ℕ → BTreeMap ℕ ℕ → set.FinSet nat_cmp
both_taken prefix extra upto others = set.union (taken_seen prefix (numbers_seen extra)) (taken_seen upto (numbers_seen others))

-- the numbers 1 to the prefix, and those of another view
abbrev pub taken_beside : ℕ → ℕ → BTreeMap ℕ ℕ → set.FinSet nat_cmp
taken_beside prefix upto others = set.union (up_to prefix) (taken_seen upto (numbers_seen others))

-- above the prefix the numbers up to reach are there, and no others
abbrev pub GoesOn : ℕ → ℕ → set.FinSet nat_cmp → Type 0
GoesOn prefix reach numbers = (q : ℕ) → prefix < q → set.contains numbers q ≡ nat_le q reach

-- the marks that the prefix covers were forgotten, and it is closed at least up to their times
abbrev pub Settles : ℕ → ℕ → ℕ → BTreeMap ℕ ℕ → BTreeMap ℕ ℕ → Type 0
Settles prefix before after old new =
    (taken : set.FinSet nat_cmp) → HasPrefix taken prefix
    → stream_with taken before (finmap.entries (waiting_seen old)) ≡ record { taken = taken; closed = after; waiting = waiting_seen new }

-- these marks were taken too: with a prefix that covers some the stream is closed up to their times, the others wait
abbrev pub RaisesMarks : ℕ → ℕ → ℕ → BTreeMap ℕ ℕ → BTreeMap ℕ ℕ → List (ℕ × ℕ) → Type 0
RaisesMarks prefix before after old new marks =
    (taken : set.FinSet nat_cmp) → HasPrefix taken prefix
    → stream_with taken after (finmap.entries (waiting_seen new)) ≡ stream_with taken before (finmap.entries (waiting_seen old) ++ marks)

-- this mark waits too, and of two of its count the later one
abbrev pub AddsMark : ℕ → ℕ → BTreeMap ℕ ℕ → BTreeMap ℕ ℕ → Type 0
AddsMark count upto old new = (q : ℕ) → tree.get nat_cmp new q ≡ later (told (count, upto) q) (tree.get nat_cmp old q)

-- whether a list has a number
abbrev pub has_number : List ℕ → ℕ → Bool
has_number numbers q = list_any (eq_by_cmp nat_cmp q) numbers

-- a mark of time 0 waits for each of these counts
abbrev pub AddsCounts : List ℕ → BTreeMap ℕ ℕ → BTreeMap ℕ ℕ → Type 0
AddsCounts counts old new = (q : ℕ) → tree.get nat_cmp new q ≡ cond (has_number counts q) (Some 0) (tree.get nat_cmp old q)

-- no mark waits for these counts, and the others wait as before
abbrev pub RemovesCounts : List ℕ → BTreeMap ℕ ℕ → BTreeMap ℕ ℕ → Type 0
RemovesCounts counts old new = (q : ℕ) → tree.get nat_cmp new q ≡ cond (has_number counts q) None (tree.get nat_cmp old q)

-- of these counts, those that the prefix does not cover, and for which no mark waits
abbrev pub lacking_counts : ℕ → BTreeMap ℕ ℕ → List ℕ → List ℕ
lacking_counts prefix waiting counts = filter (λ q. nat_lt prefix q && not (is_some (tree.get nat_cmp waiting q))) counts

-- of these counts none is beyond the prefix, whatever marks wait
abbrev pub LacksNone : ℕ → List ℕ → Type 0
LacksNone prefix counts = (waiting : BTreeMap ℕ ℕ) → lacking_counts prefix waiting counts ≡ []

-- a mark waits already for each count of these marks that the prefix does not cover
abbrev pub HasCounts : ℕ → BTreeMap ℕ ℕ → BTreeMap ℕ ℕ → Type 0
HasCounts prefix waiting marks =
    (q : ℕ) → is_some (tree.get nat_cmp marks q) ≡ true → prefix < q → is_some (tree.get nat_cmp waiting q) ≡ true
