-- How the stored parts of a stream are seen.
use Rattle.std.specs.Prelude.{◌≡◌, ℕ, zero, suc, ◌^◌, ◌+◌, ◌<◌, ◌≤◌, List, length, All, true, false, Some}
use Rattle.std.specs.Ordering.{nat_cmp}
use Rattle.std.specs.FinMap as finmap
use Rattle.std.specs.FinSet as set
use Rattle.std.specs.BTreeMap as tree
use Rattle.std.specs.BTreeMap.{BTreeMap}
use Rattle.hk_model.specs.Replica.Streams.{StreamContent}
use Rattle.hk_model.specs.Replica.Lawful.{IsLawfulStream}
use Rattle.hk_numbers.specs.Runs.{numbers_seen, AreKept}

-- the numbers 1 to n
abbrev pub up_to : ℕ → set.FinSet nat_cmp
up_to zero = set.empty
up_to (suc n) = set.insert (up_to n) (suc n)

-- the numbers 1 to the prefix, and the extra ones
unfoldable pub taken_seen : ℕ → set.FinSet nat_cmp → set.FinSet nat_cmp
taken_seen prefix extra = set.union (up_to prefix) extra

-- marks by count
unfoldable pub waiting_seen : BTreeMap ℕ ℕ → finmap.FinMap nat_cmp ℕ
waiting_seen waiting = finmap.from_entries waiting.entries

abbrev pub stream_seen : ℕ → set.FinSet nat_cmp → ℕ → BTreeMap ℕ ℕ → StreamContent
stream_seen prefix extra closed waiting =
    record { taken = taken_seen prefix extra; closed = closed; waiting = waiting_seen waiting }

-- extra numbers lie above the next number
abbrev pub IsExtra : ℕ → set.FinSet nat_cmp → Type 0
IsExtra prefix extra = (q : ℕ) → set.contains extra q ≡ true → (prefix + 1 < q) × (q ≤ 2 ^ 62)

-- marks wait for numbers above the prefix
abbrev pub WaitsAbove : ℕ → BTreeMap ℕ ℕ → Type 0
WaitsAbove prefix waiting = (q m : ℕ) → tree.get nat_cmp waiting q ≡ Some m → prefix < q

-- what is seen of every stored stream
pub record IsStored (prefix : ℕ) (extra : set.FinSet nat_cmp) (waiting : BTreeMap ℕ ℕ) : Type 0 where
  pub prefix_most : prefix ≤ 2 ^ 62
  pub extras : IsExtra prefix extra
  pub waits : WaitsAbove prefix waiting

-- what every stored stream is: its extra numbers are kept as runs
pub record IsKept (prefix : ℕ) (extra waiting : BTreeMap ℕ ℕ) : Type 0 where
  pub runs : AreKept extra
  pub stored : IsStored prefix (numbers_seen extra) waiting

-- a stream as items make it: its entries are numbered from 1 to 2^62, its times are at most 2^62, and a mark that
-- waits is of no more entries than its time
pub record IsNumbered (s : StreamContent) : Type 0 where
  pub from_one : set.contains s.taken 0 ≡ false
  pub numbers : (q : ℕ) → set.contains s.taken q ≡ true → q ≤ 2 ^ 62
  pub closed : s.closed ≤ 2 ^ 62
  pub marks : (count upto : ℕ) → finmap.get s.waiting count ≡ Some upto → (count ≤ upto) × (upto ≤ 2 ^ 62)

-- what the streams of every `Got` are
pub record AreStreams (streams : List StreamContent) : Type 0 where
  pub least : 1 ≤ length streams
  pub most : length streams ≤ 64
  pub lawful : All IsLawfulStream streams
  pub numbered : All IsNumbered streams
