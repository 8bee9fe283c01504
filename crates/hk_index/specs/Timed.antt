-- Rows by time.
use Rattle.std.specs.Prelude.{◌≡◌, ◌≤◌, ℕ, Bool, true, ◌&&◌, refl, nat_le, List, length, take, Option, Some, None}
use Rattle.std.specs.declared.cmp.Ordering.{Ordering}
use Rattle.std.specs.Coded.{Coded, code_by, coded×, coded_ℕ}
use Rattle.std.specs.List.{list_any}
use Rattle.std.specs.List.Sorted.{IsNonDecreasingBy, IsStrictlySortedBy}
use Rattle.std.specs.Ordering.{eq_by_cmp, nat_cmp, on, then_cmp}
use Rattle.std.specs.FinSet as set
use Rattle.hk_model.specs.History.Rows.{RowKey, row_key_cmp}
use Rattle.hk_index.specs.declared.span.Span.{Span}
use Rattle.hk_index.specs.declared.timed_row.TimedRow.{TimedRow}

-- timed rows are in the order of time, then row
abbrev pub timed_cmp : TimedRow → TimedRow → Ordering
timed_cmp = then_cmp (on (λ t. t.time) nat_cmp) (on (λ t. t.row) row_key_cmp)

abbrev pub row_key_code : Coded RowKey
row_key_code = code_by (ℕ × ℕ) (coded× coded_ℕ coded_ℕ) (λ k. (k.table, k.key)) (λ p. record { table = p.0; key = p.1 }) (λ _. refl)

abbrev pub timed_code : Coded TimedRow
timed_code = code_by (ℕ × RowKey) (coded× coded_ℕ row_key_code) (λ t. (t.time, t.row)) (λ p. record { time = p.0; row = p.1 }) (λ _. refl)

-- whether a row is there with a time
abbrev pub has_row : set.FinSet timed_cmp → ℕ → RowKey → Bool
has_row index time row = set.contains index (record { time = time; row = row })

-- each row is still there with each of its times
abbrev pub StillThere : set.FinSet timed_cmp → set.FinSet timed_cmp → Type 0
StillThere old new = (time : ℕ) (row : RowKey) → has_row old time row ≡ true → has_row new time row ≡ true

-- whether a row is one of these
abbrev pub is_among : List RowKey → RowKey → Bool
is_among rows row = list_any (eq_by_cmp row_key_cmp row) rows

-- whether a time is up to the last one, where there is a last one
abbrev pub is_until : Option ℕ → ℕ → Bool
is_until None time = true
is_until (Some until) time = nat_le time until

-- whether a time is in a span
abbrev pub is_in_span : Span → ℕ → Bool
is_in_span span time = nat_le span.from time && is_until span.until time

-- the rows, in rising order, each once, have each that is there with a time of the span; they may have others
pub record ListsRows (index : set.FinSet timed_cmp) (span : Span) (rows : List RowKey) : Type 0 where
  pub rising : IsStrictlySortedBy row_key_cmp rows
  pub all : (time : ℕ) (row : RowKey) → is_in_span span time ≡ true → has_row index time row ≡ true → is_among rows row ≡ true

-- ---- as they are kept

-- whether it is one of these
abbrev pub is_in : List TimedRow → TimedRow → Bool
is_in ts t = list_any (eq_by_cmp timed_cmp t) ts

-- whether its time is in a span
abbrev pub is_within : Span → TimedRow → Bool
is_within span t = is_in_span span t.time

-- so many of the first are in the order of time
pub record IsOrdered (ts : List TimedRow) (ordered : ℕ) : Type 0 where
  pub fits : ordered ≤ length ts
  pub rising : IsNonDecreasingBy (λ t. t.time) (take ordered ts)
