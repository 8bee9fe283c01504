-- How a page is filled, row by row.
use Rattle.std.specs.Prelude.{◌≡◌, ◌≢◌, ℕ, zero, suc, ◌+◌, ◌-◌, ◌<◌, ◌++◌, ◌==◌, ◌&&◌, ◌||◌, min, nat_lt, nat_le, Bool, true, false, List, length, Option, None, Some, MatchOption, Result, IfOk}
use Rattle.hk_types.specs.Values.{RowValue}
use Rattle.hk_model.specs.declared.page.Page.{Page}
use Rattle.hk_model.specs.Replica.Pages.{page_len, page_of, page_seen, rows_within}
use Rattle.hk_chains.specs.declared.page.PageBuilder.{PageBuilder}

-- whether a page with so many rows, of at most so many, with room for so many bytes has room for a row of this size
abbrev pub has_room : ℕ → ℕ → ℕ → ℕ → Bool
has_room count most room size = nat_lt count most && ((count == 0) || nat_le size room)

-- how many of the rows that come such a page takes
abbrev pub taken_of : ℕ → ℕ → ℕ → List (ℕ × RowValue) → ℕ
taken_of zero most room rows = page_len most room rows
taken_of (suc count) most room rows = min (most - suc count) (rows_within room rows)

-- how many rows it has once it has taken them
abbrev pub final_len : ℕ → ℕ → ℕ → List (ℕ × RowValue) → ℕ
final_len count most room rows = count + taken_of count most room rows

-- the page has these rows too, and takes of those that follow what it would have taken of them after these
abbrev pub Takes : PageBuilder → PageBuilder → List (ℕ × RowValue) → Type 0
Takes old new rows =
    (new.most ≡ old.most) × (new.rows.items ≡ old.rows.items ++ rows)
    × ((more : List (ℕ × RowValue)) → final_len (length new.rows.items) old.most new.room more ≡ final_len (length old.rows.items) old.most old.room (rows ++ more))

-- the page is as before, since it has no room for the first of these rows
abbrev pub IsFull : PageBuilder → PageBuilder → List (ℕ × RowValue) → Type 0
IsFull old new rows =
    (new.rows.items ≡ old.rows.items) × (0 < length rows)
    × ((more : List (ℕ × RowValue)) → final_len (length old.rows.items) old.most old.room (rows ++ more) ≡ length old.rows.items)

-- what came is the first page of these rows; a call whose looks are counted may give up, and memory may run out
abbrev pub IsPageWithin : {E : Type 0} → Option ℕ → ℕ → ℕ → List (ℕ × RowValue) → Result (Option Page) E → Type 0
IsPageWithin looks most room rows result = IfOk result (λ found. MatchOption found (looks ≢ None) (λ page. page_seen page ≡ page_of most room rows))

-- one of the looks that are left was taken, or there is none; where they aren't counted they stay so
abbrev pub Spends : Option ℕ → Option ℕ → Bool → Type 0
Spends None new has = (new ≡ None) × (has ≡ true)
Spends (Some left) new true = (fewer : ℕ) × (new ≡ Some fewer) × (left ≡ suc fewer)
Spends (Some left) new false = (new ≡ Some left) × (left ≡ 0)
