-- The rows of a page fit its room.
use Rattle.std.proofs.Common.{◌≡◌, refl, ℕ, zero, suc, ◌+◌, ◌-◌, ◌≤◌, Bool, true, false, cond, nat_lt, min, List, [], ◌∷◌, take, arith}
use Rattle.std.proofs.lemmas.Bool.Decides.{nat_tests}
use Rattle.hk_types.specs.Values.{RowValue}
use Rattle.hk_model.specs.Replica.Pages.{row_size, rows_size, rows_within, PageFits}

-- as many rows as fit the room are no larger than it
within_fit : (k room : ℕ) (rows : List (ℕ × RowValue)) → k ≤ rows_within room rows → rows_size (take k rows) ≤ room
within_fit zero room rows le = omega arith
within_fit (suc k) room [] le = omega arith
within_fit (suc k) room (e ∷ rows) le = by (nat_lt room (row_size e)) refl le (within_fit k (room - row_size e) rows)
  where
    by : (b : Bool) → nat_lt room (row_size e) ≡ b → suc k ≤ cond b 0 (suc (rows_within (room - row_size e) rows))
        → (k ≤ rows_within (room - row_size e) rows → rows_size (take k rows) ≤ room - row_size e)
        → row_size e + rows_size (take k rows) ≤ room
    by true is le less = absurd (omega (arith, le))
    by false is le less =
        let rest = less (omega (arith, le)) in
        let fits : row_size e ≤ room = grind (arith, nat_tests) in
        omega (arith, rest, fits)

-- so are those of a page whose first row is no larger
first_fits : (k room : ℕ) (e : ℕ × RowValue) (rows : List (ℕ × RowValue)) → row_size e ≤ room → k ≤ suc (rows_within (room - row_size e) rows)
    → rows_size (take k (e ∷ rows)) ≤ room
first_fits zero room e rows fits le = omega arith
first_fits (suc k) room e rows fits le =
    let rest = within_fit k (room - row_size e) rows (omega (arith, le)) in
    omega (arith, rest, fits)

pub page_fits : PageFits
page_fits most room [] all = omega arith
page_fits most room (e ∷ rows) all =
    first_fits (min most (suc (rows_within (room - row_size e) rows))) room e rows (all 0 e (omega arith)) (omega arith)
