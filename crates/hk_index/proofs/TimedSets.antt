-- Sets of timed rows.
use Rattle.std.proofs.Common.{◌≡◌, refl, sym, ap, ◌∙◌, subst, ℕ, Bool, true, false, ◌||◌, Option, Some, is_eq, Result, Ok, Err}
use Rattle.std.specs.Cmp.{tied_itself}
use Rattle.std.specs.Option.{IfSome}
use Rattle.std.specs.Result.{OnOk, OnErr}
use Rattle.std.specs.Ordering.{eq_by_cmp}
use Rattle.std.specs.FinSet as set
use Rattle.hk_model.specs.History.Rows.{RowKey}
use Rattle.hk_index.specs.Timed.{StillThere, timed_cmp, has_row}
use Rattle.hk_index.proofs.TimedLists.{timed_total}

abbrev pub Times : Type 0
Times = set.FinSet timed_cmp

or_right : (a b : Bool) → b ≡ true → (a || b) ≡ true
or_right true b e = refl
or_right false b e = e

pub still_there : (index : Times) (time n : ℕ) (row k : RowKey) → has_row index n k ≡ true → has_row (set.insert index (record { time = time; row = row })) n k ≡ true
still_there index time n row k there = set.contains-insert timed_total index (record { time = time; row = row }) (record { time = n; row = k }) ∙ or_right (eq_by_cmp timed_cmp (record { time = n; row = k }) (record { time = time; row = row })) (has_row index n k) there

pub now_there : (index : Times) (time : ℕ) (row : RowKey) → has_row (set.insert index (record { time = time; row = row })) time row ≡ true
now_there index time row = set.contains-insert timed_total index (record { time = time; row = row }) (record { time = time; row = row }) ∙ ap (λ b. b || has_row index time row) (ap is_eq (tied_itself timed_total (record { time = time; row = row })))

-- what an addition that may fail leaves
pub added : {X E : Type 0} (old new : Times) (o : Option ℕ) (time : ℕ) (row : RowKey) → o ≡ Some time → (r : Result X E) → OnOk r (new ≡ set.insert old (record { time = time; row = row })) → OnOk r (IfSome o (λ t. has_row new t row ≡ true))
added old new o time row is (Ok x) e = subst (λ (p : Option ℕ). IfSome p (λ t. has_row new t row ≡ true)) (sym is) (ap (λ (s : Times). has_row s time row) e ∙ now_there old time row)
added old new o time row is (Err why) e = e

pub kept_or_added : {X E : Type 0} (old new : Times) (time : ℕ) (row : RowKey) (r : Result X E) → OnOk r (new ≡ set.insert old (record { time = time; row = row })) → OnErr r (new ≡ old) → StillThere old new
kept_or_added old new time row (Ok x) e kept n k there = ap (λ (s : Times). has_row s n k) e ∙ still_there old time n row k there
kept_or_added old new time row (Err why) e kept n k there = ap (λ (s : Times). has_row s n k) kept ∙ there
