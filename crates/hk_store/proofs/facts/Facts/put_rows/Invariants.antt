use Rattle.std.proofs.Common.{◌≡◌, ℕ, List, ◌++◌, false, map}
use Rattle.std.specs.Bool.{OnTrue}
use Rattle.std.specs.VecDeque.{deque_len}
use Rattle.std.specs.FinMap as finmap
use Rattle.hk_types.specs.Values.{RowValue}
use Rattle.hk_model.specs.Replica.Maps.{union}
use Rattle.hk_model.specs.History.Facts.{inserted_version}
use Rattle.hk_store.specs.Undos.{rows_conflict, rolled_back}
use Rattle.hk_store.proofs.EntryPut.{IsOutside}
use Rattle.hk_store.proofs.facts.Facts.put_rows.Given as goal

abbrev pub invariant-loop-table : goal.invariant-loop-table
invariant-loop-table l =
    (done : List (ℕ × ℕ × RowValue)) × (l.fn.rows.items ≡ done ++ l.rows.items)
    × IsOutside (inserted_version l.fn.time) l.fn.self.rows l.self.rows done
    × OnTrue l.room (l.self.rows ≡ union l.fn.self.rows (finmap.from_entries (map (inserted_version l.fn.time) done)))
    × (rows_conflict l.fn.self l.fn.time done ≡ false)
    × (l.self.ends ≡ l.fn.self.ends)
    × (rolled_back l.undo l.self ≡ rolled_back l.fn.undo l.fn.self)

abbrev pub decreases-loop-table : goal.decreases-loop-table
decreases-loop-table l = deque_len l.rows
