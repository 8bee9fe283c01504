use Rattle.std.proofs.Common.{sym, ◌∙◌}
use Rattle.std.specs.List.{list_any}
use Rattle.hk_types.specs.Values.{same_row}
use Rattle.hk_model.specs.History.Facts.{inserted_version}
use Rattle.hk_delta.specs.Gathers.{facts_conflict, inserted_rows}
use Rattle.hk_delta.proofs.conflicts.are_rows_conflicting.Goals as goal
use Rattle.hk_store.proofs.EntryConflicts.{any_map}

pub returns-in-Commit : goal.returns-in-Commit
returns-in-Commit c = rw (c.in-Commit.is) (c.are_entry_rows_conflicting.ensures ∙ sym (any_map (λ e. list_any (λ item. list_any (facts_conflict same_row e) (inserted_rows item)) c.args.items.now) (inserted_version c.in-Commit.entry.time) c.in-Commit.entry.rows))
