use Rattle.std.proofs.Common.{sym, ◌∙◌}
use Rattle.hk_types.specs.Values.{same_row}
use Rattle.hk_model.specs.History.Facts.{inserted_version}
use Rattle.hk_delta.specs.Gathers.{facts_conflict}
use Rattle.hk_delta.proofs.conflicts.inserts_another.Goals as goal
use Rattle.hk_store.proofs.EntryConflicts.{any_map}

pub returns-in-Commit : goal.returns-in-Commit
returns-in-Commit c = rw (c.in-Commit.is) (c.entry_inserts_another.ensures ∙ sym (any_map (facts_conflict same_row (c.args.version, c.args.row.now)) (inserted_version c.in-Commit.entry.time) c.in-Commit.entry.rows))
