use Rattle.std.proofs.Common.{sym, ◌∙◌, ◌==◌}
use Rattle.std.specs.List.{list_any}
use Rattle.hk_delta.specs.Gathers.{facts_conflict, stated_ends}
use Rattle.hk_delta.proofs.conflicts.are_ends_conflicting.Goals as goal
use Rattle.hk_store.proofs.EntryConflicts.{any_map}

pub returns-in-Commit : goal.returns-in-Commit
returns-in-Commit c = rw (c.in-Commit.is) (c.are_entry_ends_conflicting.ensures ∙ sym (any_map (λ e. list_any (λ item. list_any (facts_conflict (λ a b. a == b) e) (stated_ends item)) c.args.items.now) (λ v. (v, c.in-Commit.entry.time)) c.in-Commit.entry.ends))
