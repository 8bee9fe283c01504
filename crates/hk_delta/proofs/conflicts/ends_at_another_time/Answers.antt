use Rattle.std.proofs.Common.{sym, ◌∙◌, ◌==◌}
use Rattle.hk_delta.specs.Gathers.{facts_conflict}
use Rattle.hk_delta.proofs.conflicts.ends_at_another_time.Goals as goal
use Rattle.hk_store.proofs.EntryConflicts.{any_map}

pub returns-in-Commit : goal.returns-in-Commit
returns-in-Commit c = rw (c.in-Commit.is) (c.entry_ends_conflict.ensures ∙ sym (any_map (facts_conflict (λ a b. a == b) (c.args.version, c.args.died)) (λ v. (v, c.in-Commit.entry.time)) c.in-Commit.entry.ends))
