use Rattle.std.proofs.Common.{sym, ap, ◌∙◌, ◌==◌, ◌||◌}
use Rattle.hk_types.specs.Values.{same_row}
use Rattle.hk_model.specs.History.Facts.{end_facts}
use Rattle.hk_model.specs.Replica.Rules.{conflict}
use Rattle.hk_delta.proofs.ItemTests.{rows_conflict, ends_conflict}
use Rattle.hk_delta.proofs.conflicts.conflict.Goals as goal

pub returns-then-conflict_in_rows : goal.returns-then-conflict_in_rows
returns-then-conflict_in_rows c =
    let rows = c.conflict_in_rows.ensures ∙ sym (rows_conflict same_row c.args.items.now) in
    c.if-conflict_in_rows.true ∙ sym (ap (λ b. b || conflict (λ a b. a == b) (end_facts c.args.items.now)) (sym rows ∙ c.if-conflict_in_rows.true))

pub returns-else-conflict_in_rows : goal.returns-else-conflict_in_rows
returns-else-conflict_in_rows c =
    let rows = c.conflict_in_rows.ensures ∙ sym (rows_conflict same_row c.args.items.now) in
    c.conflict_in_ends.ensures ∙ sym (ends_conflict (λ a b. a == b) c.args.items.now) ∙ sym (ap (λ b. b || conflict (λ a b. a == b) (end_facts c.args.items.now)) (sym rows ∙ c.if-conflict_in_rows.false))
