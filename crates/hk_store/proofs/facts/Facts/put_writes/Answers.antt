use Rattle.std.proofs.Common.{sym, ap, ◌∙◌, ◌==◌, ◌∷◌, [], true, false}
use Rattle.hk_log.specs.declared.item.Item.TheVariants.{Commit}
use Rattle.hk_model.specs.History.Facts.{ends_of}
use Rattle.hk_model.specs.Replica.Maps.{maps_conflict}
use Rattle.hk_chains.specs.Facts.{conflicts_with_entry}
use Rattle.hk_store.proofs.EntryConflicts.{row_conflict, end_conflict}
use Rattle.hk_store.proofs.EntryPut.{refused_so, a_conflict, no_memory, agree_both, rows_differ, ends_differ}
use Rattle.hk_store.proofs.facts.Facts.put_writes.Goals as goal

pub returns-in_err-room-clause-err : goal.returns-in_err-room-clause-err
returns-in_err-room-clause-err c =
    let e = c.args.entry in
    let f = c.args.self.now in
    let err = c.in_err-room.ensures.err in
    let rows = row_conflict f.rows e c.from_vec-rows.result.items c.time-time.result true c.rows-rows_rise.ensures.lawful.rows_rise (c.from_vec-rows.ensures.items ∙ c.into_writes-ends.ensures.rows) c.time-time.ensures (sym err.1) in
    refused_so c.from_residual.result c.in_err-room.field-0.0 (conflicts_with_entry f e) c.from_residual.ensures.1 (a_conflict c.in_err-room.field-0.0 (conflicts_with_entry f e) err.0 (rows_differ f e rows))

pub returns-in_err-put_ends-clause-err : goal.returns-in_err-put_ends-clause-err
returns-in_err-put_ends-clause-err c =
    let e = c.args.entry in
    let f = c.args.self.now in
    let err = c.in_err-put_ends.ensures.err in
    let rows = row_conflict f.rows e c.from_vec-rows.result.items c.time-time.result false c.rows-rows_rise.ensures.lawful.rows_rise (c.from_vec-rows.ensures.items ∙ c.into_writes-ends.ensures.rows) c.time-time.ensures (sym c.in_ok-room.ensures.agrees) in
    let ends = end_conflict c.put_rows.new.self.ends e c.deref.result.now c.time-time.result true c.rows-rows_rise.ensures.lawful.ends_rise (c.deref.ensures.value ∙ c.into_writes-ends.ensures.ends) c.time-time.ensures (sym err.1) in
    refused_so c.from_residual-in_err-put_ends.result c.in_err-put_ends.field-0.0 (conflicts_with_entry f e) c.from_residual-in_err-put_ends.ensures.1
    (a_conflict c.in_err-put_ends.field-0.0 (conflicts_with_entry f e) err.0
    (ends_differ f e rows (ends ∙ ap (λ m. maps_conflict (λ a b. a == b) m (ends_of (Commit e ∷ []))) c.in_ok-room.ensures.ends)))

pub returns-then-not-branch-clause-err : goal.returns-then-not-branch-clause-err
returns-then-not-branch-clause-err c =
    let e = c.args.entry in
    let f = c.args.self.now in
    let rows = row_conflict f.rows e c.from_vec-rows.result.items c.time-time.result false c.rows-rows_rise.ensures.lawful.rows_rise (c.from_vec-rows.ensures.items ∙ c.into_writes-ends.ensures.rows) c.time-time.ensures (sym c.in_ok-room.ensures.agrees) in
    let ends = end_conflict c.put_rows.new.self.ends e c.deref.result.now c.time-time.result false c.rows-rows_rise.ensures.lawful.ends_rise (c.deref.ensures.value ∙ c.into_writes-ends.ensures.ends) c.time-time.ensures (sym c.in_ok-put_ends.ensures.agrees) in
    no_memory (conflicts_with_entry f e) (agree_both f e rows (ends ∙ ap (λ m. maps_conflict (λ a b. a == b) m (ends_of (Commit e ∷ []))) c.in_ok-room.ensures.ends))

pub returns-clause-agrees : goal.returns-clause-agrees
returns-clause-agrees c =
    let e = c.args.entry in
    let f = c.args.self.now in
    let rows = row_conflict f.rows e c.from_vec-rows.result.items c.time-time.result false c.rows-rows_rise.ensures.lawful.rows_rise (c.from_vec-rows.ensures.items ∙ c.into_writes-ends.ensures.rows) c.time-time.ensures (sym c.in_ok-room.ensures.agrees) in
    let ends = end_conflict c.put_rows.new.self.ends e c.deref.result.now c.time-time.result false c.rows-rows_rise.ensures.lawful.ends_rise (c.deref.ensures.value ∙ c.into_writes-ends.ensures.ends) c.time-time.ensures (sym c.in_ok-put_ends.ensures.agrees) in
    agree_both f e rows (ends ∙ ap (λ m. maps_conflict (λ a b. a == b) m (ends_of (Commit e ∷ []))) c.in_ok-room.ensures.ends)
