use Rattle.std.proofs.Common.{◌≡◌, refl, sym, ap, subst, ◌∙◌, Option, Some, ℕ, List, [], ◌++◌, ◌∷◌, false, map, option_to_list}
use Rattle.std.specs.Bool.{OnTrue}
use Rattle.std.specs.FinMap as finmap
use Rattle.hk_types.specs.Values.{RowValue, same_row}
use Rattle.hk_model.specs.Replica.Maps.{union, values_conflict}
use Rattle.hk_model.specs.History.Facts.{inserted_version}
use Rattle.hk_facts.specs.declared.fact.Fact.TheVariants.{Row}
use Rattle.hk_chains.specs.Facts.{conflicts_at}
use Rattle.hk_store.specs.Undos.{rows_conflict}
use Rattle.hk_store.proofs.RolledBack.{union_none}
use Rattle.hk_store.proofs.EntryConflicts.{rows_sorted}
use Rattle.hk_store.proofs.EntryPut.{any_one_more, any_found, outside_at, outside_more, all_put, lasted, row_put, rows_kept, ends_stay, passed_on, one_moved, all_moved}
use Rattle.hk_store.proofs.facts.Facts.put_rows.Goals as goal

pub loop-table-init : goal.loop-table-init
loop-table-init c = ([], refl, (λ q none. refl), sym (union_none c.args.self.now.rows), refl, refl, refl)

pub returns-in_err-room-clause-err : goal.returns-in_err-room-clause-err
returns-in_err-room-clause-err c =
    let f = inserted_version c.args.time in
    let p : ℕ × ℕ × RowValue = c.in-Some.table-1-given.0.0 in
    let l = c.loop-table in
    let inv = l.invariant in
    let all = c.args.rows.now.items in
    let rest = c.pop_front.new.self.items in
    let whole : all ≡ inv.0 ++ p ∷ rest = inv.1 ∙ ap (λ xs. inv.0 ++ xs) c.in-Some.ensures.items in
    let at = outside_at f c.args.self.now.rows l.self.rows all inv.0 rest p whole (rows_sorted c.args.time all c.requires) inv.2 in
    let e = c.in_err-room.ensures.err in
    passed_on c.from_residual.result c.in_err-room.field-0.0 _ c.from_residual.ensures.1 e.0
    (any_found (λ r. conflicts_at c.args.self.now (f r).0 (Row r.2)) all inv.0 rest p whole inv.4
    (ap (λ o. values_conflict same_row o (Some p.2)) (sym at) ∙ e.1))

pub loop-table-preserved : goal.loop-table-preserved
loop-table-preserved c =
    let f = inserted_version c.args.time in
    let p : ℕ × ℕ × RowValue = c.in-Some.table-1-given.0.0 in
    let l = c.loop-table in
    let inv = l.invariant in
    let all = c.args.rows.now.items in
    let rest = c.pop_front.new.self.items in
    let m = c.args.self.now.rows in
    let whole : all ≡ inv.0 ++ p ∷ rest = inv.1 ∙ ap (λ xs. inv.0 ++ xs) c.in-Some.ensures.items in
    let at = outside_at f m l.self.rows all inv.0 rest p whole (rows_sorted c.args.time all c.requires) inv.2 in
    let e = c.in_ok-room.ensures in
    let new = c.put_while.new.self in
    let b = c.in_ok-room.room in
    let added = row_put l.self new (f p).0 l.room b p.2 e.put in (
      inv.0 ++ p ∷ [],
      one_moved inv.0 rest p whole,
      outside_more f m l.self.rows new.rows inv.0 p b added (rows_kept l.self new (f p).0 l.room b e.kept) inv.2,
      all_put f m l.self.rows new.rows inv.0 p l.room b (lasted l.self new (f p).0 l.room b (Row p.2) e.put) added inv.3,
      any_one_more (λ r. conflicts_at c.args.self.now (f r).0 (Row r.2)) inv.0 p inv.4 (ap (λ o. values_conflict same_row o (Some p.2)) (sym at) ∙ e.agrees),
      ends_stay l.self new (f p).0 l.room b p.2 e.put e.kept ∙ inv.5,
      e.back ∙ inv.6,
    )

pub returns-clause-agrees : goal.returns-clause-agrees
returns-clause-agrees c =
    let inv = c.loop-table.invariant in
    subst (λ (rows : List (ℕ × ℕ × RowValue)). rows_conflict c.args.self.now c.args.time rows ≡ false) (all_moved inv.0 c.loop-table.rows.items inv.1 (c.pop_front.ensures.items ∙ ap (λ (o : Option (ℕ × ℕ × RowValue)). option_to_list o ++ c.pop_front.new.self.items) c.in_default.is ∙ c.pop_front.ensures.rest)) inv.4

pub returns-clause-put : goal.returns-clause-put
returns-clause-put c =
    let inv = c.loop-table.invariant in
    subst (λ (rows : List (ℕ × ℕ × RowValue)). OnTrue c.loop-table.room (c.loop-table.self.rows ≡ union c.args.self.now.rows (finmap.from_entries (map (inserted_version c.args.time) rows))))
    (all_moved inv.0 c.loop-table.rows.items inv.1 (c.pop_front.ensures.items ∙ ap (λ (o : Option (ℕ × ℕ × RowValue)). option_to_list o ++ c.pop_front.new.self.items) c.in_default.is ∙ c.pop_front.ensures.rest)) inv.3
