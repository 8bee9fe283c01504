use Rattle.std.proofs.Common.{subst, sym, ap, ◌∙◌, ℕ, List, Result, Ok}
use Rattle.std.proofs.lemmas.Result.{err_from_is_err_and}
use Rattle.hk_types.specs.Values.{RowValue}
use Rattle.hk_types.specs.declared.faults.FormFault.{FormFault}
use Rattle.hk_frames.specs.Fields.{Fails}
use Rattle.hk_codec.proofs.KeptLists.{all_rows}
use Rattle.hk_codec.proofs.reading.read_rows.Goals as goal

pub returns-in_err-kept : goal.returns-in_err-kept
returns-in_err-kept c =
    let p = err_from_is_err_and c.from_residual.result c.from_residual.ensures.1 in
    rw (p.1, p.2) (subst (λ (r : Result (List (ℕ × ℕ × RowValue) × List ℕ) FormFault). Fails c.in_err-kept.field-0.0 r) (all_rows c.args.version c.args.time c.args.ends c.args.cursor.now) c.in_err-kept.ensures)

pub returns : goal.returns
returns c = sym (all_rows c.args.version c.args.time c.args.ends c.args.cursor.now) ∙ c.in_ok-kept.ensures ∙ ap (λ (rows : List (ℕ × ℕ × RowValue)). Ok (rows, c.read_list.new.cursor)) (sym c.kept.view_is)
