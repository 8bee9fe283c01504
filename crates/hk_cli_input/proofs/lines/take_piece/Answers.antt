use Rattle.std.proofs.Common.{◌≡◌, ◌+◌, sym, subst, take, drop, take-append-drop, arith}
use Rattle.std.proofs.lemmas.List.{take_more, take_all}
use Rattle.hk_cli_input.specs.Lines.{GoesOn}
use Rattle.hk_cli_input.proofs.Took.{err_so}
use Rattle.hk_cli_input.proofs.LineSteps.{goes_both, breaks_behind}
use Rattle.hk_cli_input.proofs.lines.take_piece.Goals as goal

pub returns-in_err-take_byte-clause-err : goal.returns-in_err-take_byte-clause-err
returns-in_err-take_byte-clause-err g c =
    let l = c.loop-byte in
    let piece = c.args.piece.now in
    err_so c.from_residual.result
    (breaks_behind c.args.most g.L.Lines.took c.args.lines.now l.lines c.take_byte.new.lines c.args.line.now.bytes.items l.line.bytes.items (take l.byte-index piece) (drop l.byte-index piece) piece
    l.invariant c.in_err-take_byte.ensures.err (sym (take-append-drop l.byte-index piece)))

pub loop-byte-preserved : goal.loop-byte-preserved
loop-byte-preserved g c =
    let l = c.loop-byte in
    let piece = c.args.piece.now in
    goes_both c.args.most g.L.Lines.took c.args.lines.now l.lines c.take_byte.new.lines c.args.line.now.bytes.items l.line.bytes.items c.take_byte.new.line.bytes.items
    (take l.byte-index piece) _ (take (l.byte-index + 1) piece) l.invariant c.in_ok-take_byte.ensures.ok (take_more piece l.byte-index 0 (omega arith))

pub returns-clause-ok : goal.returns-clause-ok
returns-clause-ok g c =
    let l = c.loop-byte in
    let piece = c.args.piece.now in
    let whole : take l.byte-index piece ≡ piece = take_all l.byte-index piece (omega arith) in
    subst (GoesOn c.args.most g.L.Lines.took c.args.lines.now l.lines c.args.line.now.bytes.items l.line.bytes.items) whole l.invariant
