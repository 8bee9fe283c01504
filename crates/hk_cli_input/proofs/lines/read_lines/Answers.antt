use Rattle.std.proofs.Common.{◌≡◌, ℕ, List, [], ◌++◌, ◌<◌, length, take, subst, sym, arith}
use Rattle.std.proofs.KnownBytes.{Consumes-nil, Consumes-trans, Consumes-kept}
use Rattle.hk_cli_input.specs.Lines.{lines_within, Stands}
use Rattle.hk_cli_input.proofs.Took.{err_so, err_then, ok_so, from_ok, front_none, none_read}
use Rattle.hk_cli_input.proofs.LineSteps.{stands_start, stands_none, all_lines, first_lines_here}
use Rattle.hk_cli_input.proofs.lines.read_lines.Goals as goal

pub returns-in_err-room-clause-part : goal.returns-in_err-room-clause-part
returns-in_err-room-clause-part g c =
    err_so c.from_residual.result ([], Consumes-nil _, front_none g.L.Lines.took c.args.lines.now (lines_within c.args.most []))

pub loop-init : goal.loop-init
loop-init g c =
    let none : c.new.result.items ≡ [] = c.new.ensures.items in
    (subst (λ (l : List ℕ). 0 < length l) (sym c.as_mut_slice-piece.ensures.value) c.in_ok-room.ensures, [], Consumes-nil _, subst (Stands c.args.most g.L.Lines.took c.args.lines.now c.args.lines.now []) (sym none) (stands_start c.args.most g.L.Lines.took c.args.lines.now))

pub returns-in_err-ready-clause-part : goal.returns-in_err-ready-clause-part
returns-in_err-ready-clause-part g c =
    let inv = c.loop.invariant in
    err_so c.from_residual-in_err-ready.result
    (inv.1, inv.2, first_lines_here c.args.most g.L.Lines.took c.args.lines.now c.loop.lines c.ready.new.self inv.1 c.loop.line.bytes.items inv.3 c.ready.ensures)

pub returns-in_err-count-clause-part : goal.returns-in_err-count-clause-part
returns-in_err-count-clause-part g c =
    let inv = c.loop.invariant in
    err_so c.from_residual-in_err-count.result (
      inv.1,
      Consumes-kept _ _ _ inv.1 inv.2 c.in_err-count.ensures.bytes,
      first_lines_here c.args.most g.L.Lines.took c.args.lines.now c.loop.lines c.ready.new.self inv.1 c.loop.line.bytes.items inv.3 c.ready.ensures,
    )

pub returns-then-count-eq0-clause-all : goal.returns-then-count-eq0-clause-all
returns-then-count-eq0-clause-all g c =
    let inv = c.loop.invariant in
    let read = c.in_ok-count.ensures.bytes in
    let stands = stands_none c.args.most g.L.Lines.took c.args.lines.now c.loop.lines c.ready.new.self inv.1 c.loop.line.bytes.items inv.3 c.ready.ensures in
    ok_so c.line.result (λ good. (
      read.1 c.if-count-eq0.true (omega arith),
      (
        inv.1,
        none_read _ _ _ inv.1 c.read_next.new.piece c.in_ok-count.count inv.2 read.0 c.if-count-eq0.true,
        all_lines c.args.most g.L.Lines.took c.args.lines.now c.ready.new.self c.line.new.self inv.1 c.deref.result.now c.loop.line.bytes.items c.deref.ensures.value stands (from_ok c.line.result good c.line.ensures.ok),
      ),
    ))

pub returns-then-count-eq0-clause-part : goal.returns-then-count-eq0-clause-part
returns-then-count-eq0-clause-part g c =
    let inv = c.loop.invariant in
    let read = c.in_ok-count.ensures.bytes in
    let stands = stands_none c.args.most g.L.Lines.took c.args.lines.now c.loop.lines c.ready.new.self inv.1 c.loop.line.bytes.items inv.3 c.ready.ensures in
    err_then c.line.result c.line.ensures.err (λ none. (
      inv.1,
      none_read _ _ _ inv.1 c.read_next.new.piece c.in_ok-count.count inv.2 read.0 c.if-count-eq0.true,
      first_lines_here c.args.most g.L.Lines.took c.args.lines.now c.ready.new.self c.line.new.self inv.1 c.loop.line.bytes.items stands none,
    ))

pub returns-in_err-take_piece-clause-part : goal.returns-in_err-take_piece-clause-part
returns-in_err-take_piece-clause-part g c =
    let inv = c.loop.invariant in
    let piece = take c.in_ok-count.count c.read_next.new.piece in
    let stands = stands_none c.args.most g.L.Lines.took c.args.lines.now c.loop.lines c.ready.new.self inv.1 c.loop.line.bytes.items inv.3 c.ready.ensures in
    err_so c.from_residual-in_err-take_piece.result
    (inv.1 ++ piece, Consumes-trans _ _ _ inv.1 piece inv.2 c.in_ok-count.ensures.bytes.0, c.in_err-take_piece.ensures.err c.args.lines.now inv.1 stands)

pub loop-preserved : goal.loop-preserved
loop-preserved g c =
    let inv = c.loop.invariant in
    let piece = take c.in_ok-count.count c.read_next.new.piece in
    let stands = stands_none c.args.most g.L.Lines.took c.args.lines.now c.loop.lines c.ready.new.self inv.1 c.loop.line.bytes.items inv.3 c.ready.ensures in (
      omega arith,
      inv.1 ++ piece,
      Consumes-trans _ _ _ inv.1 piece inv.2 c.in_ok-count.ensures.bytes.0,
      c.in_ok-take_piece.ensures.ok c.args.lines.now inv.1 stands,
    )

pub returns-clause-part : goal.returns-clause-part
returns-clause-part g c =
    let inv = c.loop.invariant in
    (inv.1, inv.2, first_lines_here c.args.most g.L.Lines.took c.args.lines.now c.loop.lines c.loop.lines inv.1 c.loop.line.bytes.items inv.3 (λ start before h. h))
