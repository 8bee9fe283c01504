use Rattle.std.proofs.Common.{subst, ℕ, List, [], ◌<◌, length, sym, ◌∙◌, arith}
use Rattle.std.proofs.KnownBytes.{Consumes-nil, Consumes-kept}
use Rattle.hk_cli_input.specs.Items.{Stands}
use Rattle.hk_cli_input.proofs.Took.{err_so, ok_so, none_read, piece_read}
use Rattle.hk_cli_input.proofs.ItemSteps.{stands_start, all_items, first_here, nothing_yet}
use Rattle.hk_cli_input.proofs.frames.hand_items.Goals as goal

pub returns-in_err-room-clause-part : goal.returns-in_err-room-clause-part
returns-in_err-room-clause-part g c = err_so c.from_residual.result ([], Consumes-nil _, nothing_yet g.S.Item.FromFrame.Reads g.S.Sink.took c.args.sink.now c.laws.ensures.none)

pub loop-init : goal.loop-init
loop-init g c = (subst (λ (l : List ℕ). 0 < length l) (sym c.as_mut_slice-piece.ensures.value) c.in_ok-room.ensures, [], Consumes-nil _, stands_start g.S.Item.FromFrame.Reads g.S.Sink.took c.args.sink.now c.new-feeder.result c.laws.ensures.none c.new-feeder.ensures)

pub returns-in_err-count-clause-part : goal.returns-in_err-count-clause-part
returns-in_err-count-clause-part g c =
    let inv = c.loop.invariant in
    err_so c.from_residual-in_err-count.result
    (inv.1, Consumes-kept _ _ _ inv.1 inv.2 c.in_err-count.ensures.bytes, first_here g.S.Item.FromFrame.Reads g.S.Sink.took c.args.sink.now c.loop.sink inv.1 c.loop.feeder inv.3)

pub returns-then-count-eq0-clause-all : goal.returns-then-count-eq0-clause-all
returns-then-count-eq0-clause-all g c =
    let inv = c.loop.invariant in
    let read = c.in_ok-count.ensures.bytes in
    ok_so c.checked.result (λ good. (
      read.1 c.if-count-eq0.true (omega arith),
      (
        inv.1,
        none_read _ _ _ inv.1 c.read_next.new.piece c.in_ok-count.count inv.2 read.0 c.if-count-eq0.true,
        all_items g.S.Item.FromFrame.Reads g.S.Sink.took c.args.sink.now c.loop.sink inv.1 c.loop.feeder c.finish.result inv.3 c.finish.ensures (sym c.checked.ensures ∙ good),
      ),
    ))

pub returns-then-count-eq0-clause-part : goal.returns-then-count-eq0-clause-part
returns-then-count-eq0-clause-part g c =
    let inv = c.loop.invariant in
    let read = c.in_ok-count.ensures.bytes in
    err_so c.checked.result (
      inv.1,
      none_read _ _ _ inv.1 c.read_next.new.piece c.in_ok-count.count inv.2 read.0 c.if-count-eq0.true,
      first_here g.S.Item.FromFrame.Reads g.S.Sink.took c.args.sink.now c.loop.sink inv.1 c.loop.feeder inv.3,
    )

pub returns-in_err-take_piece-clause-part : goal.returns-in_err-take_piece-clause-part
returns-in_err-take_piece-clause-part g c =
    let inv = c.loop.invariant in
    err_so c.from_residual-in_err-take_piece.result
    (piece_read _ _ _ _ inv.1 c.read_next.new.piece c.in_ok-count.count inv.2 c.in_ok-count.ensures.bytes.0 (c.in_err-take_piece.ensures.err c.args.sink.now inv.1 inv.3))

pub loop-preserved : goal.loop-preserved
loop-preserved g c =
    let inv = c.loop.invariant in
    let more = piece_read (λ (l : List ℕ). Stands g.S.Item.FromFrame.Reads g.S.Sink.took c.args.sink.now c.take_piece.new.sink l c.take_piece.new.feeder) _ _ _ inv.1 c.read_next.new.piece c.in_ok-count.count inv.2 c.in_ok-count.ensures.bytes.0 (c.in_ok-take_piece.ensures.ok c.args.sink.now inv.1 inv.3) in
    (omega arith, more.0, more.1, more.2)

pub returns-clause-part : goal.returns-clause-part
returns-clause-part g c =
    let inv = c.loop.invariant in
    (inv.1, inv.2, first_here g.S.Item.FromFrame.Reads g.S.Sink.took c.args.sink.now c.loop.sink inv.1 c.loop.feeder inv.3)
