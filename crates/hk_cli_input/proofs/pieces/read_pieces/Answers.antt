use Rattle.std.proofs.Common.{subst, ℕ, List, [], ◌<◌, length, append-nil, sym, arith}
use Rattle.std.proofs.KnownBytes.{Consumes-nil, Consumes-kept}
use Rattle.hk_cli_input.specs.Taking.{TookMore}
use Rattle.hk_cli_input.proofs.Took.{err_so, took_no_more, took_both, front_behind, front_none, none_read, piece_read}
use Rattle.hk_cli_input.proofs.pieces.read_pieces.Goals as goal

pub returns-in_err-room-clause-part : goal.returns-in_err-room-clause-part
returns-in_err-room-clause-part g c = err_so c.from_residual.result ([], Consumes-nil _, front_none g.P.Pieces.took c.args.pieces.now [])

pub loop-init : goal.loop-init
loop-init g c = (subst (λ (l : List ℕ). 0 < length l) (sym c.as_mut_slice-piece.ensures.value) c.in_ok-room.ensures, [], Consumes-nil _, took_no_more g.P.Pieces.took c.args.pieces.now)

pub returns-in_err-count-clause-part : goal.returns-in_err-count-clause-part
returns-in_err-count-clause-part g c =
    let inv = c.loop.invariant in
    err_so c.from_residual-in_err-count.result (inv.1, Consumes-kept _ _ _ inv.1 inv.2 c.in_err-count.ensures.bytes, (inv.1, [], sym (append-nil inv.1), inv.3))

pub returns-then-count-eq0-clause-all : goal.returns-then-count-eq0-clause-all
returns-then-count-eq0-clause-all g c =
    let inv = c.loop.invariant in
    let read = c.in_ok-count.ensures.bytes in
    (read.1 c.if-count-eq0.true (omega arith), (inv.1, none_read _ _ _ inv.1 c.read_next.new.piece c.in_ok-count.count inv.2 read.0 c.if-count-eq0.true, inv.3))

pub returns-in_err-take-clause-part : goal.returns-in_err-take-clause-part
returns-in_err-take-clause-part g c =
    let inv = c.loop.invariant in
    err_so c.from_residual-in_err-take.result
    (piece_read _ _ _ _ inv.1 c.read_next.new.piece c.in_ok-count.count inv.2 c.in_ok-count.ensures.bytes.0 (front_behind g.P.Pieces.took c.args.pieces.now c.loop.pieces c.take.new.self inv.1 _ inv.3 c.in_err-take.ensures.err))

pub loop-preserved : goal.loop-preserved
loop-preserved g c =
    let inv = c.loop.invariant in
    let more = piece_read (TookMore g.P.Pieces.took c.args.pieces.now c.take.new.self) _ _ _ inv.1 c.read_next.new.piece c.in_ok-count.count inv.2 c.in_ok-count.ensures.bytes.0 (took_both g.P.Pieces.took c.args.pieces.now c.loop.pieces c.take.new.self inv.1 _ inv.3 c.in_ok-take.ensures.ok) in
    (omega arith, more.0, more.1, more.2)

pub returns-clause-part : goal.returns-clause-part
returns-clause-part g c =
    let inv = c.loop.invariant in
    (inv.1, inv.2, (inv.1, [], sym (append-nil inv.1), inv.3))
