use Rattle.std.proofs.Common.{sym, ◌∙◌}
use Rattle.std.proofs.lemmas.Result.{err_from_is_err_and}
use Rattle.hk_frames.specs.declared.cursor.ReadError.TheVariants.{Fault}
use Rattle.hk_fragment_bytes.proofs.ReadingLoops.{unless_err, waits_begin, waits_go, waits_end, waits_done, waits_only}
use Rattle.hk_fragment_bytes.proofs.stream_reading.read_waits.Goals as goal

pub loop-init : goal.loop-init
loop-init c = waits_begin c.args.prefix c.args.s c.args.count c.args.got.now c.args.cursor.now c.requires.starts

pub returns-in_err-number-clause-err : goal.returns-in_err-number-clause-err
returns-in_err-number-clause-err c =
    let p = err_from_is_err_and c.from_residual.result c.from_residual.ensures.1 in
    rw (p.1, p.2) (waits_end _ _ _ _ _ _ _ _ _ c.loop.invariant (Fault c.in_err-number.field-0.0) c.loop-test.true c.in_err-number.ensures.read)

pub loop-preserved : goal.loop-preserved
loop-preserved c =
    waits_go _ _ _ _ _ _ _ _ _ c.loop.invariant c.in_ok-number.number c.in_ok-number.upto c.read_waiting.new.cursor c.add_mark.new.self c.requires.starts c.requires.least c.requires.known c.loop-test.true c.in_ok-number.ensures.read c.in_ok-number.ensures.fits
    (unless_err c.add_mark.result (sym c.is_err.ensures.value ∙ c.if-is_err.false) c.add_mark.ensures.ok)

pub returns-clause-ok : goal.returns-clause-ok
returns-clause-ok c = waits_done _ _ _ _ _ _ _ _ _ c.loop.invariant c.requires.least c.requires.known c.loop-test.false

pub returns-clause-only : goal.returns-clause-only
returns-clause-only c = waits_only _ _ _ _ _ _ _ _ _ c.loop.invariant c.requires.least c.requires.known
