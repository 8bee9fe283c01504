use Rattle.std.proofs.Common.{sym, ◌∙◌}
use Rattle.std.proofs.lemmas.Result.{err_from_is_err_and}
use Rattle.hk_frames.specs.declared.cursor.ReadError.TheVariants.{Fault}
use Rattle.hk_fragment_bytes.proofs.ReadingLoops.{unless_err, extra_begins, extra_goes, extra_ends, extra_done, extra_only}
use Rattle.hk_fragment_bytes.proofs.stream_reading.read_extras.Goals as goal

pub loop-init : goal.loop-init
loop-init c = extra_begins c.args.prefix c.args.s c.args.count c.args.got.now c.args.cursor.now c.requires.starts

pub returns-in_err-number-clause-err : goal.returns-in_err-number-clause-err
returns-in_err-number-clause-err c =
    let p = err_from_is_err_and c.from_residual.result c.from_residual.ensures.1 in
    rw (p.1, p.2) (extra_ends _ _ _ _ _ _ _ _ _ _ c.loop.invariant (Fault c.in_err-number.field-0.0) c.loop-test.true c.in_err-number.ensures.read)

pub loop-preserved : goal.loop-preserved
loop-preserved c =
    extra_goes _ _ _ _ _ _ _ _ _ _ c.loop.invariant c.in_ok-number.number c.read_extra.new.cursor c.add_number.new.self c.requires.least c.requires.known c.loop-test.true c.in_ok-number.ensures.read c.in_ok-number.ensures.fits
    (unless_err c.add_number.result (sym c.is_err.ensures.value ∙ c.if-is_err.false) c.add_number.ensures.ok)

pub returns-clause-ok : goal.returns-clause-ok
returns-clause-ok c = extra_done _ _ _ _ _ _ _ _ _ _ c.loop.invariant c.requires.least c.requires.known c.loop-test.false

pub returns-clause-only : goal.returns-clause-only
returns-clause-only c = extra_only _ _ _ _ _ _ _ _ _ _ c.loop.invariant c.requires.least c.requires.known
