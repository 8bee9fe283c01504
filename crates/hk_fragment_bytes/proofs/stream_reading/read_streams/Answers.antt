use Rattle.std.proofs.Common.{◌≡◌, ap, ◌∙◌, ◌+◌, ◌-◌, arith}
use Rattle.std.proofs.lemmas.Result.{err_from_is_err_and}
use Rattle.std.specs.Prelude.{slice_set}
use Rattle.hk_model.specs.Replica.Streams.{stream_at}
use Rattle.hk_fragment_bytes.proofs.StreamsRead.{streams_go, streams_end, streams_done, is_stream, no_fault}
use Rattle.hk_fragment_bytes.proofs.stream_reading.read_streams.Goals as goal

pub returns-in_err-s-clause-err : goal.returns-in_err-s-clause-err
returns-in_err-s-clause-err c = absurd (no_fault (c.loop-index.index + 1) c.in_err-s.field-0.0 (omega arith) (omega arith) c.in_err-s.ensures)

pub returns-in_err-read_stream-clause-err : goal.returns-in_err-read_stream-clause-err
returns-in_err-read_stream-clause-err c =
    let p = err_from_is_err_and c.from_residual-in_err-read_stream.result c.from_residual-in_err-read_stream.ensures.1 in
    rw (p.1, p.2) (streams_end _ _ _ _ _ c.loop-index.invariant c.in_err-read_stream.field-0.0 c.loop-index-test.true c.in_err-read_stream.ensures.err)

pub loop-index-preserved : goal.loop-index-preserved
loop-index-preserved c =
    let is : c.in_ok-s.s ≡ c.loop-index.index + 1 = is_stream (c.loop-index.index + 1) c.in_ok-s.s (omega arith) (omega arith) c.in_ok-s.ensures in
    let place : c.in_ok-s.s - 1 ≡ c.loop-index.index = omega (arith, is) in
    streams_go _ _ _ _ _ c.loop-index.invariant (stream_at c.read_stream.new.got c.in_ok-s.s) c.read_stream.new.cursor c.read_stream.new.got c.loop-index-test.true c.in_ok-read_stream.ensures.ok
    (c.in_ok-read_stream.ensures.only ∙ ap (λ i. slice_set c.loop-index.got i (stream_at c.read_stream.new.got c.in_ok-s.s)) place)

pub returns-clause-ok : goal.returns-clause-ok
returns-clause-ok c = streams_done _ _ _ _ _ c.loop-index.invariant c.loop-index-test.false

pub returns-clause-all : goal.returns-clause-all
returns-clause-all c = c.loop-index.invariant.len ∙ c.requires.all
