use Rattle.std.proofs.Common.{sym, ap, ◌∙◌, Ok}
use Rattle.std.proofs.lemmas.Result.{err_from_is_err_and}
use Rattle.hk_model.specs.Replica.Streams.{stream_at}
use Rattle.hk_fragment_bytes.proofs.ReadingLoops.{map_ok, map_err}
use Rattle.hk_fragment_bytes.proofs.StreamsRead.{just_begun, begun_itself, is_ready, stream_read, fails_in_extras, fails_at_count, fails_in_waits, set_again}
use Rattle.hk_fragment_bytes.proofs.stream_reading.read_stream.Goals as goal

pub read_extras-requires-clause-starts : goal.read_extras-requires-clause-starts
read_extras-requires-clause-starts c =
    begun_itself (stream_at c.raise.new.self c.args.s) c.number-prefix.result c.in_ok-closed.closed (just_begun c.args.got.now c.raise.new.self c.args.s c.number-prefix.result c.in_ok-closed.closed c.requires.least c.requires.known c.requires.starts c.raise.ensures.value)

pub returns-in_err-read_extras-clause-err : goal.returns-in_err-read_extras-clause-err
returns-in_err-read_extras-clause-err c =
    let p = err_from_is_err_and c.from_residual-in_err-read_extras.result c.from_residual-in_err-read_extras.ensures.1 in
    rw (p.1, p.2) (fails_in_extras c.number-prefix.result c.in_ok-closed.closed c.in_ok-count.count _ _ _ _ c.in_err-read_extras.field-0.0
    (c.in_ok-read_time.ensures ∙ ap (λ n. Ok (n, c.read_time.new.cursor)) (sym c.number-prefix.ensures.value)) c.in_ok-closed.ensures c.in_ok-count.ensures.read c.in_err-read_extras.ensures.err)

pub returns-in_err-count-2-clause-err : goal.returns-in_err-count-2-clause-err
returns-in_err-count-2-clause-err c =
    let p = err_from_is_err_and c.from_residual-in_err-count-2.result c.from_residual-in_err-count-2.ensures.1 in
    rw (p.1, p.2) (fails_at_count c.number-prefix.result c.in_ok-closed.closed c.in_ok-count.count _ _ _ _ _ _ _ c.in_err-count-2.field-0.0
    (c.in_ok-read_time.ensures ∙ ap (λ n. Ok (n, c.read_time.new.cursor)) (sym c.number-prefix.ensures.value)) c.in_ok-closed.ensures c.in_ok-count.ensures.read c.in_ok-read_extras.ensures.ok c.in_err-count-2.ensures.read)

pub read_waits-requires-clause-starts : goal.read_waits-requires-clause-starts
read_waits-requires-clause-starts c = is_ready _ _ _ _ _ _ c.in_ok-read_extras.ensures.ok

pub returns-clause-ok : goal.returns-clause-ok
returns-clause-ok c =
    map_ok c.read_waits.result (λ k. stream_read c.number-prefix.result c.in_ok-closed.closed c.in_ok-count.count c.in_ok-count-2.count _ _ _ _ _ _ _ (stream_at c.raise.new.self c.args.s) _ _
    (just_begun c.args.got.now c.raise.new.self c.args.s c.number-prefix.result c.in_ok-closed.closed c.requires.least c.requires.known c.requires.starts c.raise.ensures.value)
    (c.in_ok-read_time.ensures ∙ ap (λ n. Ok (n, c.read_time.new.cursor)) (sym c.number-prefix.ensures.value)) c.in_ok-closed.ensures c.in_ok-count.ensures.read c.in_ok-read_extras.ensures.ok c.in_ok-count-2.ensures.read k) c.read_waits.ensures.ok

pub returns-clause-err : goal.returns-clause-err
returns-clause-err c =
    map_err c.read_waits.result (λ e f. fails_in_waits c.number-prefix.result c.in_ok-closed.closed c.in_ok-count.count c.in_ok-count-2.count _ _ _ _ _ _ _ _ e
    (c.in_ok-read_time.ensures ∙ ap (λ n. Ok (n, c.read_time.new.cursor)) (sym c.number-prefix.ensures.value)) c.in_ok-closed.ensures c.in_ok-count.ensures.read c.in_ok-read_extras.ensures.ok c.in_ok-count-2.ensures.read f) c.read_waits.ensures.err

pub returns-clause-only : goal.returns-clause-only
returns-clause-only c =
    map_ok c.read_waits.result (λ is. set_again c.args.got.now c.read_extras.new.got c.read_waits.new.got _ _ _ (set_again c.args.got.now c.raise.new.self c.read_extras.new.got _ _ _ c.raise.ensures.value c.in_ok-read_extras.ensures.only) is) c.read_waits.ensures.only
