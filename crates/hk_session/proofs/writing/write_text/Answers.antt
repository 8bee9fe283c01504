use Rattle.std.proofs.Common.{arith, rules, ◌+◌, ◌<◌, length, take}
use Rattle.std.proofs.KnownBytes.{Appends-kept}
use Rattle.hk_session_parts.proofs.WrittenPieces.{sent_more, is_front}
use Rattle.hk_session.proofs.writing.write_text.Goals as goal

pub returns-then-count-eq0-clause-part : goal.returns-then-count-eq0-clause-part
returns-then-count-eq0-clause-part g c _ =
    let text = c.args.text.now in
    let done = c.loop-done.done in
    let count = c.in-Ok.count in
    let sent = sent_more _ _ _ text done count c.loop-done.invariant.sent c.in-Ok.ensures.bytes in
    let faults = c.in-Ok.ensures.none c.if-count-eq0.true in
    let less : done + count < length text = omega arith in
    ((take (done + count) text, is_front (done + count) text less, sent), omega (arith, faults, c.loop-done.invariant.quiet))

pub loop-done-preserved : goal.loop-done-preserved
loop-done-preserved g c =
    let text = c.args.text.now in
    let done = c.loop-done.done in
    let count = c.in-Ok.count in
    let some : 0 < count = omega (arith, c.if-count-eq0.false) in
    let quiet = c.in-Ok.ensures.ok some in
    record {
      fits = search rules;
      sent = sent_more _ _ _ text done count c.loop-done.invariant.sent c.in-Ok.ensures.bytes;
      quiet = omega (arith, quiet, c.loop-done.invariant.quiet);
    }

pub returns-in-Err-clause-part : goal.returns-in-Err-clause-part
returns-in-Err-clause-part g c _ =
    let text = c.args.text.now in
    let done = c.loop-done.done in
    let faults = c.in-Err.ensures.err in
    let less : done < length text = omega arith in
    ((take done text, is_front done text less, Appends-kept _ _ _ (take done text) c.loop-done.invariant.sent c.in-Err.ensures.bytes), omega (arith, faults, c.loop-done.invariant.quiet))
