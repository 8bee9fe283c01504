use Rattle.std.proofs.Common.{arith, rules, ◌∙◌, ◌++◌, [], take}
use Rattle.std.proofs.KnownBytes.{Appends-nil, Appends-trans, Consumes-kept, Consumes-nil, Consumes-trans}
use Rattle.hk_session_parts.proofs.Transcripts.{no_end, no_read_fault, none_read, not_clean, not_cut}
use Rattle.hk_session_parts.proofs.SessionStands.{stands_start}
use Rattle.hk_session_parts.proofs.SpokenTurns.{ended_midway, finished, stopped}
use Rattle.hk_session.proofs.serving.serve_waiting.Goals as goal

pub loop-init : goal.loop-init
loop-init g c =
    let new = stands_start g.row.LATEST g.H.Host.may c.args.host.now c.new-session.result c.new-session.ensures in
    (c.requires.reader, c.requires.writer, omega (arith, c.calls-in_range.ensures.bound), c.requires.ready, ([], Consumes-nil _, [], Appends-nil _, new.0, new.1))

pub returns-then-count-eq0-clause-transcript : goal.returns-then-count-eq0-clause-transcript
returns-then-count-eq0-clause-transcript g c =
    let inv = c.loop.invariant.4 in
    let read = c.in-Ok.ensures.bytes in (
      inv.0,
      none_read _ _ _ inv.0 c.read.new.buf c.in-Ok.count inv.1 read.0 c.if-count-eq0.true,
      finished g.row.LATEST g.H.Host.may c.args.host.now c.loop.host _ _ _ inv.0 inv.2 c.loop.session c.finish.result inv.4 inv.5 inv.3 c.finish.ensures.says,
    )

pub returns-in-Some-clause-transcript : goal.returns-in-Some-clause-transcript
returns-in-Some-clause-transcript g c =
    let inv = c.loop.invariant.4 in
    let piece = take c.in-Ok.count c.read.new.buf in
    let said = c.in-Some.ensures.speaks c.args.host.now inv.0 inv.2 inv.4 in (
      inv.0 ++ piece,
      Consumes-trans _ _ _ inv.0 piece inv.1 c.in-Ok.ensures.bytes.0,
      ended_midway g.row.LATEST g.H.Host.may c.args.host.now c.handle_piece.new.host _ _ _ (inv.0 ++ piece) inv.2 said.0 c.in-Some.ended inv.3 said.1 said.2.0,
    )

pub loop-preserved : goal.loop-preserved
loop-preserved g c =
    let inv = c.loop.invariant.4 in
    let piece = take c.in-Ok.count c.read.new.buf in
    let said = c.in_default.ensures.speaks c.args.host.now inv.0 inv.2 inv.4 in (
      c.in-Ok.ensures.ok ∙ c.loop.invariant.0,
      c.in_default.ensures.quiet (no_end _),
      search rules,
      c.handle_piece.ensures.ready,
      (
        inv.0 ++ piece,
        Consumes-trans _ _ _ inv.0 piece inv.1 c.in-Ok.ensures.bytes.0,
        inv.2 ++ said.0,
        Appends-trans _ _ _ inv.2 said.0 inv.3 said.1,
        said.2.0,
        said.2.1,
      ),
    )

pub returns-in-Some-clause-clean : goal.returns-in-Some-clause-clean
returns-in-Some-clause-clean g c is =
    let inv = c.loop.invariant.4 in
    absurd (not_clean c.in-Some.ended (c.in-Some.ensures.speaks c.args.host.now inv.0 inv.2 inv.4).2.1 is)

pub returns-in-Some-clause-cut : goal.returns-in-Some-clause-cut
returns-in-Some-clause-cut g c is =
    let inv = c.loop.invariant.4 in
    absurd (not_cut c.in-Some.ended (c.in-Some.ensures.speaks c.args.host.now inv.0 inv.2 inv.4).2.1 is)

pub returns-in-Some-clause-read_fault : goal.returns-in-Some-clause-read_fault
returns-in-Some-clause-read_fault g c is =
    let inv = c.loop.invariant.4 in
    absurd (no_read_fault c.in-Some.ended (c.in-Some.ensures.speaks c.args.host.now inv.0 inv.2 inv.4).2.1 is)

pub returns-in-Err-clause-transcript : goal.returns-in-Err-clause-transcript
returns-in-Err-clause-transcript g c =
    let inv = c.loop.invariant.4 in (
      inv.0,
      Consumes-kept _ _ _ inv.0 inv.1 c.in-Err.ensures.bytes,
      stopped g.row.LATEST g.H.Host.may c.args.host.now c.loop.host _ _ inv.0 inv.2 c.loop.session inv.4 inv.5 inv.3,
    )
