use Rattle.std.proofs.Common.{[]}
use Rattle.std.proofs.KnownBytes.{Appends-nil}
use Rattle.hk_session_parts.proofs.Transcripts.{no_read_fault}
use Rattle.hk_session_parts.proofs.SessionStands.{stands_start}
use Rattle.hk_session_parts.proofs.SpokenTurns.{ended_midway, finished}
use Rattle.hk_session.proofs.serving.run_bytes.Goals as goal

pub returns-in-None-clause-transcript : goal.returns-in-None-clause-transcript
returns-in-None-clause-transcript g c =
    let new = stands_start g.row.LATEST g.H.Host.may c.args.host.now c.new-session.result c.new-session.ensures in
    let said = c.in-None.ensures.speaks c.args.host.now [] [] new.0 in
    finished g.row.LATEST g.H.Host.may c.args.host.now c.handle_piece.new.host _ _ _ c.args.bytes.now said.0 c.handle_piece.new.session c.finish.result said.2.0 said.2.1 said.1 c.finish.ensures.says

pub returns-in-Some-clause-transcript : goal.returns-in-Some-clause-transcript
returns-in-Some-clause-transcript g c =
    let new = stands_start g.row.LATEST g.H.Host.may c.args.host.now c.new-session.result c.new-session.ensures in
    let said = c.in-Some.ensures.speaks c.args.host.now [] [] new.0 in
    ended_midway g.row.LATEST g.H.Host.may c.args.host.now c.handle_piece.new.host _ _ _ c.args.bytes.now [] said.0 c.in-Some.ended (Appends-nil _) said.1 said.2.0

pub returns-in-Some-clause-reads : goal.returns-in-Some-clause-reads
returns-in-Some-clause-reads g c =
    let new = stands_start g.row.LATEST g.H.Host.may c.args.host.now c.new-session.result c.new-session.ensures in
    let said = c.in-Some.ensures.speaks c.args.host.now [] [] new.0 in
    no_read_fault c.in-Some.ended said.2.1
