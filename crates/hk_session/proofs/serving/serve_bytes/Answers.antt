use Rattle.hk_session_parts.proofs.Transcripts.{transcripts, partial_transcript}
use Rattle.hk_session.proofs.serving.serve_bytes.Goals as goal

pub returns-clause-whole : goal.returns-clause-whole
returns-clause-whole g c done =
    transcripts g.row.LATEST g.H.Host.may c.args.host.now c.run_bytes.new.host _ _ c.args.bytes.now c.run_bytes.result done c.run_bytes.ensures.transcript

pub returns-clause-stopped : goal.returns-clause-stopped
returns-clause-stopped g c done =
    partial_transcript g.row.LATEST g.H.Host.may c.args.host.now c.run_bytes.new.host _ _ c.args.bytes.now c.run_bytes.result done c.run_bytes.ensures.transcript
