use Rattle.std.proofs.Common.{Err, refl}
use Rattle.hk_messages.specs.Requests.{AddsRequests}
use Rattle.hk_session_parts.proofs.Transcripts.{took, took_fault, feeder_kept}
use Rattle.hk_session_parts.proofs.taking.take_in.Goals as goal

pub returns-in-Ok-clause-reads : goal.returns-in-Ok-clause-reads
returns-in-Ok-clause-reads g c left is =
    took g.row.LATEST c.args.requests.now.items c.feed.new.out.items _ c.feed.new.self (c.in-Ok.ensures.reads left is)

pub returns-in-Form-clause-reads : goal.returns-in-Form-clause-reads
returns-in-Form-clause-reads g c left is =
    took_fault g.row.LATEST c.args.requests.now.items c.feed.new.out.items _ c.feed.new.self c.in-Err.why c.in-Form.fault c.in-Form.is (c.in-Err.ensures.reads left is)

pub returns-in_default-clause-err : goal.returns-in_default-clause-err
returns-in_default-clause-err g c =
    feeder_kept (AddsRequests g.row.LATEST) c.args.feeder.now c.feed.new.self c.args.requests.now.items c.feed.new.out.items c.args.piece.now c.in-Err.why (Err c.in-Err.why) refl c.in_default.not-Form c.in-Err.ensures.reads c.in-Err.ensures.fault c.in-Err.ensures.memory
