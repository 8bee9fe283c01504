use Rattle.hk_session_parts.proofs.SpokenTurns.{concluded, concluded_cut}
use Rattle.hk_session.proofs.serving.finish.Goals as goal

pub returns-in-Some-clause-says : goal.returns-in-Some-clause-says
returns-in-Some-clause-says g c =
    concluded_cut _ c.new-out.result.items c.finish-ended.new.out.items c.write_out.new.held.items _ _ c.finish-ended.result c.in-Some.failed c.new-out.ensures.items c.finish-ended.ensures c.in-Some.ensures.writes

pub returns-clause-says : goal.returns-clause-says
returns-clause-says g c =
    concluded _ c.new-out.result.items c.finish-ended.new.out.items _ _ c.finish-ended.result c.new-out.ensures.items c.finish-ended.ensures c.in_default.ensures.writes.0
