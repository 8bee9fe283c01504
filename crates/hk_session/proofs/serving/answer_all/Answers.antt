use Rattle.hk_session_parts.proofs.Transcripts.{no_end}
use Rattle.hk_session_parts.proofs.SpokenTurns.{nothing_spoken, spoken_more, spoken_all, spoken_ended, spoken_cut, less_left, is_between}
use Rattle.hk_session.proofs.serving.answer_all.Goals as goal

pub steps-init : goal.steps-init
steps-init g c = record { quiet = c.requires.quiet; ready = c.requires.ready; none = c.new-out.ensures.items; so_far = nothing_spoken g.row.LATEST g.H.Host.may c.args.host.now _ c.args.session.now }

pub returns-in-Some-clause-speaks : goal.returns-in-Some-clause-speaks
returns-in-Some-clause-speaks g c =
    let inv = c.steps.invariant in
    spoken_cut g.row.LATEST g.H.Host.may c.args.host.now c.steps.host c.answer-step.new.host _ _ _ c.args.session.now c.steps.session c.answer-step.new.self c.steps.out.items c.answer-step.new.out.items c.write_out.new.held.items c.answer-step.result c.in-Some.ended
    inv.none inv.so_far c.answer-step.ensures.turns c.in-Some.ensures.writes

pub returns-in-GoesOn-clause-speaks : goal.returns-in-GoesOn-clause-speaks
returns-in-GoesOn-clause-speaks g c =
    let inv = c.steps.invariant in
    spoken_all g.row.LATEST g.H.Host.may c.args.host.now c.steps.host c.answer-step.new.host _ _ _ c.args.session.now c.steps.session c.answer-step.new.self c.steps.out.items c.answer-step.new.out.items
    inv.none inv.so_far c.in-GoesOn.ensures.turns c.in_default.ensures.writes.0

pub returns-in-Ended-clause-speaks : goal.returns-in-Ended-clause-speaks
returns-in-Ended-clause-speaks g c =
    let inv = c.steps.invariant in
    spoken_ended g.row.LATEST g.H.Host.may c.args.host.now c.steps.host c.answer-step.new.host _ _ _ c.args.session.now c.steps.session c.answer-step.new.self c.steps.out.items c.answer-step.new.out.items c.in-Ended.ended
    inv.none inv.so_far c.in-Ended.ensures.turns c.in_default.ensures.writes.0

pub steps-preserved : goal.steps-preserved
steps-preserved g c =
    let inv = c.steps.invariant in
    let wrote = c.in_default.ensures.writes in
    record {
      quiet = c.in_default.ensures.quiet (no_end _);
      ready = c.answer-step.ensures.ready;
      none = wrote.1;
      so_far = spoken_more g.row.LATEST g.H.Host.may c.args.host.now c.steps.host c.answer-step.new.host _ _ _ c.args.session.now c.steps.session c.answer-step.new.self c.steps.out.items c.answer-step.new.out.items c.answer-step.result
          inv.none (is_between c.answer-step.result c.in-Full.is) inv.so_far c.answer-step.ensures.turns wrote.0;
    }

pub steps-smaller : goal.steps-smaller
steps-smaller g c =
    less_left g.H.Host.may c.steps.host c.answer-step.new.host c.steps.session c.answer-step.new.self c.steps.out.items c.answer-step.new.out.items c.answer-step.result
    c.steps.invariant.none (is_between c.answer-step.result c.in-Full.is) c.answer-step.ensures.turns
