use Rattle.std.proofs.Common.{inl, Err}
use Rattle.hk_query.proofs.OfPrimary.{of_primary}
use Rattle.hk_query.proofs.ReplyAtTime.{refused, refused_first, replied, replied_lacks, absent_told, not_absent}
use Rattle.hk_query.proofs.reply.ask.Goals as goal

pub returns-in-Some-clause-gives : goal.returns-in-Some-clause-gives
returns-in-Some-clause-gives c = inl (refused c.args.state.now c.args.time c.args.query.now c.in-Some.why c.in-Some.ensures)

pub returns-in-Some-clause-primary : goal.returns-in-Some-clause-primary
returns-in-Some-clause-primary c =
    let why = c.in-Some.why in
    of_primary c.args.state.now c.args.time c.args.query.now (Err why) (inl (refused c.args.state.now c.args.time c.args.query.now why c.in-Some.ensures))

pub returns-in-Some-clause-absent : goal.returns-in-Some-clause-absent
returns-in-Some-clause-absent c =
    let why = c.in-Some.why in
    not_absent c.args.state.now c.args.time c.args.query.now why (Err why) (refused c.args.state.now c.args.time c.args.query.now why c.in-Some.ensures)

pub returns-in-None-clause-gives : goal.returns-in-None-clause-gives
returns-in-None-clause-gives c =
    replied c.args.state.now c.args.time c.args.query.now c.facts.result.now c.facts.ensures.rows c.facts.ensures.ends c.in-None.ensures c.answer_at.result c.answer_at.ensures.ok c.answer_at.ensures.err

pub returns-in-None-clause-primary : goal.returns-in-None-clause-primary
returns-in-None-clause-primary c =
    of_primary c.args.state.now c.args.time c.args.query.now c.answer_at.result
    (replied c.args.state.now c.args.time c.args.query.now c.facts.result.now c.facts.ensures.rows c.facts.ensures.ends c.in-None.ensures c.answer_at.result c.answer_at.ensures.ok c.answer_at.ensures.err)

pub returns-in-None-clause-absent : goal.returns-in-None-clause-absent
returns-in-None-clause-absent c =
    absent_told c.args.state.now c.args.time c.args.query.now c.facts.result.now c.facts.ensures.rows c.facts.ensures.ends c.in-None.ensures c.answer_at.result c.answer_at.ensures.absent

pub returns-in-Some-clause-memory : goal.returns-in-Some-clause-memory
returns-in-Some-clause-memory c = λ m. refused_first c.args.state.now c.args.time c.in-Some.why _ c.in-Some.ensures m

pub returns-in-None-clause-memory : goal.returns-in-None-clause-memory
returns-in-None-clause-memory c =
    replied_lacks c.args.state.now c.args.time c.args.query.now c.facts.result.now c.facts.ensures.rows c.facts.ensures.ends c.in-None.ensures c.answer_at.result c.answer_at.ensures.count c.answer_at.ensures.absent
