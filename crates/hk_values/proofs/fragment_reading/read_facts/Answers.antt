use Rattle.std.proofs.Common.{None}
use Rattle.std.proofs.lemmas.Result.{err_from_is_err_and}
use Rattle.hk_frames.proofs.ReadingLoop.{goes_on, ends, is_done}
use Rattle.hk_fragment_bytes.specs.Fragments.{fact_at}
use Rattle.hk_fragment_bytes.specs.FragmentSteps.{fact_list_at}
use Rattle.hk_values.proofs.fragment_reading.read_facts.Goals as goal

pub returns-in_err-fact : goal.returns-in_err-fact
returns-in_err-fact c =
    let p = err_from_is_err_and c.from_residual-in_err-fact.result c.from_residual-in_err-fact.ensures.1 in
    rw (p.1, p.2) (ends (λ e. e.0) (fact_at c.args.base c.args.horizon) c.in_err-fact.field-0.0 c.loop.facts.items c.args.count c.loop.counter c.loop.before c.loop.cursor (fact_list_at c.args.base c.args.horizon c.args.count None c.args.cursor.now) c.loop-test.true c.in_err-fact.ensures c.loop.invariant)

pub loop-preserved : goal.loop-preserved
loop-preserved c =
    rw c.in_ok-push.ensures.items (goes_on (λ e. e.0) (fact_at c.args.base c.args.horizon) c.loop.facts.items c.args.count c.loop.counter c.loop.before c.loop.cursor c.in_ok-fact.fact c.read_fact.new.cursor (fact_list_at c.args.base c.args.horizon c.args.count None c.args.cursor.now) c.loop-test.true c.in_ok-fact.ensures c.loop.invariant)

pub returns : goal.returns
returns c = is_done (λ e. e.0) (fact_at c.args.base c.args.horizon) c.loop.facts.items c.args.count c.loop.counter c.loop.before c.loop.cursor (fact_list_at c.args.base c.args.horizon c.args.count None c.args.cursor.now) c.loop-test.false c.loop.invariant
