use Rattle.std.proofs.Common.{sym, true≢false, arith}
use Rattle.hk_numbers.proofs.SeenRuns.{empty_seen}
use Rattle.hk_marks.proofs.GoneOn.{no_entries, none_go_on, run_goes_on}
use Rattle.hk_marks.proofs.stream.join.reach_of.Goals as goal

pub returns-in_default-clause-goes_on : goal.returns-in_default-clause-goes_on
returns-in_default-clause-goes_on c =
    none_go_on _ _ (empty_seen _ (no_entries _ (λ some. true≢false (sym (c.in_default.ensures.variant.1 some)))))

pub returns-clause-goes_on : goal.returns-clause-goes_on
returns-clause-goes_on c =
    run_goes_on c.args.prefix c.greater.result c.args.runs.now c.in-Some.first.now c.in-Some.end.now c.in-Some.ensures.first (omega (arith, c.len.ensures.len)) (omega arith) c.greater.ensures
