use Rattle.std.proofs.Common.{◌≡◌, ◌≤◌, ◌∙◌, sym, subst, ap, true≢false, arith, max, ℕ}
use Rattle.std.specs.FinSet as set
use Rattle.std.specs.Ordering.{nat_cmp}
use Rattle.hk_numbers.proofs.SeenRuns.{empty_seen, kept_empty}
use Rattle.hk_numbers.specs.Runs.{numbers_seen}
use Rattle.hk_marks.proofs.GoneOn.{gone_on}
use Rattle.hk_marks.specs.Parts.{GoesOn}
use Rattle.hk_marks.proofs.stream.join.numbers_beside.Goals as goal

pub returns-in-Some-clause-same : goal.returns-in-Some-clause-same
returns-in-Some-clause-same c =
    let grows : max c.args.prefix c.args.upto ≤ c.in-Some.reach = omega (arith, c.in-Some.ensures.least, c.greater.ensures) in
    gone_on c.args.prefix c.args.upto c.in-Some.reach (numbers_seen c.args.others.now) (numbers_seen c.args.none.now) c.requires.others
    (subst (λ n. GoesOn n c.in-Some.reach (numbers_seen c.args.others.now)) c.greater.ensures c.in-Some.ensures.goes_on) grows (empty_seen _ c.requires.none)

pub returns-in-Some-clause-extras : goal.returns-in-Some-clause-extras
returns-in-Some-clause-extras c = λ q e. absurd (true≢false (sym e ∙ ap (λ (s : set.FinSet nat_cmp). set.contains s q) (empty_seen _ c.requires.none) ∙ set.contains-empty nat_cmp q))

pub returns-in-Some-clause-kept : goal.returns-in-Some-clause-kept
returns-in-Some-clause-kept c = kept_empty _ c.requires.none c.requires.none_ordered

pub returns-in-Some-clause-in_order : goal.returns-in-Some-clause-in_order
returns-in-Some-clause-in_order c = λ _. empty_seen _ c.requires.none
