use Rattle.std.proofs.Common.{◌≡◌, ◌-◌, None}
use Rattle.hk_fragment_bytes.specs.FragmentSteps.{fact_list_at}
use Rattle.hk_frames.proofs.ReadingLoop.{with_front}
use Rattle.hk_values.proofs.fragment_reading.read_facts.Given as goal

abbrev pub invariant-loop : goal.invariant-loop
invariant-loop l = with_front l.facts.items (fact_list_at l.base l.horizon (l.count - l.counter) l.before l.cursor) ≡ fact_list_at l.base l.horizon l.count None l.fn.cursor
