use Rattle.hk_fragment_bytes.proofs.FactsRead.{parts_stand, no_fragment_fault, fragment_read}
use Rattle.hk_values.proofs.fragment_reading.read_fragment.Goals as goal

pub returns-in_err-fragment : goal.returns-in_err-fragment
returns-in_err-fragment c =
    absurd (no_fragment_fault c.in_ok-head.head.config c.in_ok-head.head.base c.in_ok-head.head.horizon c.in_ok-got.got c.in_ok-facts.facts.items c.in_err-fragment.field-0.0
    (parts_stand c.in_ok-head.head.base c.in_ok-head.head.horizon c.in_ok-got.got c.in_ok-count.count _ _ c.in_ok-facts.facts.items c.in_ok-head.ensures.above c.in_ok-got.ensures.reach c.in_ok-facts.ensures) c.in_err-fragment.ensures)

pub returns : goal.returns
returns c =
    fragment_read c.in_ok-head.head.config c.in_ok-head.head.base c.in_ok-head.head.horizon c.in_ok-got.got c.in_ok-count.count c.in_ok-facts.facts.items c.in_ok-fragment.fragment _ _ _ _ _ c.in_ok-head.ensures.read c.in_ok-got.ensures.read c.in_ok-count.ensures.read c.in_ok-facts.ensures
    (parts_stand c.in_ok-head.head.base c.in_ok-head.head.horizon c.in_ok-got.got c.in_ok-count.count _ _ c.in_ok-facts.facts.items c.in_ok-head.ensures.above c.in_ok-got.ensures.reach c.in_ok-facts.ensures) c.in_ok-fragment.ensures
