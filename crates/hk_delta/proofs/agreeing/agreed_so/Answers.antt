use Rattle.std.proofs.Common.{inl, sym, ap, ◌∙◌, length}
use Rattle.hk_types.specs.Values.{ConfigValue}
use Rattle.hk_fragment.specs.Parts.{fragment_seen, fragment_fault}
use Rattle.hk_delta.specs.Agreeing.{taken_items}
use Rattle.hk_delta.specs.Cuts.{all_left}
use Rattle.hk_delta.proofs.ComparedRepeats.{agrees_so, beside, told_otherwise}
use Rattle.hk_delta.proofs.GatheredWhole.{whole_faultless, whole_is}
use Rattle.hk_state.proofs.WrongLogs.{count_streams}
use Rattle.hk_delta.proofs.agreeing.agreed_so.Goals as goal

pub returns-in-Some : goal.returns-in-Some
returns-in-Some c = c.in-Some.ensures c.args.compared

pub of_parts-requires-clause-many : goal.of_parts-requires-clause-many
of_parts-requires-clause-many c =
    let s = c.args.state.now in
    ap length c.in_ok-facts.ensures.got ∙ count_streams (length s.streams) (taken_items s c.args.items.now) ∙ sym c.config.ensures.streams

pub of_parts-requires-clause-faultless : goal.of_parts-requires-clause-faultless
of_parts-requires-clause-faultless c =
    let s = c.args.state.now in
    let log : ConfigValue = record { log = s.log; streams = length s.streams } in
    let l = c.in_ok-facts.ensures in
    let es = c.in_ok-left.ensures.0 in
    let list = c.in_ok-left.ensures.1.1 ∙ ap (λ base. all_left base es) c.zero.ensures in
    (λ i. fragment_fault (c.zero-beginning.ensures i) (c.zero-beginning.ensures i) (l.got i) (list i)) ∙ whole_faultless log (taken_items s c.args.items.now) l.agree.each c.in_ok-facts.field-0.facts l.facts es c.in_ok-left.ensures.1.0

pub returns-then-some_stand_otherwise : goal.returns-then-some_stand_otherwise
returns-then-some_stand_otherwise c =
    let s = c.args.state.now in
    let n = c.in_ok-facts.field-0 in
    let here = beside s c.facts.result.now n.facts c.horizon.result c.args.compared c.args.items.now c.facts.ensures.rows c.facts.ensures.ends c.horizon.ensures.value in
    inl (told_otherwise s c.args.items.now n c.in_ok-facts.ensures c.args.compared (sym here ∙ sym c.some_stand_otherwise.ensures ∙ c.if-some_stand_otherwise.true))

pub returns : goal.returns
returns c =
    let s = c.args.state.now in
    let log : ConfigValue = record { log = s.log; streams = length s.streams } in
    let n = c.in_ok-facts.field-0 in
    let l = c.in_ok-facts.ensures in
    let es = c.in_ok-left.ensures.0 in
    let list = c.in_ok-left.ensures.1.1 ∙ ap (λ base. all_left base es) c.zero.ensures in
    let here = beside s c.facts.result.now n.facts c.horizon.result c.args.compared c.args.items.now c.facts.ensures.rows c.facts.ensures.ends c.horizon.ensures.value in
    agrees_so s c.args.items.now n l c.args.compared (sym here ∙ sym c.some_stand_otherwise.ensures ∙ c.if-some_stand_otherwise.false) c.of_parts.result
    (c.of_parts.ensures
    ∙ (λ i. fragment_seen (record { log = c.config.ensures.log i; streams = c.config.ensures.streams i }) (c.zero-beginning.ensures i) (c.zero-beginning.ensures i) (l.got i) (list i))
    ∙ whole_is log (taken_items s c.args.items.now) l.agree.each n.facts l.facts es c.in_ok-left.ensures.1.0)
