use Rattle.std.proofs.Common.{refl, sym, ◌∙◌}
use Rattle.hk_store.proofs.LearntFacts.{refused_on}
use Rattle.hk_state.specs.Items.{RefusesWhere, conflict_in_turn}
use Rattle.hk_state.proofs.ItemsInTurn.{with_none, one_more, still_none, refused_in}
use Rattle.hk_state.proofs.items.put_items.Goals as goal

pub loop-item-init : goal.loop-item-init
loop-item-init c = record { facts = sym (with_none c.args.facts.now); agrees = refl; back = refl }

pub loop-item-preserved : goal.loop-item-preserved
loop-item-preserved c =
    let f = c.args.facts.now in
    let items = c.args.items.now in
    let l = c.loop-item in
    let x = c.item-item.result in
    let put = c.in_ok-put_item.ensures in
    record {
      facts = one_more f l.facts items l.item-index x c.item-item.is c.loop-item-test.true l.invariant.facts c.put_item.new.facts put.ok;
      agrees = still_none f l.facts items l.item-index x c.item-item.is c.loop-item-test.true l.invariant.facts l.invariant.agrees put.agrees;
      back = put.back ∙ l.invariant.back;
    }

pub returns-in_err-put_item-clause-err : goal.returns-in_err-put_item-clause-err
returns-in_err-put_item-clause-err c =
    let f = c.args.facts.now in
    let items = c.args.items.now in
    let l = c.loop-item in
    let why = c.in_err-put_item.field-0.0 in
    refused_on (RefusesWhere (conflict_in_turn f items)) c.from_residual.result why c.from_residual.ensures.1
    (refused_in f l.facts items l.item-index c.item-item.result c.item-item.is c.loop-item-test.true l.invariant.facts why c.in_err-put_item.ensures.err)
