use Rattle.std.proofs.Common.{sym, ap, subst, ◌∙◌, ◌++◌, ◌∷◌, [], take, All, arith}
use Rattle.std.proofs.lemmas.List.{take_all, take_more}
use Rattle.std.proofs.lemmas.List.Elements.{All-push, All-nil}
use Rattle.hk_log.specs.declared.item.Item.{Item}
use Rattle.hk_model.specs.Replica.Lawful.{IsItem}
use Rattle.hk_delta.specs.Agreeing.{IsAbove}
use Rattle.hk_delta.proofs.items.are_above.Goals as goal

pub loop-item-init : goal.loop-item-init
loop-item-init c = record { above = All-nil (IsAbove c.args.time); lawful = All-nil IsItem }

pub loop-item-preserved : goal.loop-item-preserved
loop-item-preserved c =
    let i = c.loop-item.item-index in
    let items = c.args.items.now in
    let x = c.item-item.result in
    let before = take i items in
    let more = take_more items i x c.loop-item-test.true ∙ ap (λ (y : Item). before ++ y ∷ []) (sym c.item-item.is) in
    record {
      above = subst (All (IsAbove c.args.time)) (sym more) (All-push (IsAbove c.args.time) before x c.loop-item.invariant.above c.if-not-is_above.ensures.above);
      lawful = subst (All IsItem) (sym more) (All-push IsItem before x c.loop-item.invariant.lawful c.is_above.ensures.lawful);
    }

pub returns-clause-above : goal.returns-clause-above
returns-clause-above c = subst (All (IsAbove c.args.time)) (take_all c.loop-item.item-index c.args.items.now (omega (arith, c.loop-item-test.false))) c.loop-item.invariant.above

pub returns-clause-lawful : goal.returns-clause-lawful
returns-clause-lawful c = subst (All IsItem) (take_all c.loop-item.item-index c.args.items.now (omega (arith, c.loop-item-test.false))) c.loop-item.invariant.lawful
