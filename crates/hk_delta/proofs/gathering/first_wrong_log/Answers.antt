use Rattle.std.proofs.Common.{sym, ap, ◌∙◌, ◌++◌, ◌∷◌, [], take, drop, ◌+◌}
use Rattle.std.proofs.lemmas.List.{take_more, take-append-drop}
use Rattle.hk_log.specs.declared.item.Item.{Item}
use Rattle.hk_model.specs.Replica.Maps.{or_else}
use Rattle.hk_model.specs.Replica.Rules.{first_wrong_log}
use Rattle.hk_state.proofs.WrongLogs.{wrong_log-append}
use Rattle.hk_delta.proofs.gathering.first_wrong_log.Goals as goal

pub returns-in-Some : goal.returns-in-Some
returns-in-Some c =
    let i = c.loop-item.item-index in
    let items = c.args.items.now in
    let x = c.item-item.result in
    let more = take_more items i x c.loop-item-test.true ∙ ap (λ (y : Item). take i items ++ y ∷ []) (sym c.item-item.is) in
    sym (
    ap (first_wrong_log c.args.config) (sym (take-append-drop (i + 1) items) ∙ ap (λ l. l ++ drop (i + 1) items) more)
    ∙ wrong_log-append c.args.config (take i items ++ x ∷ []) (drop (i + 1) items)
    ∙ ap (λ o. or_else o (first_wrong_log c.args.config (drop (i + 1) items))) (wrong_log-append c.args.config (take i items) (x ∷ []) ∙ ap (λ o. or_else o (first_wrong_log c.args.config (x ∷ []))) c.loop-item.invariant ∙ ap (λ o. or_else o (first_wrong_log c.args.config [])) (sym c.wrong_log.ensures ∙ c.in-Some.is)))

pub loop-item-preserved : goal.loop-item-preserved
loop-item-preserved c =
    let i = c.loop-item.item-index in
    let items = c.args.items.now in
    let x = c.item-item.result in
    let more = take_more items i x c.loop-item-test.true ∙ ap (λ (y : Item). take i items ++ y ∷ []) (sym c.item-item.is) in
    ap (first_wrong_log c.args.config) more ∙ wrong_log-append c.args.config (take i items) (x ∷ []) ∙ ap (λ o. or_else o (first_wrong_log c.args.config (x ∷ []))) c.loop-item.invariant ∙ ap (λ o. or_else o (first_wrong_log c.args.config [])) (sym c.wrong_log.ensures ∙ c.in_default.is)
