use Rattle.std.proofs.Common.{◌≡◌, sym, ap, subst, ◌∙◌, ◌++◌, ◌∷◌, [], ◌+◌, take, drop, length, replicate, Err, ◌⊎◌}
use Rattle.std.proofs.lemmas.List.{take_more, take-append-drop}
use Rattle.hk_types.specs.declared.faults.Refusal.TheVariants.{Memory}
use Rattle.hk_log.specs.declared.item.Item.{Item}
use Rattle.hk_model.specs.Replica.Streams.{unknown}
use Rattle.hk_model.proofs.Replica.Sets.{append_assoc'}
use Rattle.hk_delta.specs.Agreeing.{absorb_all, taken_items, IsLearnt}
use Rattle.hk_delta.proofs.AgreedItems.{nothing_learnt, one_learnt, one_refused, as_many}
use Rattle.hk_state.proofs.WrongLogs.{none_told, count_streams}
use Rattle.hk_delta.proofs.agreeing.learn_all.Goals as goal

pub loop-item-init : goal.loop-item-init
loop-item-init c =
    let s = c.args.state.now in
    nothing_learnt s c.horizon-lawful.ensures.lawful (record { facts = c.new.result; got = c.in_ok-new.field-0; all = c.in_ok-copy.field-0 }) c.new.ensures
    (c.in_ok-new.ensures.ok ∙ ap (λ n. replicate n unknown) c.config.ensures.streams ∙ sym (none_told (length s.streams)))
    (c.in_ok-copy.ensures.ok ∙ c.got.ensures)

pub learn-requires-clause-got : goal.learn-requires-clause-got
learn-requires-clause-got c =
    let s = c.args.state.now in
    ap length c.loop-item.invariant.got ∙ count_streams (length s.streams) (taken_items s (take c.loop-item.item-index c.args.items.now))

pub learn-requires-clause-all : goal.learn-requires-clause-all
learn-requires-clause-all c =
    let s = c.args.state.now in
    ap length c.loop-item.invariant.all ∙ as_many s c.loop-item.invariant.before (taken_items s (take c.loop-item.item-index c.args.items.now))

pub returns-in-Err : goal.returns-in-Err
returns-in-Err c =
    let i = c.loop-item.item-index in
    let items = c.args.items.now in
    let x = c.item-item.result in
    let s = c.args.state.now in
    let more = take_more items i x c.loop-item-test.true ∙ ap (λ (y : Item). take i items ++ y ∷ []) (sym c.item-item.is) in
    let whole : take i items ++ x ∷ drop (i + 1) items ≡ items = sym (append_assoc' (take i items) (x ∷ []) (drop (i + 1) items)) ∙ ap (λ l. l ++ drop (i + 1) items) (sym more) ∙ take-append-drop (i + 1) items in
    subst (λ l. (absorb_all s l ≡ Err c.in-Err.why) ⊎ (c.in-Err.why ≡ Memory)) whole (one_refused s c.loop-item.invariant.before (take i items) (drop (i + 1) items) c.loop-item.news c.learn.new.news x c.in-Err.why c.loop-item.invariant c.in-Err.ensures)

pub loop-item-preserved : goal.loop-item-preserved
loop-item-preserved c =
    let i = c.loop-item.item-index in
    let items = c.args.items.now in
    let x = c.item-item.result in
    let s = c.args.state.now in
    let more = take_more items i x c.loop-item-test.true ∙ ap (λ (y : Item). take i items ++ y ∷ []) (sym c.item-item.is) in
    subst (λ l. IsLearnt s l c.learn.new.news) (sym more) (one_learnt s c.loop-item.invariant.before (take i items) c.loop-item.news c.learn.new.news x c.loop-item.invariant c.in_default.ensures)
