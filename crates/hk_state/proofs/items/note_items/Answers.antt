use Rattle.std.proofs.Common.{sym, ap, ◌∙◌, ◌++◌, ◌∷◌, [], take, length, subst, All}
use Rattle.std.proofs.lemmas.List.{take_more}
use Rattle.std.proofs.lemmas.List.Elements.{All-push, All-nil}
use Rattle.hk_log.specs.declared.item.Item.{Item}
use Rattle.hk_model.specs.Replica.Streams.{streams_of, all_together}
use Rattle.hk_model.proofs.Replica.Sets.{all_together-streams_of}
use Rattle.hk_model.specs.Replica.Lawful.{IsItem}
use Rattle.hk_state.proofs.WrongLogs.{fits_at, none_told, count_streams}
use Rattle.hk_state.proofs.items.note_items.Goals as goal

pub loop-item-init : goal.loop-item-init
loop-item-init c = (c.in_ok-got.ensures.ok ∙ sym (none_told c.args.config.streams), All-nil IsItem)

pub note_item-requires-clause-many : goal.note_item-requires-clause-many
note_item-requires-clause-many c = ap length c.loop-item.invariant.0 ∙ count_streams c.args.config.streams (take c.loop-item.item-index c.args.items.now)

pub note_item-requires-clause-fits : goal.note_item-requires-clause-fits
note_item-requires-clause-fits c = fits_at c.args.config c.args.items.now c.loop-item.item-index c.item-item.result c.item-item.is c.loop-item-test.true c.requires

pub loop-item-preserved : goal.loop-item-preserved
loop-item-preserved c =
    let i = c.loop-item.item-index in
    let n = c.args.config.streams in
    let x = c.item-item.result in
    let before = take i c.args.items.now in
    let more = take_more c.args.items.now i x c.loop-item-test.true ∙ ap (λ (y : Item). before ++ y ∷ []) (sym c.item-item.is) in
    let count = ap length c.loop-item.invariant.0 ∙ count_streams n before in (
      c.in_ok-note_item.ensures.ok
          ∙ (λ j. all_together (c.loop-item.invariant.0 j) (streams_of (count j) (x ∷ [])))
          ∙ all_together-streams_of n before (x ∷ [])
          ∙ ap (streams_of n) (sym more),
      subst (All IsItem) (sym more) (All-push IsItem before x c.loop-item.invariant.1 c.in_ok-note_item.ensures.lawful),
    )
