use Rattle.std.proofs.Common.{sym, ap, subst, ◌∙◌, ◌++◌, ◌∷◌, [], take, length}
use Rattle.std.proofs.lemmas.Bool.{OnTrue_at}
use Rattle.std.proofs.lemmas.List.{take_more}
use Rattle.hk_log.specs.declared.item.Item.{Item}
use Rattle.hk_model.specs.Replica.Streams.{all_together, streams_of}
use Rattle.hk_delta.specs.Agreeing.{AreNew}
use Rattle.hk_delta.proofs.AgreedItems.{as_many}
use Rattle.hk_delta.proofs.NewItems.{none_new, one_new, streams_more}
use Rattle.hk_delta.proofs.StreamsInTurn.{streams_none}
use Rattle.hk_delta.proofs.agreeing.are_new.Goals as goal

pub loop-item-init : goal.loop-item-init
loop-item-init c =
    let s = c.args.state.now in
    let lawful = c.horizon-lawful.ensures.lawful in
    record {
      lawful = lawful;
      streams = c.in-Ok.ensures.ok ∙ c.got.ensures ∙ sym (streams_none s.streams lawful.streams);
      new = none_new s lawful;
    }

pub note_new-requires : goal.note_new-requires
note_new-requires c =
    let s = c.args.state.now in
    ap length c.loop-item.invariant.streams ∙ as_many s c.loop-item.invariant.lawful (take c.loop-item.item-index c.args.items.now)

pub loop-item-preserved : goal.loop-item-preserved
loop-item-preserved c =
    let i = c.loop-item.item-index in
    let items = c.args.items.now in
    let x = c.item-item.result in
    let s = c.args.state.now in
    let old = c.loop-item.invariant in
    let more = take_more items i x c.loop-item-test.true ∙ ap (λ (y : Item). take i items ++ y ∷ []) (sym c.item-item.is) in
    let is = OnTrue_at c.if-not-note_new.false c.note_new.ensures in
    record {
      lawful = old.lawful;
      streams = streams_more s old.lawful (take i items) c.loop-item.all c.note_new.new.all x old.streams is.2.2 ∙ ap (λ l. all_together s.streams (streams_of (length s.streams) l)) (sym more);
      new = subst (AreNew s) (sym more) (one_new s old.lawful (take i items) c.loop-item.all c.note_new.new.all x old.new old.streams is);
    }
