use Rattle.std.proofs.Common.{◌≡◌, ◌∙◌, length, take, get_or, arith, ap, sym, subst, All}
use Rattle.std.specs.List.{flat_map}
use Rattle.std.proofs.lemmas.List.{take_all}
use Rattle.std.proofs.lemmas.List.Elements.{All-more, recursion_from_All}
use Rattle.hk_codec.specs.Frames.{encoding_of}
use Rattle.hk_codec.specs.Encoding.{IsEncodableItem}
use Rattle.hk_answers.proofs.Lengths.{one_longer}
use Rattle.hk_messages.proofs.EncodedMessages.{new_items_text, new_items_fit}
use Rattle.hk_messages.proofs.items.items_len.Goals as goal

pub loop-item-preserved : goal.loop-item-preserved
loop-item-preserved c =
    let more = one_longer (encoding_of 2) c.args.items.now c.loop-item.item-index c.item-item.result c.loop-item-test.true in
    let here : length (encoding_of 2 c.item-item.result) ≡ length (encoding_of 2 (get_or c.args.items.now c.loop-item.item-index c.item-item.result)) = ap (λ e. length (encoding_of 2 e)) c.item-item.is in (
      omega (arith, more, here, c.loop-item.invariant.0, c.frame_len.ensures.len, c.from-total.ensures),
      omega (arith, c.loop-item.invariant.1, c.frame_len.ensures.bound, c.from-total.ensures),
      All-more IsEncodableItem c.args.items.now c.loop-item.item-index c.item-item.result c.loop-item-test.true c.loop-item.invariant.2 (subst IsEncodableItem c.item-item.is c.frame_len.ensures.fits),
    )

pub returns-clause-len : goal.returns-clause-len
returns-clause-len c =
    let all : length (flat_map (encoding_of 2) (take c.loop-item.item-index c.args.items.now)) ≡ length (flat_map (encoding_of 2) c.args.items.now) = ap (λ l. length (flat_map (encoding_of 2) l)) (take_all c.loop-item.item-index c.args.items.now c.loop-item-test.false) in
    c.loop-item.invariant.0 ∙ all ∙ ap length (sym (new_items_text c.args.items.now))

pub returns-clause-fits : goal.returns-clause-fits
returns-clause-fits c = new_items_fit c.args.items.now (recursion_from_All IsEncodableItem c.args.items.now (subst (All IsEncodableItem) (take_all c.loop-item.item-index c.args.items.now c.loop-item-test.false) c.loop-item.invariant.2))
