use Rattle.std.proofs.Common.{◌∙◌, ◌++◌, length, ap, sym}
use Rattle.std.specs.Int.{w32}
use Rattle.std.specs.List.{flat_map}
use Rattle.std.proofs.lemmas.List.{take_all}
use Rattle.hk_frames.specs.Fields.{number}
use Rattle.hk_codec.specs.Frames.{encoding_of}
use Rattle.hk_messages.specs.Requests.{new_items}
use Rattle.hk_messages.proofs.EncodedMessages.{new_items_text}
use Rattle.hk_messages.proofs.items.put_items.Goals as goal

pub returns-clause-ok : goal.returns-clause-ok
returns-clause-ok c =
    let count = number w32 (length (new_items c.args.items.now)) in
    c.loop-item.invariant
    ∙ ap (λ l. c.args.out.now.items ++ (count ++ flat_map (encoding_of 2) l)) (take_all c.loop-item.item-index c.args.items.now c.loop-item-test.false)
    ∙ ap (λ t. c.args.out.now.items ++ (count ++ t)) (sym (new_items_text c.args.items.now))
