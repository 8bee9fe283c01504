use Rattle.std.proofs.Common.{ap, ℕ}
use Rattle.std.specs.Option.{option_map}
use Rattle.hk_log.specs.declared.item.Item.{Item}
use Rattle.hk_messages.proofs.PlainItems.{frame_fails}
use Rattle.hk_messages.proofs.items.read_item_frame.Goals as goal

abbrev same : Item × ℕ → Item × ℕ
same x = (x.0, x.1)

pub returns-in-Err : goal.returns-in-Err
returns-in-Err c =
    frame_fails c.args.cursor.now (option_map same c.in_ok-next_item.field-0) c.in-Some.item c.in-Some.len c.in-Err.fault (rw c.rest.ensures at c.in_ok-next_item.ensures) (ap (option_map same) c.in-Some.is) c.in-Err.ensures.read
