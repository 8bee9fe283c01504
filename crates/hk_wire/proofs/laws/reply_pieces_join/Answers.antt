use Rattle.hk_messages.proofs.EncodedMessages.{replies_join}
use Rattle.hk_wire.proofs.laws.reply_pieces_join.Goals as goal

pub returns : goal.returns
returns c = replies_join
