use Rattle.hk_messages.proofs.EncodedMessages.{replies_read}
use Rattle.hk_wire.proofs.laws.one_reply_reading.Goals as goal

pub returns : goal.returns
returns c = replies_read
