use Rattle.hk_messages.proofs.EncodedMessages.{requests_read}
use Rattle.hk_wire.proofs.laws.one_request_reading.Goals as goal

pub returns : goal.returns
returns c = requests_read
