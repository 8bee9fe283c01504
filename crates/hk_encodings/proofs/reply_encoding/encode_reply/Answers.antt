use Rattle.hk_messages.proofs.EncodedMessages.{reply_begins}
use Rattle.hk_encodings.proofs.reply_encoding.encode_reply.Goals as goal

pub returns-clause-reads : goal.returns-clause-reads
returns-clause-reads c = reply_begins c.args.reply.now c.in-Some.ensures.reply
