use Rattle.hk_messages.proofs.EncodedMessages.{request_begins}
use Rattle.hk_encodings.proofs.request_encoding.encode_request.Goals as goal

pub returns-clause-reads : goal.returns-clause-reads
returns-clause-reads c = request_begins c.args.request.now c.in-Some.ensures.request
