use Rattle.std.proofs.Common.{rules}
use Rattle.hk_messages.proofs.Lengths.{reply_rest_len}
use Rattle.hk_encodings.proofs.reply_encoding.reply_len.Goals as goal

pub body_len-len-requires : goal.body_len-len-requires
body_len-len-requires c = search (rules, reply_rest_len)

pub returns-clause-reply : goal.returns-clause-reply
returns-clause-reply c = search (rules, reply_rest_len)

pub returns-clause-len : goal.returns-clause-len
returns-clause-len c = search (rules, reply_rest_len)
