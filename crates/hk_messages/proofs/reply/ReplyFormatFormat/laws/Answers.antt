use Rattle.hk_messages.proofs.EncodedMessages.{replies_added}
use Rattle.hk_messages.proofs.RepliesReadAgain.{replies_are_sound}
use Rattle.hk_messages.proofs.reply.ReplyFormatFormat.laws.Goals as goal

pub returns-clause-sound : goal.returns-clause-sound
returns-clause-sound c = replies_are_sound

pub returns-clause-adds : goal.returns-clause-adds
returns-clause-adds c = replies_added
