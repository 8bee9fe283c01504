use Rattle.hk_frames.proofs.FrameStream.{one_encoding_only}
use Rattle.hk_messages.specs.Replies.{reply_at, reply_rest, IsReply}
use Rattle.hk_messages.proofs.RepliesReadAgain.{replies_are_sound}
use Rattle.hk_wire.proofs.laws.one_reply_encoding.Goals as goal

pub returns : goal.returns
returns c = one_encoding_only 2 268435456 reply_at reply_rest IsReply replies_are_sound
