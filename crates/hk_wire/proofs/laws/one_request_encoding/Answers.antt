use Rattle.hk_frames.proofs.FrameStream.{one_encoding_only}
use Rattle.hk_messages.specs.Requests.{request_at, request_rest, IsRequest}
use Rattle.hk_messages.proofs.RequestsReadAgain.{requests_are_sound}
use Rattle.hk_wire.proofs.laws.one_request_encoding.Goals as goal

pub returns : goal.returns
returns c = one_encoding_only 2 268435456 (request_at 2) request_rest IsRequest requests_are_sound
