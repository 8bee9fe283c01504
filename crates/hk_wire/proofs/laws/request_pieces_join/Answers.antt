use Rattle.hk_frames.proofs.FrameStream.{pieces_join_as}
use Rattle.hk_messages.specs.Requests.{request_seen, request_meant, request_at, request_rest, IsRequestUpTo}
use Rattle.hk_wire.proofs.laws.request_pieces_join.Goals as goal

pub returns : goal.returns
returns c = λ latest. pieces_join_as request_seen request_meant 2 268435456 (request_at latest) request_rest (IsRequestUpTo latest)
