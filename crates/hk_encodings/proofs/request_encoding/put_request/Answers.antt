use Rattle.std.proofs.Common.{arith}
use Rattle.hk_frames.specs.Framing.{encoded}
use Rattle.hk_frames.proofs.Put.{all}
use Rattle.hk_messages.specs.Requests.{request_rest}
use Rattle.hk_encodings.proofs.request_encoding.put_request.Goals as goal

pub returns-clause-ok : goal.returns-clause-ok
unfolding encoded request_rest
returns-clause-ok c = grind (arith, all)
