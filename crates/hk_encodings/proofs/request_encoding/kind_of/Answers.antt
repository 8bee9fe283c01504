use Rattle.std.proofs.Common.{rules}
use Rattle.hk_encodings.proofs.request_encoding.kind_of.Goals as goal

pub returns-in-Front : goal.returns-in-Front
returns-in-Front c = search rules
