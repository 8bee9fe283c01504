use Rattle.std.proofs.Common.{rules}
use Rattle.hk_codec.specs.Reading.{keyed_end_at}
use Rattle.hk_codec.proofs.elements.read_end.Goals as goal

pub returns : goal.returns
unfolding keyed_end_at
returns c = search rules
