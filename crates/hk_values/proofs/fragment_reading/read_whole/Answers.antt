use Rattle.std.proofs.Common.{rules}
use Rattle.hk_fragment_bytes.specs.Fragments.{whole_at}
use Rattle.hk_values.proofs.fragment_reading.read_whole.Goals as goal

pub returns : goal.returns
unfolding whole_at
returns c = search rules
