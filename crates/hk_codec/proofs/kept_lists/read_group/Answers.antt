use Rattle.std.proofs.Common.{rules}
use Rattle.hk_codec.specs.Kept.{kept_group_at}
use Rattle.hk_codec.proofs.kept_lists.read_group.Goals as goal

pub returns : goal.returns
unfolding kept_group_at
returns g c = search rules
