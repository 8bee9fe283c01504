use Rattle.hk_values.proofs.OwnParts.{put_together}
use Rattle.hk_values.proofs.laws.together_law.Goals as goal

pub returns : goal.returns
returns c = put_together
