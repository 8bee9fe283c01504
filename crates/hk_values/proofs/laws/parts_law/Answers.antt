use Rattle.hk_values.proofs.CutParts.{are_parts}
use Rattle.hk_values.proofs.laws.parts_law.Goals as goal

pub returns : goal.returns
returns c = are_parts
