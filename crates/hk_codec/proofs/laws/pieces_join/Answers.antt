use Rattle.hk_codec.proofs.ItemFrames.{items_join}
use Rattle.hk_codec.proofs.Outlined.{outlines_join}
use Rattle.hk_codec.proofs.laws.pieces_join.Goals as goal

pub returns-clause-items : goal.returns-clause-items
returns-clause-items c = items_join

pub returns-clause-outlines : goal.returns-clause-outlines
returns-clause-outlines c = outlines_join
