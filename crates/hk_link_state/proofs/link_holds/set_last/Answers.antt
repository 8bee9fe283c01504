use Rattle.std.proofs.Common.{refl}
use Rattle.hk_link_state.proofs.LastSet.{last_set}
use Rattle.hk_link_state.proofs.link_holds.set_last.Goals as goal

pub returns : goal.returns
returns c = last_set _ _ _ _ _ c.as_slice.ensures.value c.as_slice.ensures.len refl c.requires
