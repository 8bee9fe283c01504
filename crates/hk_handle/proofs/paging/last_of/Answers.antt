use Rattle.hk_handle.proofs.LastKeys.{last_key_is}
use Rattle.hk_handle.proofs.paging.last_of.Goals as goal

pub returns-in-Some : goal.returns-in-Some
returns-in-Some c = rw c.number.ensures (last_key_is 0 c.args.rows.now c.in-Some.entry.now c.in-Some.ensures.value)
