use Rattle.std.proofs.Common.{rules}
use Rattle.hk_link_state.proofs.link_state.LinkState.keep_bytes.Goals as goal

pub returns-then-bytes-had-clause-room : goal.returns-then-bytes-had-clause-room
returns-then-bytes-had-clause-room c = search rules
