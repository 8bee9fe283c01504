use Rattle.std.proofs.Common.{append_assoc, rules}
use Rattle.hk_cli_fields.proofs.fields.put_ready.Goals as goal

pub returns : goal.returns
returns c = search (rules, append_assoc)
