use Rattle.std.proofs.Common.{rules}
use Rattle.hk_codec.proofs.encoding.encode_old.Goals as goal

pub returns-clause-ok : goal.returns-clause-ok
returns-clause-ok c = search rules

pub returns-clause-reads : goal.returns-clause-reads
returns-clause-reads c = search rules
