use Rattle.std.proofs.Common.{sym, ◌∙◌}
use Rattle.hk_chains.proofs.Indexed.{known_fact}
use Rattle.hk_chains.proofs.WalkedRows.{keys_have}
use Rattle.hk_chains.proofs.key_index.KeyIndex.has.Goals as goal

pub returns : goal.returns
returns c = rw (← c.self.view_is) (c.knows.ensures ∙ known_fact c.self.inside.chains.now c.args.version ∙ sym (keys_have c.self.inside.chains.now c.args.version))
