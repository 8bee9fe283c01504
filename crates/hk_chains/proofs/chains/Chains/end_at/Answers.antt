use Rattle.std.proofs.Common.{sym, ap, ◌∙◌}
use Rattle.hk_facts.specs.Facts.{died_of}
use Rattle.hk_chains.proofs.StoredFacts.{known_end}
use Rattle.hk_chains.proofs.chains.Chains.end_at.Goals as goal

pub returns-in_err-chain : goal.returns-in_err-chain
returns-in_err-chain c = c.from_residual.ensures ∙ ap died_of (sym (c.in_err-chain.ensures.none c.args.version.now.born)) ∙ known_end c.args.self.now c.args.version.now
