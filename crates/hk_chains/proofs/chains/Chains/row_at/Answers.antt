use Rattle.std.proofs.Common.{sym, ap, ◌∙◌}
use Rattle.std.specs.Option.{option_copied}
use Rattle.hk_facts.specs.Facts.{row_of}
use Rattle.hk_chains.proofs.StoredFacts.{known_row}
use Rattle.hk_chains.proofs.chains.Chains.row_at.Goals as goal

pub returns-in_err-chain : goal.returns-in_err-chain
returns-in_err-chain c = ap option_copied c.from_residual.ensures ∙ ap row_of (sym (c.in_err-chain.ensures.none c.args.version.now.born)) ∙ known_row c.args.self.now c.args.version.now
