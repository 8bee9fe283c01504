use Rattle.std.proofs.Common.{refl, sym, ◌∙◌}
use Rattle.hk_chains.proofs.PutChains.{no_empty_filled}
use Rattle.hk_chains.proofs.chains.remove_if_empty.Goals as goal

pub returns-then-is_empty-clause-kept : goal.returns-then-is_empty-clause-kept
returns-then-is_empty-clause-kept c x at above = absurd (no_empty_filled x c.in-Some.chain.now (sym at ∙ sym c.in-Some.ensures) (c.if-is_empty.ensures.0 refl) above)
