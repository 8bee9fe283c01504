use Rattle.std.proofs.Common.{arith}
use Rattle.std.proofs.lemmas.List.Elements.{recursion_from_All}
use Rattle.hk_fragment_bytes.specs.Fragments.{KnownFits}
use Rattle.hk_fragment_bytes.proofs.Lengths.{facts_text_len}
use Rattle.hk_fragment_bytes.proofs.PartsReadAgain.{part_fits}
use Rattle.hk_values.proofs.part.part_len.Goals as goal

pub returns-clause-len : goal.returns-clause-len
returns-clause-len c = let e = facts_text_len c.args.facts.now in omega (arith, e, c.facts_len.ensures.len)

pub returns-clause-fits : goal.returns-clause-fits
returns-clause-fits c = part_fits c.args.facts.now c.requires (recursion_from_All KnownFits c.args.facts.now c.facts_len.ensures.fits)
