use Rattle.std.proofs.Common.{rules}
use Rattle.hk_delta.proofs.cutting.delta_since.Goals as goal

pub returns-in_err-versions-clause-gives : goal.returns-in_err-versions-clause-gives
returns-in_err-versions-clause-gives c = search rules

pub returns-in_err-left-clause-gives : goal.returns-in_err-left-clause-gives
returns-in_err-left-clause-gives c = search rules

pub fragment_from-requires-clause-base : goal.fragment_from-requires-clause-base
fragment_from-requires-clause-base c = search rules

pub returns-clause-gives : goal.returns-clause-gives
returns-clause-gives c = search rules
