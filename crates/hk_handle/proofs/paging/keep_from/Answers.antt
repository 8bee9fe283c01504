use Rattle.std.proofs.Common.{rules}
use Rattle.std.specs.Prelude.{nat_le}
use Rattle.std.proofs.lemmas.Fn.{filter_same}
use Rattle.hk_handle.proofs.paging.keep_from.Goals as goal

pub returns : goal.returns
returns c = filter_same _ (λ e. nat_le c.args.low e.0) _ (λ x b f t. search rules) _ _ c.retain.ensures.filtered
