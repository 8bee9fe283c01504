use Rattle.std.proofs.Common.{sym, ◌∙◌}
use Rattle.hk_delta.proofs.UnionOfLists.{united, unites_gathered}
use Rattle.hk_delta.proofs.uniting.union.Goals as goal

pub returns-clause-unites : goal.returns-clause-unites
returns-clause-unites c = united c.args.into.now c.take_in.new.self c.args.other.now c.take_in.result (sym c.has_conflict.ensures ∙ c.if-has_conflict.false) c.take_in.ensures.ok c.take_in.ensures.err c.take_in.ensures.kept

pub returns-clause-gathered : goal.returns-clause-gathered
returns-clause-gathered c =
    unites_gathered c.args.into.now c.take_in.new.self c.args.other.now c.take_in.result
    (united c.args.into.now c.take_in.new.self c.args.other.now c.take_in.result (sym c.has_conflict.ensures ∙ c.if-has_conflict.false) c.take_in.ensures.ok c.take_in.ensures.err c.take_in.ensures.kept)
