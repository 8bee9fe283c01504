use Rattle.std.proofs.Common.{sym, ◌∙◌}
use Rattle.hk_oplog.proofs.JoinTests.{not_fitting}
use Rattle.hk_oplog.proofs.body.Body.join.Goals as goal

pub returns-in-Some : goal.returns-in-Some
returns-in-Some c = sym (not_fitting c.args.self.now c.args.fragment.now _ (sym c.fit_or_full.ensures ∙ c.in-Some.is))
