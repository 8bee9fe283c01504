use Rattle.std.proofs.Common.{◌∙◌, ap, sym}
use Rattle.std.specs.FinMap as finmap
use Rattle.hk_facts.specs.Forms.{stored}
use Rattle.hk_facts.proofs.StoredTrees.{out_of_memory}
use Rattle.hk_facts.proofs.ListedVersions.{only_few, other_absent}
use Rattle.hk_facts.proofs.chain_form.ChainForm.put.Goals as goal

pub returns-in_err-few-in-One-clause-err : goal.returns-in_err-few-in-One-clause-err
returns-in_err-few-in-One-clause-err c = out_of_memory _ c.from_residual.result c.from_residual.ensures.1 (ap (λ f. finmap.get (stored f) c.args.born) c.in-One.is ∙ other_absent c.in-One.first c.args.born (sym c.has_other.ensures ∙ c.if-not-has_other.false))

pub put-result-requires : goal.put-result-requires
put-result-requires c none = only_few c.in-One.first _ c.in_ok-few-in-One.ensures.ok
