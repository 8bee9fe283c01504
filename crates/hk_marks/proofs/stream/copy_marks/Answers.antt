use Rattle.std.proofs.Common.{rules, ℕ}
use Rattle.std.proofs.lemmas.Iterator.{YieldsList-from_map}
use Rattle.std.proofs.lemmas.Iterator.Adapters.{fact_from_collect}
use Rattle.std.proofs.lemmas.Iterator.Consumers.{YieldsList-at, YieldsList-from_rest}
use Rattle.std.proofs.lemmas.Result.{IfOk-weaker}
use Rattle.std.specs.Ordering.{nat_cmp}
use Rattle.std.specs.BTreeMap as tree
use Rattle.hk_marks.proofs.Readers.{copied_entries}
use Rattle.hk_marks.proofs.stream.copy_marks.Goals as goal

pub returns : goal.returns
returns c = IfOk-weaker c.collect.result _ _ (λ n. copied_entries c.args.marks.now n c.iter.ensures.ordered)
    (fact_from_collect (tree.IsFromIterResult nat_cmp) c.collect.result c.collect.ensures.ran
    (YieldsList-from_map _ (λ (e : ℕ × ℕ). (e.0, e.1)) (YieldsList-at c.map.ensures.source (YieldsList-from_rest c.args.marks.now.entries c.iter.ensures.rest)) c.map.ensures.closure (λ x r q k. search rules)))
