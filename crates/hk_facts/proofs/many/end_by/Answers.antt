use Rattle.std.proofs.Common.{sym, ◌∙◌, subst}
use Rattle.std.specs.Bool.{OnTrue}
use Rattle.hk_facts.specs.Turns.{EndBy}
use Rattle.hk_facts.proofs.StoredTrees.{some_at}
use Rattle.hk_facts.proofs.VersionsInTurn.{known_by}
use Rattle.hk_facts.proofs.many.end_by.Goals as goal

pub returns-then-is_some : goal.returns-then-is_some
returns-then-is_some c =
    subst (λ b. OnTrue b (EndBy c.args.versions.now c.args.time)) (sym c.if-is_some.true)
    (known_by c.args.versions.now c.args.time c.requires (some_at (λ x. x.now) c.version.result _ c.version.ensures (sym c.is_some.ensures ∙ c.if-is_some.true)))
