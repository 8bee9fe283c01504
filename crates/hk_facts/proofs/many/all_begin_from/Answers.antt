use Rattle.std.proofs.Common.{sym, subst}
use Rattle.std.specs.Bool.{OnTrue}
use Rattle.hk_facts.specs.Turns.{BeginFrom}
use Rattle.hk_facts.proofs.VersionsInTurn.{bounded_begin, told}
use Rattle.hk_facts.proofs.many.all_begin_from.Goals as goal

pub returns-then-is_free : goal.returns-then-is_free
returns-then-is_free c =
    subst (λ b. OnTrue b (BeginFrom c.args.versions.now c.args.time c.args.from)) (sym c.if-is_free.true)
    (bounded_begin c.args.versions.now c.args.bounds.now c.args.time c.args.from c.requires (told c.is_free.result c.is_free.ensures c.if-is_free.true))
