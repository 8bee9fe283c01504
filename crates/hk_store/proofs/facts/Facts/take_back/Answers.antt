use Rattle.std.proofs.Common.{sym, ap, ◌∙◌}
use Rattle.hk_store.specs.Undos.{rolled_back}
use Rattle.hk_store.proofs.RolledBack.{undone_push}
use Rattle.hk_store.proofs.facts.Facts.take_back.Goals as goal

pub loop-version-preserved : goal.loop-version-preserved
loop-version-preserved c =
    ap (rolled_back c.pop.new.self.items) c.forget.ensures
    ∙ sym (undone_push c.pop.new.self.items c.in-Some.version c.in-Some.part c.loop-version.self)
    ∙ ap (λ l. rolled_back l c.loop-version.self) (sym c.in-Some.ensures.items)
    ∙ c.loop-version.invariant
