use Rattle.std.proofs.Common.{◌∙◌, ap, sym}
use Rattle.std.specs.FinMap as finmap
use Rattle.hk_facts.specs.Listed.{listed}
use Rattle.hk_facts.proofs.ListedVersions.{absent, nothing_there}
use Rattle.hk_facts.proofs.few.Few.forget.Goals as goal

pub returns-in_default : goal.returns-in_default
returns-in_default c = rw (← c.self.view_is) (nothing_there (listed c.self.inside.versions.items) c.args.born c.args.part (ap (λ es. finmap.get (listed es) c.args.born) (sym c.deref.ensures.value) ∙ absent c.deref.result.now c.args.born c.in_default.field-0 c.in_default.ensures.between))
