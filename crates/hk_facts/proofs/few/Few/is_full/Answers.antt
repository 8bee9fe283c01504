use Rattle.std.proofs.Common.{◌∙◌, ap, sym, nat_le}
use Rattle.hk_facts.proofs.ListedVersions.{many_listed}
use Rattle.hk_facts.proofs.few.Few.is_full.Goals as goal

pub returns : goal.returns
returns c = rw (← c.self.view_is) (ap (nat_le 32) (c.len.ensures ∙ c.self.inside.versions.ok.0 ∙ sym (many_listed c.self.inside.versions.items c.self.invariant.0)))
