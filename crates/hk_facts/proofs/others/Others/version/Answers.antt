use Rattle.std.proofs.Common.{sym, ◌∙◌}
use Rattle.hk_facts.proofs.PartedChains.{get_there, get_end}
use Rattle.hk_facts.proofs.others.Others.version.Goals as goal

pub returns-in-Some : goal.returns-in-Some
returns-in-Some c = rw (← c.self.view_is) (get_there c.self.inside.rows c.self.inside.ends c.args.born _ c.in-Some.ensures)

pub returns-in-None : goal.returns-in-None
returns-in-None c = rw (← c.self.view_is) (c.version-in-None.ensures ∙ sym (get_end c.self.inside.rows c.self.inside.ends c.args.born (sym c.in-None.ensures)))
