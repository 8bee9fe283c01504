use Rattle.hk_codec.proofs.ListLoops.{written}
use Rattle.hk_codec.proofs.list_encoding.put_groups.Goals as goal

pub returns-in-None-clause-ok : goal.returns-in-None-clause-ok
returns-in-None-clause-ok g c = written g.E.Elements.place g.E.Elements.text _ _ _ c.groups.rest.now c.groups.invariant c.in-None.ensures
