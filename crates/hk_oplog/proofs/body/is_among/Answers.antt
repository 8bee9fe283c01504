use Rattle.std.proofs.Common.{sym, ap, ◌∙◌}
use Rattle.hk_oplog.proofs.Pins.{among, is_time}
use Rattle.hk_oplog.proofs.body.is_among.Goals as goal

pub returns-in-Some : goal.returns-in-Some
returns-in-Some c = c.eq.ensures ∙ ap (is_time c.args.at) c.in-Some.ensures.value ∙ sym (among c.args.reader c.args.at c.args.holds.now.entries c.requires)

pub returns-in-None : goal.returns-in-None
returns-in-None c = ap (is_time c.args.at) c.in-None.ensures.value ∙ sym (among c.args.reader c.args.at c.args.holds.now.entries c.requires)
