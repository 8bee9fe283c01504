use Rattle.std.proofs.Common.{sym}
use Rattle.hk_facts.proofs.ListedVersions.{found, absent}
use Rattle.hk_facts.proofs.list.version_in.Goals as goal

pub returns-in-Ok : goal.returns-in-Ok
returns-in-Ok c = sym (found c.args.list.now c.args.born c.in-Ok.place c.index-list-place.result c.requires c.in-Ok.ensures.found)

pub returns-in-Err : goal.returns-in-Err
returns-in-Err c = sym (absent c.args.list.now c.args.born c.in-Err._place c.in-Err.ensures.between)
