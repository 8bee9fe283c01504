use Rattle.std.proofs.Common.{◌∙◌, sym}
use Rattle.hk_facts.proofs.ListedVersions.{only_until_none, only_ended, only_stays}
use Rattle.hk_facts.proofs.chain_form.drop_first.Goals as goal

pub returns-in_default : goal.returns-in_default
returns-in_default c = only_until_none c.args.first.now c.args.until c.in_default.is

pub returns-then-ended_by : goal.returns-then-ended_by
returns-then-ended_by c = only_ended c.args.first.now (c.in-Some._time, c.in-Some.version) c.in-Some.is c.args.until (sym c.ended_by.ensures ∙ c.if-ended_by.true)

pub returns-else-ended_by : goal.returns-else-ended_by
returns-else-ended_by c = let stays = only_stays c.args.first.now (c.in-Some._time, c.in-Some.version) c.in-Some.is c.args.until (sym c.ended_by.ensures ∙ c.if-ended_by.false) in stays
