use Rattle.std.proofs.Common.{◌∙◌, sym}
use Rattle.hk_facts.proofs.ListedVersions.{only_absent, only_other, only_left, only_gone, same_birth, other_birth}
use Rattle.hk_facts.proofs.chain_form.forget_first.Goals as goal

pub returns-in_default : goal.returns-in_default
returns-in_default c = only_absent c.args.first.now c.args.born c.args.part c.in_default.is

pub returns-then-ne : goal.returns-then-ne
returns-then-ne c = only_other c.args.first.now (c.in-Some.time, c.in-Some.version) c.in-Some.is c.args.born c.args.part (other_birth c.in-Some.time c.args.born (sym c.ne.ensures ∙ c.if-ne.true))

pub returns-then-take_back : goal.returns-then-take_back
returns-then-take_back c = only_left c.args.first.now (c.in-Some.time, c.in-Some.version) c.in-Some.is c.args.born (same_birth c.in-Some.time c.args.born (sym c.ne.ensures ∙ c.if-ne.false)) c.args.part c.take_back.new.version c.if-take_back.ensures.left

pub returns : goal.returns
returns c = only_gone c.args.first.now (c.in-Some.time, c.in-Some.version) c.in-Some.is c.args.born (same_birth c.in-Some.time c.args.born (sym c.ne.ensures ∙ c.if-ne.false)) c.args.part c.if-take_back.ensures.gone
