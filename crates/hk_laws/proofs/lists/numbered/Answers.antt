use Rattle.std.proofs.Common.{sym, ap, ◌∙◌, ◌<◌, arith}
use Rattle.hk_model.specs.World.Worlds.{at_number}
use Rattle.hk_laws.proofs.AtNumber.{numbered_zero, numbered_got}
use Rattle.hk_laws.proofs.lists.numbered.Goals as goal

pub returns-then-number-eq0 : goal.returns-then-number-eq0
returns-then-number-eq0 g c = numbered_zero c.args.list.now ∙ ap (at_number c.args.list.now) (sym c.if-number-eq0.true)

pub returns : goal.returns
returns g c =
    let above : 0 < c.args.number = omega arith in
    numbered_got c.args.list.now c.args.number c.get.result above c.get.ensures.lookup.1 c.get.ensures.lookup.3
