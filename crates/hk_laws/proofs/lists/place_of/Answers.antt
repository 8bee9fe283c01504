use Rattle.std.proofs.Common.{◌≡◌, sym, ap, ◌∙◌, ◌<◌, length, arith}
use Rattle.hk_model.specs.World.Worlds.{at_number}
use Rattle.hk_laws.proofs.AtNumber.{numbered_zero, numbered_past}
use Rattle.hk_laws.proofs.lists.place_of.Goals as goal

pub returns-then-number-eq0 : goal.returns-then-number-eq0
returns-then-number-eq0 c =
    let none : c.args.number ≡ 0 = omega (arith, c.from-number.ensures) in
    ap (at_number c.args.replicas.now) none ∙ sym (numbered_zero c.args.replicas.now)

pub returns-then-replicas-number : goal.returns-then-replicas-number
returns-then-replicas-number c =
    let past : length c.args.replicas.now < c.args.number = omega (arith, c.from-number.ensures) in
    numbered_past c.args.replicas.now c.args.number past
