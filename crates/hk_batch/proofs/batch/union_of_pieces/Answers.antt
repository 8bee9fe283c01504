use Rattle.std.proofs.Common.{◌≡◌, sym, subst, ◌∙◌, take, length, arith}
use Rattle.hk_batch.proofs.Pieces.{IsBuilding, of_config, pieces_of, begun, next_is, further, built, none_left}
use Rattle.hk_batch.proofs.batch.union_of_pieces.Goals as goal

pub loop-part-init : goal.loop-part-init
loop-part-init g c =
    let config = c.args.config in
    let size = c.div_ceil-size.result in
    let items = c.args.items.now in
    let all = c.in_ok-parts.parts.items in
    let pieces = pieces_of config size c.args.workers items all c.remove.new.self.items c.remove.result c.requires.some c.div_ceil-size.ensures c.in_ok-parts.ensures.len c.in_ok-parts.ensures.each c.remove.ensures.value c.remove.ensures.items in
    subst (IsBuilding config size items c.in_ok-whole.whole) (sym c.into_iter-part-iterator.ensures.into_iter_gives.0) (begun config size items c.remove.result c.remove.new.self.items c.in_ok-whole.whole pieces c.in_ok-whole.was)

pub union-requires-clause-own : goal.union-requires-clause-own
union-requires-clause-own g c = (of_config c.args.config c.loop-part.invariant.done c.loop-part.whole c.loop-part.invariant.gathered).zero

pub union-requires-clause-coming : goal.union-requires-clause-coming
union-requires-clause-coming g c =
    let b = subst (IsBuilding c.args.config c.div_ceil-size.result c.args.items.now c.loop-part.whole) c.in-Some.ensures.steps.0 c.loop-part.invariant in
    (of_config c.args.config (take c.div_ceil-size.result b.left) c.in_ok-part.field-0 (next_is c.args.config c.div_ceil-size.result c.args.items.now c.loop-part.whole c.in_ok-part.field-0 c.in-Some.part c.next.new.self.rest.items b c.in_ok-part.was)).zero

pub union-requires-clause-log : goal.union-requires-clause-log
union-requires-clause-log g c =
    let b = subst (IsBuilding c.args.config c.div_ceil-size.result c.args.items.now c.loop-part.whole) c.in-Some.ensures.steps.0 c.loop-part.invariant in
    (of_config c.args.config (take c.div_ceil-size.result b.left) c.in_ok-part.field-0 (next_is c.args.config c.div_ceil-size.result c.args.items.now c.loop-part.whole c.in_ok-part.field-0 c.in-Some.part c.next.new.self.rest.items b c.in_ok-part.was)).log
    ∙ sym (of_config c.args.config c.loop-part.invariant.done c.loop-part.whole c.loop-part.invariant.gathered).log

pub union-requires-clause-streams : goal.union-requires-clause-streams
union-requires-clause-streams g c =
    let b = subst (IsBuilding c.args.config c.div_ceil-size.result c.args.items.now c.loop-part.whole) c.in-Some.ensures.steps.0 c.loop-part.invariant in
    (of_config c.args.config c.loop-part.invariant.done c.loop-part.whole c.loop-part.invariant.gathered).streams
    ∙ sym (of_config c.args.config (take c.div_ceil-size.result b.left) c.in_ok-part.field-0 (next_is c.args.config c.div_ceil-size.result c.args.items.now c.loop-part.whole c.in_ok-part.field-0 c.in-Some.part c.next.new.self.rest.items b c.in_ok-part.was)).streams

pub loop-part-preserved : goal.loop-part-preserved
loop-part-preserved g c =
    let config = c.args.config in
    let size = c.div_ceil-size.result in
    let items = c.args.items.now in
    let b = subst (IsBuilding config size items c.loop-part.whole) c.in-Some.ensures.steps.0 c.loop-part.invariant in
    let next = next_is config size items c.loop-part.whole c.in_ok-part.field-0 c.in-Some.part c.next.new.self.rest.items b c.in_ok-part.was in
    further config size items c.loop-part.whole c.union.new.into c.in-Some.part c.next.new.self.rest.items b (c.in_ok-union.ensures.gathered config b.done (take size b.left) b.gathered next)

pub returns : goal.returns
returns g c =
    let end : length c.loop-part.part-iterator.rest.items ≡ 0 = omega (arith, c.loop-part.part-iterator.rest.ok, c.in-None.ensures.steps.0) in
    built c.args.config c.div_ceil-size.result c.args.items.now c.loop-part.whole
    (subst (IsBuilding c.args.config c.div_ceil-size.result c.args.items.now c.loop-part.whole) (none_left c.loop-part.part-iterator.rest.items end) c.loop-part.invariant)
