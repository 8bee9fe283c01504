use Rattle.std.proofs.Common.{◌++◌, subst, IfSome}
use Rattle.std.specs.Vec.Iter.{into_iter_items}
use Rattle.hk_decode.specs.Parts.{HasRead, IsPart}
use Rattle.hk_decode.proofs.PartsRead.{part_more, first_of_all, others_of_all}
use Rattle.hk_decode.proofs.parallel.take_parts.Goals as goal

pub loop-span-preserved : goal.loop-span-preserved
loop-span-preserved c =
    let text = c.args.bytes.now in
    let olds = into_iter_items c.loop-span.span-iterator in
    let news = into_iter_items c.next.new.self in
    let it = c.in-Some.field-0 in
    let steps = c.in-Some.ensures.steps in
    let told = first_of_all (λ p. IfSome p.items (λ v. IsPart text p.span.start p.span.end v.items)) olds news it steps.0 c.loop-span.invariant.3 in
    let others = others_of_all (λ p. IfSome p.items (λ v. IsPart text p.span.start p.span.end v.items)) olds news it steps.0 c.loop-span.invariant.3 in
    let piece = subst (λ o. IfSome o (λ v. IsPart text it.span.start it.span.end v.items)) c.in-Some-items.is told in
    let more : HasRead text c.args.out.now.items (c.loop-span.out.items ++ c.in-Some-items.items.items) it.span.end =
    part_more text c.args.out.now.items c.loop-span.out.items c.loop-span.used it.span.start it.span.end c.in-Some-items.items.items c.loop-span.invariant.2 c.if-span-used.false piece in
    (tt, tt, rw c.in_ok-append.ensures.items more, others)
