use Rattle.std.proofs.Common.{All, IfSome}
use Rattle.std.specs.Vec.Iter.{into_iter_items}
use Rattle.hk_decode.specs.Parts.{HasRead, IsPart}
use Rattle.hk_decode.proofs.parallel.take_parts.Given as goal

abbrev pub invariant-loop-span : goal.invariant-loop-span
invariant-loop-span l =
    (goal.iterator-loop-span).can_next l.span-iterator ×
    (goal.iterator-loop-span).is_finite l.span-iterator ×
    HasRead l.bytes l.fn.out.items l.out.items l.used ×
    All (λ p. IfSome p.items (λ v. IsPart l.bytes p.span.start p.span.end v.items)) (into_iter_items l.span-iterator)
