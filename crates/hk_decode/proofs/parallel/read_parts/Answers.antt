use Rattle.std.proofs.Common.{IfSome}
use Rattle.rayon.proofs.ListFacts.{IfOk-then}
use Rattle.hk_decode.specs.Parts.{IsPart}
use Rattle.hk_decode.proofs.PartsRead.{all_right}
use Rattle.hk_decode.proofs.parallel.read_parts.Goals as goal

pub returns : goal.returns
returns g c =
    IfOk-then c.collect.result _ _ c.collect.ensures (λ v h.
    let chain = rw (c.map.ensures.base, c.map.ensures.f) at h.1 in
    rw h.2 (all_right (λ p. IfSome p.items (λ v. IsPart c.args.bytes.now p.span.start p.span.end v.items)) chain.0 h.0 chain.2))
