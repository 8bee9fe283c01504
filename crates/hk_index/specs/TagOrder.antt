-- Tables and tags that tie are the same.
use Rattle.std.proofs.Common.{nat_cmp}
use Rattle.std.specs.FinMap as finmap
use Rattle.hk_model.proofs.Replica.Maps.{first_ties, second_ties, nat_ties}
use Rattle.hk_index.specs.Tags.{tag_key_cmp}

pub tag_key_same : finmap.IsAntisymmetric tag_key_cmp
tag_key_same x y e =
    let table = nat_ties x.table y.table (first_ties _ _ e) in
    let tag = nat_ties x.tag y.tag (second_ties (nat_cmp x.table y.table) _ e) in
    λ i. record { table = table i; tag = tag i }
