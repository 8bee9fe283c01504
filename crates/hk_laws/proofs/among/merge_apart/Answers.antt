use Rattle.std.proofs.Common.{sym, subst, List, length, ◌<◌, ◌++◌, set, arith}
use Rattle.hk_model.specs.Replica.Content.{Content}
use Rattle.hk_laws.proofs.MergeOfTwo.{merges_among, into_low, into_high}
use Rattle.hk_laws.proofs.among.merge_apart.Goals as goal

pub returns-then-to-from : goal.returns-then-to-from
returns-then-to-from c =
    let low = c.split_at_mut-low.result.0.now in
    let high = c.split_at_mut-low.result.1.now in
    let before : c.args.to < length low = omega (arith, c.split_at_mut-low.ensures.front_len) in
    let some : 0 < length high = omega (arith, c.split_at_mut-low.ensures.back_len, c.requires.source) in
    subst (λ (rs : List Content). merges_among rs c.args.to c.args.from (set low c.args.to c.merge.new.state ++ high) c.merge.result) (sym c.split_at_mut-low.ensures.value)
    (into_low low high c.index-low-to.result c.index-high-0.result c.merge.new.state c.merge.result c.args.to c.args.from c.split_at_mut-low.ensures.front_len before some c.merge.ensures)

pub returns : goal.returns
returns c =
    let low = c.split_at_mut-low-2.result.0.now in
    let high = c.split_at_mut-low-2.result.1.now in
    let before : c.args.from < length low = omega (arith, c.split_at_mut-low-2.ensures.front_len, c.requires.apart) in
    let some : 0 < length high = omega (arith, c.split_at_mut-low-2.ensures.back_len, c.requires.target) in
    subst (λ (rs : List Content). merges_among rs c.args.to c.args.from (low ++ set high 0 c.merge-2.new.state) c.merge-2.result) (sym c.split_at_mut-low-2.ensures.value)
    (into_high low high c.index-high-0-2.result c.index-low-from.result c.merge-2.new.state c.merge-2.result c.args.to c.args.from c.split_at_mut-low-2.ensures.front_len before some c.merge-2.ensures)
