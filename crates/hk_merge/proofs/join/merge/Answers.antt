use Rattle.std.proofs.Common.{subst}
use Rattle.hk_model.specs.Replica.Fragments.{FragmentValue}
use Rattle.hk_merge.specs.Calls.{Joins, Merges}
use Rattle.hk_merge.proofs.JoinRefusals.{whole_is, merges_of}
use Rattle.hk_merge.proofs.join.merge.Goals as goal

pub returns : goal.returns
returns c =
    let t = c.args.target.now in
    let p = c.args.peer.now in
    let g : Merges t c.join_sent.new.target p c.join_sent.result = subst (λ (f : FragmentValue). Joins t c.join_sent.new.target f c.join_sent.result) (whole_is p c.horizon-lawful.ensures.lawful) c.join_sent.ensures in
    record { gives = g; represents = merges_of t c.join_sent.new.target p c.join_sent.result g }
