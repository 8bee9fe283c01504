-- A time since which a node asks another one is one that it can read.
use Rattle.std.proofs.Common.{◌≡◌, ℕ, ◌≤◌, min, Bool, true, false, if◌then◌else◌, Ok, Err, subst}
use Rattle.hk_types.specs.declared.faults.Refusal.TheVariants.{Damaged}
use Rattle.hk_model.specs.declared.front.Front.{Front}
use Rattle.hk_model.specs.Replica.Content.{readable}
use Rattle.hk_oplog.specs.NodeContent.{NodeContent}
use Rattle.hk_oplog.specs.Replies.{node_front}
use Rattle.hk_follow.specs.Following.{IsBase}

pub base_is : (c : NodeContent) (front : Front) (t : ℕ) → node_front c ≡ Ok front → t ≤ front.readable → min front.horizon front.readable ≤ t → IsBase c t
base_is c front t e most least = by c.damaged e
  where
    by : (d : Bool) → (if d then Err Damaged else Ok (record { horizon = c.content.horizon; readable = readable c.content })) ≡ Ok front → IsBase c t
    by true e = absurd cc
    by false e =
        let same : front ≡ record { horizon = c.content.horizon; readable = readable c.content } = cc in
        (subst (λ (f : Front). t ≤ f.readable) same most, subst (λ (f : Front). min f.horizon f.readable ≤ t) same least)
