-- A list that follows another one carries what both carry.
use Rattle.std.proofs.Common.{◌≡◌, ◌⊎◌, inl, inr, ℕ, ◌<◌, ◌≤◌, max, Bool, true, false, if◌then◌else◌, List, [], ◌∷◌, ◌++◌, Ok, Err, refl, sym, ap, ◌∙◌, subst, arith}
use Rattle.std.specs.Prelude.{nat_lt}
use Rattle.std.proofs.lemmas.Bool.Decides.{nat_tests}
use Rattle.hk_types.specs.Values.{ConfigValue}
use Rattle.hk_types.specs.declared.faults.Refusal.TheVariants.{TooOld, Damaged}
use Rattle.hk_log.specs.declared.item.Item.{Item}
use Rattle.hk_model.specs.History.Histories.{History, IsHistory}
use Rattle.hk_model.specs.Replica.Content.{Content, readable}
use Rattle.hk_model.specs.Replica.ContentOf.{content_of}
use Rattle.hk_model.specs.Replica.Fragments.{FragmentValue, cut, part}
use Rattle.hk_model.specs.Replica.Replicas.{Represents}
use Rattle.hk_model.proofs.Replica.Lowered.{lowered as lowered_part}
use Rattle.hk_fragment.specs.Parts.{lowered}
use Rattle.hk_oplog.specs.declared.op.Op.{Op}
use Rattle.hk_oplog.specs.declared.op.Op.TheVariants.{Start, Join, Merge, Prune, Hold as HoldAt, Release}
use Rattle.hk_oplog.specs.NodeContent.{NodeContent}
use Rattle.hk_oplog.specs.Carried.{IsPart, Brings, Carries}
use Rattle.hk_oplog.specs.Replay.{config_of, content_after_op, is_legal, prune_reach, replay}
use Rattle.hk_oplog.specs.Replies.{node_delta, node_whole}
use Rattle.hk_oplog.proofs.Carries.{carry_law_proof}
use Rattle.hk_follow.specs.Following.{IsFit, IsGivenBy, FollowLaw}

-- what a node gives is cut of what it holds, at 0 or at a time that it can read
delta_gives : (c : NodeContent) (r : ℕ) (f : FragmentValue) → node_delta c r ≡ Ok f → (f ≡ cut c.content r) × (c.content.horizon ≤ r)
delta_gives c r f e = by c.damaged (nat_lt r c.content.horizon) refl e
  where
    by : (x y : Bool) → nat_lt r c.content.horizon ≡ y → (if x then Err Damaged else if y then Err (TooOld c.content.horizon) else Ok (cut c.content r)) ≡ Ok f → (f ≡ cut c.content r) × (c.content.horizon ≤ r)
    by true y s e = absurd cc
    by false true s e = absurd cc
    by false false s e = (cc, grind (arith, nat_tests))

whole_gives : (c : NodeContent) (f : FragmentValue) → node_whole c ≡ Ok f → f ≡ cut c.content 0
whole_gives c f e = by c.damaged e
  where
    by : (x : Bool) → (if x then Err Damaged else Ok (cut c.content 0)) ≡ Ok f → f ≡ cut c.content 0
    by true e = absurd cc
    by false e = cc

module _ (config : ConfigValue) (history : History) (is : IsHistory config history) (items : List Item) where
  -- a part of items that are represented, at its own horizon or a lower one
  part_at : (k h r : ℕ) (c : Content) → Represents config history items k c → h ≤ k → (r ≡ 0) ⊎ (h ≤ r) → IsPart config history items h (part config items h r)
  part_at k h r c s under base =
      let reach : k ≤ readable (content_of config items k) = subst (λ (x : Content). k ≤ readable x) s.is_content_of s.within in
      record { of_history = s.of_history; within = omega arith; base = base; is_part = refl }

  -- what is joined of it
  part_joined : (k r : ℕ) (c : Content) (joined : FragmentValue) → Represents config history items k c → (r ≡ 0) ⊎ (k ≤ r) → IsFit (part config items k r) joined → (h : ℕ) × (h ≤ k) × IsPart config history items h joined
  part_joined k r c joined s base (inl e) = (k, omega arith, subst (IsPart config history items k) (sym e) (part_at k k r c s (omega arith) base))
  part_joined k r c joined s (inl zero) (inr (above, low, e)) = absurd (omega arith)
  part_joined k r c joined s (inr near) (inr (above, low, e)) = by (nat_lt low k) refl e
    where
      by : (b : Bool) → nat_lt low k ≡ b → joined ≡ (if b then record (part config items k r) { content = record (part config items k r).content { horizon = low } } else part config items k r) → (h : ℕ) × (h ≤ k) × IsPart config history items h joined
      by true t e =
          let under : low ≤ k = grind (arith, nat_tests) in
          (low, under, subst (IsPart config history items low) (sym (e ∙ lowered_part config history is items s.of_history low k r under near)) (part_at k low r c s under (inr (omega arith))))
      by false t e = (k, omega arith, subst (IsPart config history items k) (sym e) (part_at k k r c s (omega arith) (inr near)))

module _ (config : ConfigValue) (history : History) (items : List Item) (k : ℕ) (f : FragmentValue) (p : IsPart config history items k f) where
  -- one join more
  appended : (c : NodeContent) (ops : List Op) (own all : List Item) (g h : ℕ) → Brings config history c ops own g all h → Brings config history c (ops ++ Join f ∷ []) own g (all ++ items) (max h k)
  appended c [] own all g h b = (items, k, p, (ap (λ (z : List Item). z ++ items) b.0, ap (λ (n : ℕ). max n k) b.1))
  appended c (Start other ∷ ops) own all g h b = absurd b
  appended c (Join x ∷ ops) own all g h b = (b.0, b.1, b.2, appended (content_after_op c (Join x)) ops (own ++ b.0) all (max g b.1) h b.3)
  appended c (Merge x ∷ ops) own all g h b = (b.0, b.1, b.2, appended (content_after_op c (Merge x)) ops (own ++ b.0) all (max g b.1) h b.3)
  appended c (Prune t ∷ ops) own all g h b = appended (content_after_op c (Prune t)) ops own all (max g (prune_reach c t)) h b
  appended c (HoldAt at ∷ ops) own all g h b = appended (content_after_op c (HoldAt at)) ops own all g h b
  appended c (Release r t ∷ ops) own all g h b = appended (content_after_op c (Release r t)) ops own all g h b

joined_to : (history : History) (own : List Op) (ours items : List Item) (g k : ℕ) (f : FragmentValue) → is_legal own ≡ true → Carries history own ours g → IsPart (config_of own) history items k f → Carries history (own ++ Join f ∷ []) (ours ++ items) (max g k)
joined_to history [] ours items g k f legal b p = absurd (cc)
joined_to history (Start kind ∷ ops) ours items g k f legal b p = appended kind.config history items k f p _ ops [] ours 0 g b
joined_to history (Join x ∷ ops) ours items g k f legal b p = absurd (cc)
joined_to history (Merge x ∷ ops) ours items g k f legal b p = absurd (cc)
joined_to history (Prune t ∷ ops) ours items g k f legal b p = absurd (cc)
joined_to history (HoldAt at ∷ ops) ours items g k f legal b p = absurd (cc)
joined_to history (Release r t ∷ ops) ours items g k f legal b p = absurd (cc)

-- what a node gives whose content represents items is a part of them
given_part : (config : ConfigValue) (history : History) (items : List Item) (k r : ℕ) (c : NodeContent) (f : FragmentValue) → Represents config history items k c.content → (node_delta c r ≡ Ok f) ⊎ (node_whole c ≡ Ok f) → (s : ℕ) × ((s ≡ 0) ⊎ (k ≤ s)) × (f ≡ part config items k s)
given_part config history items k r c f s (inl e) =
    let d = delta_gives c r f e in
    let low : k ≤ r = subst (λ (x : Content). x.horizon ≤ r) s.is_content_of d.1 in
    (r, inr low, d.0 ∙ ap (λ (x : Content). cut x r) s.is_content_of)
given_part config history items k r c f s (inr e) = (0, inl refl, whole_gives c f e ∙ ap (λ (x : Content). cut x 0) s.is_content_of)

pub follow_law_proof : FollowLaw
follow_law_proof history up own theirs ours k g r f joined legal mine same is carried has given fit =
    let is_up : IsHistory (config_of up) history = subst (λ (c : ConfigValue). IsHistory c history) (sym same) is in
    let s = carry_law_proof history up theirs k legal is_up carried in
    let q = given_part (config_of up) history theirs k r (replay up) f s.0 given in
    let w = part_joined (config_of up) history is_up theirs k q.0 (replay up).content joined s.0 q.1 (subst (λ (x : FragmentValue). IsFit x joined) q.2 fit) in
    (w.0, w.1, joined_to history own ours theirs g w.0 joined mine has (subst (λ (c : ConfigValue). IsPart c history theirs w.0 joined) same w.2))
