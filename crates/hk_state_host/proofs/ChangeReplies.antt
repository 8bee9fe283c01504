-- A change that was settled, beside the host before it.
use Rattle.std.proofs.Common.{◌≡◌, ℕ, ◌^◌, ◌<◌, ◌≤◌, Bool, ◌&&◌, nat_lt, is_ok, cond, List, Result, Ok, Err, IsOk, true≢false, sym, ap, subst, inl, inr}
use Rattle.std.proofs.lemmas.Bool.{lt-ltb, cases_lt}
use Rattle.hk_types.specs.OrMemory.{ChangesOrMemory}
use Rattle.hk_types.specs.declared.faults.Refusal.{Refusal}
use Rattle.hk_types.specs.declared.faults.Refusal.TheVariants as refusals
use Rattle.hk_model.specs.Replica.Content.{Content}
use Rattle.hk_model.specs.Replica.Rules.{gather_result}
use Rattle.hk_log.specs.declared.item.Item.{Item}
use Rattle.hk_delta.specs.Joins.{JoinsItems}
use Rattle.hk_messages.specs.declared.reply.Reply.{Reply}
use Rattle.hk_messages.specs.Replies.{Refused}
use Rattle.hk_state_host.specs.Values.{HostValue}
use Rattle.hk_state_host.specs.Steps.{config_of, change_reply, change_may_lack, change_step, joined_if, IsGiven, Changes}

-- the middle one is the host before, with another state
pub settled_is : (takes : Bool) (h mid : HostValue) (given : Result Content Refusal) (r : Reply) (new : HostValue) → h.ops < 2 ^ 62 → mid ≡ record h { content = mid.content }
    → IsGiven takes (record mid { content = h.content }) (change_reply (record mid { content = h.content }) given) r new → IsGiven (change_may_lack h takes) h (change_step h given) r new
settled_is takes h mid given r new lt same told =
    let back : record mid { content = h.content } ≡ h = ap (λ (m : HostValue). record m { content = h.content }) same in
    let held : IsGiven takes h (change_reply h given) r new = subst (λ (m : HostValue). IsGiven takes m (change_reply m given) r new) back told in
    subst (λ (b : Bool). IsGiven (b && takes) h (cond b (change_reply h given) (Refused refusals.NodeFull, h)) r new) (sym (lt-ltb h.ops (2 ^ 62) lt)) held

-- what a join or a prune leaves and answers
pub left_so : (old new : Content) (given : Result Content Refusal) (r : Result (Unit {0}) Refusal) → ChangesOrMemory old new given r → Changes (is_ok given) old new given r
left_so old new given (Ok done) h = h
left_so old new given (Err why) h = (
  h.0,
  elim h.1 [
    | inl e ↦ inl e
    | inr m ↦ inr (m.0, ap is_ok m.1.1)
  ],
)

-- what a prune leaves and answers, which takes no memory where the horizon stays
pub pruned_so : (old new : Content) (horizon : ℕ) (given : Result Content Refusal) (r : Result (Unit {0}) Refusal) → (horizon ≤ old.horizon → IsOk r) → ChangesOrMemory old new given r
    → Changes (nat_lt old.horizon horizon && is_ok given) old new given r
pruned_so old new horizon given (Ok done) below h = h
pruned_so old new horizon given (Err why) below h = (
  h.0,
  elim h.1 [
    | inl e ↦ inl e
    | inr m ↦ inr (
      m.0,
      elim (cases_lt old.horizon horizon) [
        | inl lt ↦ (λ i. lt-ltb old.horizon horizon lt i && ap is_ok m.1.1 i)
        | inr le ↦ absurd (true≢false (sym (below le)))
      ],
    )
  ],
)

-- what a join of items leaves and answers
pub joined_so : (old new : Content) (items : List Item) (r : Result (Unit {0}) Refusal) → JoinsItems old new items r
    → Changes (is_ok (gather_result (config_of old) items)) old new (joined_if old (gather_result (config_of old) items)) r
joined_so old new items (Ok done) h = h
joined_so old new items (Err why) h = h
