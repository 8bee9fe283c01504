-- Requests to join a fragment, whichever of the two it is, and to take items.
use Rattle.std.proofs.Common.{ℕ, ◌≡◌, ◌⊎◌, inl, inr, refl, sym, ap, subst, List, Result, Ok, Err}
use Rattle.hk_types.specs.declared.faults.Refusal.{Refusal}
use Rattle.hk_log.specs.declared.item.Item.{Item}
use Rattle.hk_model.specs.Replica.Fragments.{FragmentValue}
use Rattle.hk_model.specs.Replica.Rules.{gather_result}
use Rattle.hk_delta.specs.Gathers.{Gathers}
use Rattle.hk_messages.specs.declared.request.Request.{Request}
use Rattle.hk_messages.specs.declared.request.Request.TheVariants.{Items, Front, Delta, Full, Ask, JoinThis, MergeThis, Prune, Feed, Later}
use Rattle.hk_messages.specs.Replies.{ReplyValue, Refused}
use Rattle.hk_oplog.specs.declared.op.NodeKind.{NodeKind}
use Rattle.hk_oplog.specs.declared.op.Op.{Op}
use Rattle.hk_oplog.specs.declared.op.Op.TheVariants.{Join}
use Rattle.hk_seats.specs.Replying.{IsChangeReply, IsFeeding, IsItemsReply, IsReading, IsReplyTo}

pub joined_is : (kind : NodeKind) (old new : List Op) (request : Request) (f : FragmentValue) (reply : ReplyValue) → (request ≡ JoinThis f) ⊎ (request ≡ MergeThis f)
    → IsChangeReply kind old new (Join f) reply → IsReplyTo kind old new request reply
joined_is kind old new request f reply (inl is) told = subst (λ (q : Request). IsReplyTo kind old new q reply) (sym is) told
joined_is kind old new request f reply (inr is) told = subst (λ (q : Request). IsReplyTo kind old new q reply) (sym is) told

-- items are answered as the join of the fragment that they make
pub items_joined : (kind : NodeKind) (old new : List Op) (items : List Item) (f : FragmentValue) (reply : ReplyValue) → gather_result kind.config items ≡ Ok f
    → IsChangeReply kind old new (Join f) reply → IsItemsReply kind old new (gather_result kind.config items) reply
items_joined kind old new items f reply is told = subst (λ (r : Result FragmentValue Refusal). IsItemsReply kind old new r reply) (sym is) (inl told)

-- items that make no fragment, or that memory ran out for, are refused
pub items_refused : (kind : NodeKind) (old : List Op) (items : List Item) (why : Refusal) → Gathers kind.config items (Err why) → IsItemsReply kind old old (gather_result kind.config items) (Refused why)
items_refused kind old items why (inl is) = subst (λ (r : Result FragmentValue Refusal). IsItemsReply kind old old r (Refused why)) (sym is) (refl, refl)
items_refused kind old items why (inr lacks) = subst (λ (r : Result FragmentValue Refusal). IsItemsReply kind old old r (Refused why)) (sym lacks.1.1) (inr (ap Refused lacks.0, refl))

-- a request that changes nothing is answered as by a host that only reads
pub read_is : (kind : NodeKind) (old new : List Op) (request : Request) (reply : ReplyValue)
    → ((items : _) → request ≡ Items items → ⊥) → ((items : _) → request ≡ Feed items → ⊥) → ((f : _) → request ≡ JoinThis f → ⊥) → ((f : _) → request ≡ MergeThis f → ⊥)
    → ((horizon : ℕ) → request ≡ Prune horizon → ⊥) → IsReading old new request reply → IsReplyTo kind old new request reply
read_is kind old new (Items items) reply no_items no_feed no_join no_merge no_prune told = absurd (no_items items refl)
read_is kind old new Front reply no_items no_feed no_join no_merge no_prune told = told
read_is kind old new (Delta base) reply no_items no_feed no_join no_merge no_prune told = told
read_is kind old new Full reply no_items no_feed no_join no_merge no_prune told = told
read_is kind old new (Ask t query) reply no_items no_feed no_join no_merge no_prune told = told
read_is kind old new (JoinThis f) reply no_items no_feed no_join no_merge no_prune told = absurd (no_join f refl)
read_is kind old new (MergeThis f) reply no_items no_feed no_join no_merge no_prune told = absurd (no_merge f refl)
read_is kind old new (Prune horizon) reply no_items no_feed no_join no_merge no_prune told = absurd (no_prune horizon refl)
read_is kind old new (Feed items) reply no_items no_feed no_join no_merge no_prune told = absurd (no_feed items refl)
read_is kind old new (Later r) reply no_items no_feed no_join no_merge no_prune told = told

-- a request that a feeding host has a meaning for is answered as by a host over the node
pub fed_is : (kind : NodeKind) (old new : List Op) (request : Request) (reply : ReplyValue)
    → ((f : _) → request ≡ JoinThis f → ⊥) → ((f : _) → request ≡ MergeThis f → ⊥) → ((horizon : ℕ) → request ≡ Prune horizon → ⊥) → ((r : _) → request ≡ Later r → ⊥)
    → IsReplyTo kind old new request reply → IsFeeding kind old new request reply
fed_is kind old new (Items items) reply no_join no_merge no_prune no_later told = told
fed_is kind old new Front reply no_join no_merge no_prune no_later told = told
fed_is kind old new (Delta base) reply no_join no_merge no_prune no_later told = told
fed_is kind old new Full reply no_join no_merge no_prune no_later told = told
fed_is kind old new (Ask t query) reply no_join no_merge no_prune no_later told = told
fed_is kind old new (JoinThis f) reply no_join no_merge no_prune no_later told = absurd (no_join f refl)
fed_is kind old new (MergeThis f) reply no_join no_merge no_prune no_later told = absurd (no_merge f refl)
fed_is kind old new (Prune horizon) reply no_join no_merge no_prune no_later told = absurd (no_prune horizon refl)
fed_is kind old new (Feed items) reply no_join no_merge no_prune no_later told = told
fed_is kind old new (Later r) reply no_join no_merge no_prune no_later told = absurd (no_later r refl)
