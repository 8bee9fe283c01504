-- Which requests a host that only reads has no meaning for.
use Rattle.std.proofs.Common.{ℕ, ◌≡◌, refl, List}
use Rattle.hk_oplog.specs.declared.op.Op.{Op}
use Rattle.hk_messages.specs.declared.request.Request.{Request}
use Rattle.hk_messages.specs.declared.request.Request.TheVariants.{Items, Front, Delta, Full, Ask, JoinThis, MergeThis, Prune, Feed, Later}
use Rattle.hk_messages.specs.Replies.{ReplyValue}
use Rattle.hk_model.specs.declared.query.Query.{Query}
use Rattle.hk_seats.specs.Replying.{IsNoChange, IsReading}

-- a request that is no reading one has no meaning for a host that only reads
pub no_reading_is : (old new : List Op) (request : Request) (reply : ReplyValue)
    → (request ≡ Front → ⊥) → ((base : ℕ) → request ≡ Delta base → ⊥) → (request ≡ Full → ⊥) → ((t : ℕ) (query : Query) → request ≡ Ask t query → ⊥)
    → IsNoChange old new reply → IsReading old new request reply
no_reading_is old new (Items items) reply no_front no_delta no_full no_ask told = told
no_reading_is old new Front reply no_front no_delta no_full no_ask told = absurd (no_front refl)
no_reading_is old new (Delta base) reply no_front no_delta no_full no_ask told = absurd (no_delta base refl)
no_reading_is old new Full reply no_front no_delta no_full no_ask told = absurd (no_full refl)
no_reading_is old new (Ask t query) reply no_front no_delta no_full no_ask told = absurd (no_ask t query refl)
no_reading_is old new (JoinThis f) reply no_front no_delta no_full no_ask told = told
no_reading_is old new (MergeThis f) reply no_front no_delta no_full no_ask told = told
no_reading_is old new (Prune horizon) reply no_front no_delta no_full no_ask told = told
no_reading_is old new (Feed items) reply no_front no_delta no_full no_ask told = told
no_reading_is old new (Later r) reply no_front no_delta no_full no_ask told = told
