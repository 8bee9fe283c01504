-- What a seat has seen after a session in both versions begins with what it had seen before.
use Rattle.std.proofs.Common.{ℕ, Option, ap, subst, sym, List, [], ◌∷◌, ◌≡◌}
use mathlib.Core.List.{IsPrefix}
use Rattle.hk_messages.specs.declared.request.Request.{Request}
use Rattle.hk_messages.specs.declared.reply.Reply.{Reply}
use Rattle.hk_session_parts.specs.declared.ended.Ended.{Ended}
use Rattle.hk_session_parts.specs.Transcript.{Answers, Ends, SessionStep}
use Rattle.hk_oplog.specs.declared.op.Op.{Op}
use Rattle.hk_link_state.specs.LaterReplying.{MayReplyBoth}
use Rattle.hk_link_state.specs.LinkStates.{LinkValue}
use Rattle.hk_link_state.specs.NodeSides.{Sided}
use Rattle.hk_link_state.proofs.Seen.{same_prefix, then_prefix}

pub both_seen : {S : Type 0} (side : Sided S) (may : S → Request → Reply → S → Type 0) (old new : LinkValue S) (qs : List Request) (rs : List Reply)
    → Answers (MayReplyBoth side may) old qs rs new → IsPrefix (side.list old.inner) (side.list new.inner)
both_seen side may old new [] [] same = same_prefix (side.list old.inner) (side.list new.inner) (ap (λ (l : LinkValue _). side.list l.inner) same)
both_seen side may old new (q ∷ qs) (r ∷ rs) h = then_prefix (side.list old.inner) (side.list h.0.inner) (side.list new.inner) h.1.0 (both_seen side may h.0 new qs rs h.2)
both_seen side may old new [] (r ∷ rs) h = absurd h
both_seen side may old new (q ∷ qs) [] h = absurd h

-- so it is of the host that is handed back, once the holds of the link are let go
pub both_step : {S : Type 0} (side : Sided S) (may : S → Request → Reply → S → Type 0) (link last : LinkValue S) (back : S) (before after : Option (List ℕ)) (bytes : List ℕ) (e : Ended)
    → SessionStep (MayReplyBoth side may) link last before after bytes (Ends 2 e) → IsPrefix (side.list last.inner) (side.list back) → IsPrefix (side.list link.inner) (side.list back)
both_step side may link last back before after bytes e step goes =
    then_prefix (side.list link.inner) (side.list last.inner) (side.list back) (both_seen side may link last step.requests step.replies step.answers) goes

-- and of the seat from which the host was made, and of that which it gives back
pub seat_seen : (seat host after back : List Op) → host ≡ seat → back ≡ after → IsPrefix host after → IsPrefix seat back
seat_seen seat host after back made given goes = subst (λ (s : List Op). IsPrefix s back) made (subst (λ (s : List Op). IsPrefix host s) (sym given) goes)
