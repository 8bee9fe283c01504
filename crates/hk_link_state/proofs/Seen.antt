-- What a seat has seen after a session begins with what it had seen before.
use Rattle.std.proofs.Common.{ℕ, Option, ◌≡◌, List, [], ◌∷◌, ◌++◌, sym, ap, ◌∙◌, append_assoc, append-nil}
use mathlib.Core.List.{IsPrefix}
use Rattle.hk_messages.specs.declared.request.Request.{Request}
use Rattle.hk_messages.specs.declared.reply.Reply.{Reply}
use Rattle.hk_session_parts.specs.declared.ended.Ended.{Ended}
use Rattle.hk_session_parts.specs.Transcript.{Answers, Ends, SessionStep}
use Rattle.hk_link_state.specs.NodeSides.{GoesOn, Sided}

pub same_prefix : {A : Type 0} (xs ys : List A) → ys ≡ xs → IsPrefix xs ys
same_prefix xs ys same = ([], append-nil xs ∙ sym same)

pub then_prefix : {A : Type 0} (xs ys zs : List A) → IsPrefix xs ys → IsPrefix ys zs → IsPrefix xs zs
then_prefix xs ys zs p q = (p.0 ++ q.0, sym (append_assoc xs p.0 q.0) ∙ (ap (λ w. w ++ q.0) p.1 ∙ q.1))

-- where each reply leaves a list that begins with the one before, a session does
pub goes_seen : {S : Type 0} (side : Sided S) (may : S → Request → Reply → S → Type 0) → GoesOn side may → (old new : S) (qs : List Request) (rs : List Reply) → Answers may old qs rs new → IsPrefix (side.list old) (side.list new)
goes_seen side may goes old new [] [] same = same_prefix (side.list old) (side.list new) (ap side.list same)
goes_seen side may goes old new (q ∷ qs) (r ∷ rs) h = then_prefix (side.list old) (side.list h.0) (side.list new) (goes old q r h.0 h.1) (goes_seen side may goes h.0 new qs rs h.2)
goes_seen side may goes old new [] (r ∷ rs) h = absurd h
goes_seen side may goes old new (q ∷ qs) [] h = absurd h

pub goes_step : {S : Type 0} (side : Sided S) (may : S → Request → Reply → S → Type 0) → GoesOn side may → (old new : S) (before after : Option (List ℕ)) (bytes : List ℕ) (e : Ended)
    → SessionStep may old new before after bytes (Ends 1 e) → IsPrefix (side.list old) (side.list new)
goes_step side may goes old new before after bytes e step = goes_seen side may goes old new step.requests step.replies step.answers
