-- What a session over a node does in both versions.
use Rattle.std.specs.Prelude.{ℕ, List, Option}
use Rattle.hk_session_parts.specs.declared.ended.Ended.{Ended}
use Rattle.hk_session_parts.specs.Serving.{Serves}
use Rattle.hk_session_parts.specs.Values.{CountedValue}
use Rattle.hk_messages.specs.declared.request.Request.{Request}
use Rattle.hk_messages.specs.declared.reply.Reply.{Reply}
use Rattle.hk_link_state.specs.LaterReplying.{AreLetGo, MayReplyBoth}
use Rattle.hk_link_state.specs.LinkStates.{LinkStateValue, LinkValue}
use Rattle.hk_link_state.specs.NodeSides.{Sided}

-- how the session of a link ended, the host for version 1 after it, and what the next link keeps: the holds that stand
abbrev pub LinkOutcome : Type 0 → Type 0
LinkOutcome S = Ended × S × LinkStateValue

-- a session of a link in both versions: each of the holds that the link has at its end is then asked to be released, and no other,
-- and those that the node hands back are left
abbrev pub Runs : {S R W : Type 0} → (S → Request → Reply → S → Type 0) → Sided S → LinkValue S → (R → Option (List ℕ)) → CountedValue R → CountedValue R
    → (W → Option (List ℕ)) → CountedValue W → CountedValue W → LinkOutcome S → Type 0
Runs {S} may side link remaining reader reader_after contents old new result =
    (last : LinkValue S) × Serves 2 (MayReplyBoth side may) link last remaining reader reader_after contents old new result.0
    × AreLetGo side.may_release last.inner last.holds result.1 result.2.holds
