-- What a session over a host does.
use Rattle.std.specs.Prelude.{ℕ, List, Option}
use Rattle.hk_session_parts.specs.declared.ended.Ended.{Ended}
use Rattle.hk_session_parts.specs.Serving.{Serves}
use Rattle.hk_session_parts.specs.Values.{CountedValue}
use Rattle.hk_messages.specs.declared.request.Request.{Request}
use Rattle.hk_messages.specs.declared.reply.Reply.{Reply}

-- a session of a host in version 1, which is given back
abbrev pub ServesHost : {S R W : Type 0} → (S → Request → Reply → S → Type 0) → S → (R → Option (List ℕ)) → CountedValue R → CountedValue R → (W → Option (List ℕ)) → CountedValue W → CountedValue W → Ended × S → Type 0
ServesHost may host remaining reader reader_after contents old new result = Serves 1 may host result.1 remaining reader reader_after contents old new result.0
