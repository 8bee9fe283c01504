use Rattle.std.proofs.Common.{ℕ, List, ◌++◌, refl, ap, ◌∙◌}
use Rattle.hk_messages.specs.Replies.{reply_seen, reply_text}
use Rattle.hk_session_parts.specs.Said.{too_long}
use Rattle.hk_session_parts.proofs.SaidReplies.{refused_put, no_encoding}
use Rattle.hk_session_parts.proofs.sending.put_piece.Goals as goal

pub returns-in_ok-put_too_long-in_default : goal.returns-in_ok-put_too_long-in_default
returns-in_ok-put_too_long-in_default c =
    let r = c.args.reply.now in
    let text = reply_text (too_long (reply_seen r)) in
    record {
      ok = refused_put r c.args.from (too_long (reply_seen r)) c.args.out.now.items c.put_too_long.new.out.items c.requires (no_encoding r c.in-Err.why c.in-Err.ensures.why c.in_default.not-Memory) refl
          (c.in_ok-put_too_long-in_default.ensures.ok ∙ ap (λ (l : List ℕ). l ++ text) c.in-Err.ensures.err);
      err = tt;
    }
