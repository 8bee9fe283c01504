-- What is written for replies.
use Rattle.std.proofs.Common.{◌≡◌, ◌<◌, Bool, true, false, ℕ, List, ◌++◌, length, take, None, refl, sym, ap, ◌∙◌, inl, inr, arith}
use Rattle.std.proofs.lemmas.Bool.{le-leb}
use Rattle.std.proofs.lemmas.List.{length-append}
use Rattle.hk_types.specs.declared.faults.FormFault.{FormFault}
use Rattle.hk_types.specs.declared.faults.Refusal.{Refusal}
use Rattle.hk_types.specs.declared.faults.Refusal.TheVariants as refusals
use Rattle.hk_frames.specs.Framing.{encoded}
use Rattle.hk_codec.proofs.Lengths.{len32}
use Rattle.hk_messages.specs.declared.reply.Reply.{Reply}
use Rattle.hk_messages.specs.Replies.{ReplyValue, Refused, IsRefusedAs, reply_seen, reply_text, is_encodable}
use Rattle.hk_wire.specs.Pieces.{IsPlace}
use Rattle.hk_wire.specs.declared.reply_pieces.Place.{Place}
use Rattle.hk_messages.proofs.Lengths.{refused_len, reply_rest_len}
use Rattle.hk_session_parts.specs.Said.{PutsPiece, fault_reply, refused_text, reply_bytes, too_long}

fault_encoded : (f : FormFault) → is_encodable (Refused (refusals.Form f)) ≡ true
fault_encoded f = le-leb _ _ (omega (arith, reply_rest_len (Refused (refusals.Form f)), refused_len (refusals.Form f)))

pub faults_told : (f : FormFault) → reply_bytes (fault_reply f) ≡ refused_text f
faults_told f = rw (fault_encoded f) refl

some_text : (v : ReplyValue) → 0 < length (reply_text v)
unfolding encoded
some_text v = simp (length-append, len32) (omega arith)

refused_bytes : (r : Reply) → is_encodable (reply_seen r) ≡ false → reply_bytes r ≡ reply_text (too_long (reply_seen r))
refused_bytes r other = rw other refl

at_start : (v : ReplyValue) (p : Place) → IsPlace v p → is_encodable v ≡ false → p.bytes ≡ 0
at_start v p (inl is) other = is
at_start v p (inr at) other = absurd (not_both (is_encodable v) at.encodable other)
  where
    not_both : (b : Bool) → b ≡ true → b ≡ false → ⊥
    not_both b e f = cc

-- that a reply has no encoding is one piece
pub refused_put : (r : Reply) (p : Place) (v : ReplyValue) (before after : List ℕ) → IsPlace (reply_seen r) p → is_encodable (reply_seen r) ≡ false → v ≡ too_long (reply_seen r) → after ≡ before ++ reply_text v → PutsPiece r p.bytes None before after
refused_put r p v before after at other is added =
    let text = reply_text (too_long (reply_seen r)) in
    (text, added ∙ ap (λ (t : ReplyValue). before ++ reply_text t) is, ap (λ (n : ℕ). take n (reply_bytes r) ++ text) (at_start (reply_seen r) p at other) ∙ sym (refused_bytes r other), some_text (too_long (reply_seen r)))

-- of a reply that was refused
pub no_encoding : (r : Reply) (why : Refusal) → IsRefusedAs r why → (why ≡ refusals.Memory → ⊥) → is_encodable (reply_seen r) ≡ false
no_encoding r why (inl h) other = h.1
no_encoding r why (inr h) other = absurd (other h.0)
