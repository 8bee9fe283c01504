-- What is appended of a reply that is kept, and how many bytes replies have.
use Rattle.std.proofs.Common.{◌≡◌, ℕ, ◌+◌, ◌*◌, ◌≤◌, Bool, true, false, cond, List, [], ◌∷◌, ◌++◌, length, take, drop, Option, Some, None, Result, option_to_list, inl, inr, subst, sym, ap, ◌∙◌, refl, append_assoc, append-nil, arith}
use Rattle.std.specs.Int.{w32}
use Rattle.std.proofs.Math.Seq.{take-nil}
use Rattle.std.proofs.lemmas.List.{length-append, take-append-drop}
use Rattle.std.proofs.lemmas.List.Concat.{flat_map-cons}
use Rattle.hk_types.specs.declared.faults.FormFault.{FormFault}
use Rattle.hk_types.specs.declared.faults.FormFault.TheVariants.{TooLong}
use Rattle.hk_types.specs.declared.faults.Refusal.TheVariants as refusals
use Rattle.hk_frames.specs.Fields.{number}
use Rattle.hk_frames.specs.Framing.{encoded}
use Rattle.hk_codec.proofs.Lengths.{len32}
use Rattle.hk_messages.specs.declared.request.Request.{Request}
use Rattle.hk_messages.specs.declared.reply.Reply.{Reply}
use Rattle.hk_wire.specs.declared.reply_pieces.Place.{Place}
use Rattle.hk_messages.specs.Replies.{ReplyValue, Later, reply_seen, reply_text, reply_body, reply_rest, is_encodable}
use Rattle.hk_messages.proofs.Lengths.{refused_len, reply_rest_len}
use Rattle.hk_wire.proofs.ReplyPieces.{text_size}
use Rattle.hk_session_parts.specs.Said.{IsKeptAt, PutsPiece, reply_bytes, too_long}
use Rattle.hk_session_parts.specs.Transcript.{replies_bytes}
use Rattle.hk_session_parts.specs.Sessions.{SessionValue, kept_bytes, begun_bytes, AppendsKept}
use Rattle.hk_session_parts.proofs.Transcripts.{replies_bytes-both, one_said}

pub nothing_kept : (s : SessionValue) → s.kept ≡ None → begun_bytes s ≡ []
nothing_kept s none = ap (λ (k : Option Reply). take s.begun (replies_bytes (option_to_list k))) none ∙ take-nil s.begun

pub nothing_begun : (s : SessionValue) → s.begun ≡ 0 → begun_bytes s ≡ []
nothing_begun s none = ap (λ (n : ℕ). take n (kept_bytes s)) none

pub begun_same : (s t : SessionValue) → t.kept ≡ s.kept → t.begun ≡ s.begun → begun_bytes s ≡ begun_bytes t
begun_same s t kept begun =
    ap (λ (k : Option Reply). take s.begun (replies_bytes (option_to_list k))) (sym kept) ∙ ap (λ (n : ℕ). take n (kept_bytes t)) (sym begun)

-- what is told is told further
pub told_behind : (text mid more later : List ℕ) (said next : List Reply) → text ≡ replies_bytes said ++ mid → mid ++ more ≡ replies_bytes next ++ later → text ++ more ≡ replies_bytes (said ++ next) ++ later
told_behind text mid more later said next e f =
    ap (λ (t : List ℕ). t ++ more) e ∙ append_assoc (replies_bytes said) mid more ∙ ap (λ (t : List ℕ). replies_bytes said ++ t) f ∙ sym (append_assoc (replies_bytes said) (replies_bytes next) later) ∙ ap (λ (t : List ℕ). t ++ later) (sym (replies_bytes-both said next))

pub both_told : (begun more mid next later : List ℕ) (said others : List Reply) → begun ++ more ≡ replies_bytes said ++ mid → mid ++ next ≡ replies_bytes others ++ later → begun ++ (more ++ next) ≡ replies_bytes (said ++ others) ++ later
both_told begun more mid next later said others e f = sym (append_assoc begun more next) ∙ told_behind (begun ++ more) mid next later said others e f

-- ---- a piece

-- nothing was appended where no reply is kept
pub none_appended : (s : SessionValue) (place : Place) (out : List ℕ) → s.kept ≡ None → s.begun ≡ place.bytes → IsKeptAt s.kept place → AppendsKept s s out out
none_appended s place out none is at =
    let start : place.bytes ≡ 0 = subst (λ (k : Option Reply). IsKeptAt k place) none at in
    record { said = []; kept = refl; more = []; added = sym (append-nil out); told = append-nil (begun_bytes s); same = refl; piece = inl none; left = λ some. absurd (omega (arith, some, is, start)) }

kept_is : (kept : Option Reply) (r : Reply) → kept ≡ Some r → replies_bytes (option_to_list kept) ≡ reply_bytes r
kept_is kept r is = ap (λ (k : Option Reply). replies_bytes (option_to_list k)) is ∙ one_said r

-- a piece of a reply was appended, and not the last
pub piece_appended : (requests : List Request) (left : Result (List ℕ) FormFault) (kept : Option Reply) (r : Reply) (place next : Place) (o : Option Place) (out new : List ℕ) → kept ≡ Some r → o ≡ Some next → PutsPiece r place.bytes o out new
    → AppendsKept (record { requests = requests; left = left; kept = kept; begun = place.bytes }) (record { requests = requests; left = left; kept = kept; begun = next.bytes }) out new
piece_appended requests left kept r place next o out new is on h =
    let p = subst (λ (q : Option Place). PutsPiece r place.bytes q out new) on h in
    let told = subst (λ (t : List ℕ). take place.bytes t ++ p.1.0 ≡ take next.bytes t) (sym (kept_is kept r is)) p.1.2 in
    record { said = []; kept = refl; more = p.1.0; added = p.1.1; told = told; same = refl; piece = inr p.1.3; left = λ _. omega (arith, p.1.3) }

-- the last piece of a reply was appended
pub whole_appended : (requests : List Request) (left : Result (List ℕ) FormFault) (kept : Option Reply) (r : Reply) (place : Place) (n : ℕ) (o : Option Place) (out new : List ℕ) → kept ≡ Some r → o ≡ None → PutsPiece r place.bytes o out new
    → AppendsKept (record { requests = requests; left = left; kept = kept; begun = place.bytes }) (record { requests = requests; left = left; kept = None; begun = n }) out new
whole_appended requests left kept r place n o out new is on h =
    let p = subst (λ (q : Option Place). PutsPiece r place.bytes q out new) on h in
    let all = replies_bytes (option_to_list kept) in
    let told = subst (λ (t : List ℕ). take place.bytes t ++ p.0 ≡ t) (sym (kept_is kept r is)) p.2 in
    record { said = option_to_list kept; kept = sym (append-nil (option_to_list kept)); more = p.0; added = p.1; told = told ∙ sym (append-nil all) ∙ ap (λ (t : List ℕ). all ++ t) (sym (take-nil n)); same = refl; piece = inl refl; left = λ _. p.3 }

-- ---- sizes

refused_size : (v : ReplyValue) → length (reply_text (too_long v)) ≤ 268435460
unfolding encoded
refused_size v = omega (arith, length-append (number w32 (length (reply_rest (too_long v)))) (reply_rest (too_long v)), len32 (length (reply_rest (too_long v))), reply_rest_len (too_long v), refused_body v)
  where
    refused_body : (v : ReplyValue) → length (reply_body (too_long v)) ≡ 17
    refused_body (Later r) = refused_len (refusals.Form TooLong)
    refused_body other = refused_len (refusals.Form TooLong)

one_size : (b : Bool) (r : ReplyValue) → is_encodable r ≡ b → length (cond b (reply_text r) (reply_text (too_long r))) ≤ 268435460
one_size true r known = text_size r known
one_size false r known = refused_size r

reply_size : (r : Reply) → length (reply_bytes r) ≤ 268435460
reply_size r = one_size (is_encodable (reply_seen r)) (reply_seen r) refl

pub replies_size : (rs : List Reply) → length (replies_bytes rs) ≤ 268435460 * length rs
replies_size [] = omega arith
replies_size (r ∷ rs) = omega (arith, reply_size r, replies_size rs, ap length (flat_map-cons reply_bytes r rs), length-append (reply_bytes r) (replies_bytes rs))

-- what is appended of a reply, and what is not
pub parts_size : (n : ℕ) (text : List ℕ) → length (take n text) + length (drop n text) ≡ length text
parts_size n text = sym (length-append (take n text) (drop n text)) ∙ ap length (take-append-drop n text)
