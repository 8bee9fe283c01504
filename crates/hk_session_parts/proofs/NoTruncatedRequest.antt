-- No reader of the rest of a request answers that the input ends inside a frame: a feeder alone does, at the end.
use Rattle.std.proofs.Common.{not, ℕ, eqb, ltb, leb, List, length, Option, Some, None, Err, refl}
use Rattle.std.specs.Int.{w16, w32, w64}
use Rattle.hk_types.specs.declared.faults.FormFault.TheVariants.{Truncated, BadVersion, BadKind, BadCount, BadNumber, WrongLength}
use Rattle.hk_codec.specs.Encoding.{WrittenItem}
use Rattle.hk_codec.specs.Reading.{item_at}
use Rattle.hk_codec.specs.Frames.{frame_at}
use Rattle.hk_frames.specs.Fields.{check, byte_at, number_at, bytes_at}
use Rattle.hk_answers.specs.Readers.{both, time_at, positive_at}
use Rattle.hk_answers.specs.Queries.{query_at}
use Rattle.hk_fragment_bytes.specs.Fragments.{fragment_at, whole_at}
use Rattle.hk_fragment_bytes.specs.Parts.{head_at, whole_head_at, part_at}
use Rattle.hk_messages.specs.declared.request.Request.{Request}
use Rattle.hk_message_head.specs.Messages.{version_of, is_read, head_at as message_head_at, message_at}
use Rattle.hk_message_head.specs.Limits.{most_at, wait_at}
use Rattle.hk_messages.specs.LaterRequests.{page_at, change_of, request_of as later_request_of}
use Rattle.hk_messages.specs.Requests.{frame_taken, item_frame_at, item_count_at, no_place, items_at, request_seen, request_meant, request_rest, IsRequestUpTo, request_of, request_at, ReadsRequests}
use Rattle.hk_session_parts.proofs.NeverCut.{bind_whole, cond_whole, check_whole, Whole, framed_whole, never_cut}
use Rattle.hk_session_parts.proofs.NoTruncatedValue.{number_whole, byte_whole, bytes_whole, both_whole, barred_whole, made_whole, listed_whole, time_whole, item_whole, query_whole, fragment_whole, whole_whole, head_whole, whole_head_whole, part_whole, positive_whole}

-- ---- items

taken_whole : (frame : Option (WrittenItem × ℕ)) → Whole (frame_taken frame)
taken_whole None bytes = refl
taken_whole (Some frame) bytes = bind_whole (bytes_at frame.1 bytes) _ (bytes_whole frame.1 bytes) (λ _. refl)

pub item_frame_whole : Whole item_frame_at
unfolding item_frame_at
item_frame_whole bytes = bind_whole (frame_at bytes) _ (framed_whole 28 4233248 item_at item_whole bytes) (λ frame. taken_whole frame bytes)

pub items_whole : Whole items_at
unfolding items_at item_count_at
items_whole bytes = listed_whole item_count_at no_place (λ _. item_frame_at) (barred_whole (number_at w32) (λ count. ltb 65536 count) BadCount refl (number_whole w32)) (λ _. item_frame_whole) bytes

-- ---- requests of version 2

most_whole : Whole most_at
unfolding most_at
most_whole bytes = barred_whole (number_at w32) (λ n. eqb n 0) BadCount refl (number_whole w32) bytes

wait_whole : Whole wait_at
unfolding wait_at
wait_whole bytes = barred_whole (number_at w32) (λ n. not (leb n 600000)) BadNumber refl (number_whole w32) bytes

page_whole : Whole page_at
unfolding page_at
page_whole bytes =
    made_whole _ (both time_at (both (number_at w16) (both (number_at w64) (both (number_at w64) most_at))))
    (both_whole time_at (both (number_at w16) (both (number_at w64) (both (number_at w64) most_at))) time_whole
    (both_whole (number_at w16) (both (number_at w64) (both (number_at w64) most_at)) (number_whole w16)
    (both_whole (number_at w64) (both (number_at w64) most_at) (number_whole w64) (both_whole (number_at w64) most_at (number_whole w64) most_whole)))) bytes

change_whole : (kind : ℕ) → Whole (change_of kind)
unfolding change_of
change_whole kind bytes =
    cond_whole (eqb kind 53) _ _ (made_whole _ part_at part_whole bytes)
    (cond_whole (eqb kind 54) _ _ (made_whole _ head_at head_whole bytes)
    (cond_whole (eqb kind 55) _ _ (made_whole _ whole_head_at whole_head_whole bytes)
    (cond_whole (eqb kind 56) _ _ (made_whole _ time_at time_whole bytes)
    (cond_whole (eqb kind 57) _ _ (made_whole _ positive_at positive_whole bytes) refl))))

later_of_kind_whole : (kind : ℕ) → Whole (later_request_of kind)
unfolding later_request_of
later_of_kind_whole kind bytes =
    cond_whole (eqb kind 48) _ _ refl
    (cond_whole (eqb kind 49) _ _ (made_whole _ query_at query_whole bytes)
    (cond_whole (eqb kind 50) _ _ (page_whole bytes)
    (cond_whole (eqb kind 51) _ _ (made_whole _ (both time_at (number_at w32)) (both_whole time_at (number_at w32) time_whole (number_whole w32)) bytes)
    (cond_whole (eqb kind 52) _ _ refl
    (cond_whole (eqb kind 59) _ _ (made_whole _ (both time_at wait_at) (both_whole time_at wait_at time_whole wait_whole) bytes)
    (cond_whole (eqb kind 60) _ _ refl
    (cond_whole (eqb kind 61) _ _ refl (change_whole kind bytes))))))))

-- ---- requests

of_kind_whole : (kind : ℕ) → Whole (request_of items_at kind)
unfolding request_of
of_kind_whole kind bytes =
    cond_whole (eqb kind 16) _ _ (made_whole _ items_at items_whole bytes)
    (cond_whole (eqb kind 17) _ _ refl
    (cond_whole (eqb kind 18) _ _ (made_whole _ time_at time_whole bytes)
    (cond_whole (eqb kind 19) _ _ refl
    (cond_whole (eqb kind 20) _ _ (made_whole _ (both time_at query_at) (both_whole time_at query_at time_whole query_whole) bytes)
    (cond_whole (eqb kind 21) _ _ (made_whole _ fragment_at fragment_whole bytes)
    (cond_whole (eqb kind 22) _ _ (made_whole _ whole_at whole_whole bytes)
    (cond_whole (eqb kind 23) _ _ (made_whole _ time_at time_whole bytes)
    (cond_whole (eqb kind 58) _ _ (made_whole _ items_at items_whole bytes)
    (made_whole _ (later_request_of kind) (later_of_kind_whole kind) bytes)))))))))

-- ---- messages

message_head_whole : (latest : ℕ) → Whole (message_head_at latest)
unfolding message_head_at
message_head_whole latest bytes =
    bind_whole (byte_at bytes) _ (byte_whole bytes) (λ version.
    bind_whole (check (not (is_read latest version.0)) BadVersion) _ (check_whole _ BadVersion refl) (λ _.
    bind_whole (byte_at version.1) _ (byte_whole version.1) (λ kind.
    bind_whole (check (not (eqb (version_of kind.0) version.0)) BadKind) _ (check_whole _ BadKind refl) (λ _. refl))))

request_whole : (latest : ℕ) → Whole (request_at latest)
unfolding request_at message_at
request_whole latest bytes =
    bind_whole (message_head_at latest bytes) _ (message_head_whole latest bytes) (λ kind.
    bind_whole (request_of items_at kind.0 kind.1) _ (of_kind_whole kind.0 kind.1) (λ x.
    bind_whole (check (ltb 0 (length x.1)) WrongLength) _ (check_whole _ WrongLength refl) (λ _. refl)))

pub requests_never_cut : (latest : ℕ) (text : List ℕ) (requests : List Request) → ReadsRequests latest text requests (Err Truncated) → ⊥
requests_never_cut latest = never_cut request_seen request_meant 2 268435456 (request_at latest) request_rest (IsRequestUpTo latest) (request_whole latest)
