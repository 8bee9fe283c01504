-- What is encoded is read back, and a text is read in one way.
use Rattle.std.proofs.Common.{◌≡◌, refl, sym, ap, subst, ◌∙◌, ℕ, leb, List, [], ◌∷◌, ◌++◌, length, map, Result, Ok, inr}
use Rattle.std.specs.List.{flat_map, AllByRecursion}
use Rattle.std.proofs.lemmas.List.{length-map, map-append}
use Rattle.std.proofs.lemmas.List.Folds.{flat_map-map}
use Rattle.hk_log.specs.declared.item.Item.{Item}
use Rattle.hk_codec.specs.Encoding.{WrittenItem, IsEncodableItem, IsWritten}
use Rattle.hk_codec.specs.Frames.{frame_text, encoding_of}
use Rattle.hk_types.specs.declared.faults.FormFault.{FormFault}
use Rattle.hk_frames.specs.Framing.{Begins, AddsBy}
use Rattle.hk_frames.proofs.FrameStream.{one_value_begins, one_reading_only, one_reading_as, pieces_join_up}
use Rattle.hk_messages.specs.declared.request.Request.{Request}
use Rattle.hk_messages.specs.declared.reply.Reply.{Reply}
use Rattle.hk_messages.specs.Requests.{RequestValue, Items, Front, Delta, Full, Ask, JoinThis, MergeThis, Prune, Feed, Later, new_items, newly_written, keeps_rules, request_seen, request_meant, as_written, request_at, request_rest, IsRequest, IsRequestUpTo, ReadsRequests, ReadsBack}
use Rattle.hk_messages.specs.Replies.{ReplyValue, reply_seen, reply_at, reply_rest, reply_text, IsReply, ReadsReplies, AddsReplies, reply_format}
use Rattle.hk_messages.proofs.RequestsReadAgain.{requests_up_to}
use Rattle.hk_messages.proofs.RepliesReadAgain.{replies_are_sound}

-- ---- messages by their values

same_list : {Y : Type 0} (ys : List Y) → map (λ (y : Y). y) ys ≡ ys
same_list [] = refl
same_list {Y = Y} (y ∷ ys) = ap (λ (l : List Y). y ∷ l) (same_list ys)

-- ---- requests

keeps_as_many : (n m : ℕ) → n ≡ m → leb n 65536 ≡ leb m 65536
keeps_as_many n m e = ap (λ (k : ℕ). leb k 65536) e

-- the versions of item frames are no matter to the rules
pub keeps_same : (r : RequestValue) → keeps_rules (newly_written r) ≡ keeps_rules r
keeps_same (Items items) = keeps_as_many (length (new_items items)) (length items) (length-map items _)
keeps_same Front = refl
keeps_same (Delta base) = refl
keeps_same Full = refl
keeps_same (Ask t query) = refl
keeps_same (JoinThis fragment) = refl
keeps_same (MergeThis fragment) = refl
keeps_same (Prune horizon) = refl
keeps_same (Feed items) = keeps_as_many (length (new_items items)) (length items) (length-map items _)
keeps_same (Later request) = refl

items_meant : (items : List Item) → map (λ (w : WrittenItem). w.item) (new_items items) ≡ items
items_meant [] = refl
items_meant (i ∷ items) = ap (λ (l : List Item). i ∷ l) (items_meant items)

-- written anew, a request is seen as it is
pub newly_meant : (r : RequestValue) → request_meant (newly_written r) ≡ r
newly_meant (Items items) = ap (λ (l : List Item). Items l) (items_meant items)
newly_meant Front = refl
newly_meant (Delta base) = refl
newly_meant Full = refl
newly_meant (Ask t query) = refl
newly_meant (JoinThis fragment) = refl
newly_meant (MergeThis fragment) = refl
newly_meant (Prune horizon) = refl
newly_meant (Feed items) = ap (λ (l : List Item). Feed l) (items_meant items)
newly_meant (Later request) = refl

pub new_items_text : (items : List Item) → flat_map frame_text (new_items items) ≡ flat_map (encoding_of 2) items
new_items_text items = flat_map-map frame_text _ items

pub new_items_fit : (items : List Item) → AllByRecursion IsEncodableItem items → AllByRecursion IsWritten (new_items items)
new_items_fit [] h = tt
new_items_fit (i ∷ items) h = ((inr refl, h.0), new_items_fit items h.1)

one_seen : (r : Request) → request_seen r ∷ [] ≡ request_meant (as_written r) ∷ []
one_seen r = ap (λ (v : RequestValue). v ∷ []) (sym (newly_meant (request_seen r)))

pub request_begins : (r : Request) → IsRequest (as_written r) → ReadsBack r
request_begins r h latest within = (as_written r ∷ [], one_seen r, one_value_begins 2 268435456 (request_at latest) request_rest (IsRequestUpTo latest) (as_written r) (h, within))

pub requests_read : (latest : ℕ) (text : List ℕ) (xs ys : List Request) (l r : Result (List ℕ) FormFault) → ReadsRequests latest text xs l → ReadsRequests latest text ys r → (map request_seen xs ≡ map request_seen ys) × (l ≡ r)
requests_read latest = one_reading_as request_seen request_meant 2 268435456 (request_at latest) request_rest (IsRequestUpTo latest) (requests_up_to latest)

-- ---- replies

pub reply_begins : (r : Reply) → IsReply (reply_seen r) → ReadsReplies (reply_text (reply_seen r)) (r ∷ []) (Ok [])
reply_begins r h = one_value_begins 2 268435456 reply_at reply_rest IsReply (reply_seen r) h

pub replies_read : (text : List ℕ) (xs ys : List Reply) (l r : Result (List ℕ) FormFault) → ReadsReplies text xs l → ReadsReplies text ys r → (map reply_seen xs ≡ map reply_seen ys) × (l ≡ r)
replies_read text xs ys l r h k =
    one_reading_only 2 268435456 reply_at reply_rest IsReply replies_are_sound text (map reply_seen xs) (map reply_seen ys) l r h k

pub replies_join : (text more left : List ℕ) (xs ys : List Reply) (r : Result (List ℕ) FormFault) → ReadsReplies text xs (Ok left) → ReadsReplies (left ++ more) ys r → ReadsReplies (text ++ more) (xs ++ ys) r
replies_join text more left xs ys r h k =
    subst (λ (l : List ReplyValue). Begins 2 268435456 reply_at reply_rest IsReply (text ++ more) l r) (sym (map-append reply_seen xs ys))
    (pieces_join_up 2 268435456 reply_at reply_rest IsReply text more left (map reply_seen xs) (map reply_seen ys) r h k)

pub replies_added : (before after : List Reply) (text : List ℕ) (left : Result (List ℕ) FormFault) → AddsBy reply_format before after text left → AddsReplies before after text left
replies_added before after text left h =
    let told : h.2.0 ≡ map reply_seen h.0 = sym (same_list h.2.0) ∙ sym h.2.1 in
    (h.0, h.1, subst (λ (l : List ReplyValue). Begins 2 268435456 reply_at reply_rest IsReply text l left) told h.2.2)
