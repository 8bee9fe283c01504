-- Requests: their encoding and their reading.
use Rattle.std.specs.Prelude.{◌≡◌, ℕ, ◌^◌, ◌≤◌, Bool, true, ◌&&◌, nat_le, nat_lt, ◌==◌, if◌then◌else◌, List, [], ◌++◌, length, map, Option, Some, None, MatchOption, Result, Ok, Err, ◌⊎◌, false, ◌∷◌}
use Rattle.std.specs.List.{flat_map, AllByRecursion}
use Rattle.std.specs.Int.{w32, w64}
use Rattle.hk_types.specs.declared.faults.FormFault.{FormFault}
use Rattle.hk_types.specs.declared.faults.Refusal.{Refusal}
use Rattle.hk_types.specs.declared.faults.Refusal.TheVariants as refusals
use Rattle.hk_types.specs.declared.faults.FormFault.TheVariants.{BadCount, WrongLength, TooLong}
use Rattle.hk_log.specs.declared.item.Item.{Item}
use Rattle.hk_model.specs.declared.query.Query.{Query}
use Rattle.hk_frames.specs.Fields.{◌>>=◌, mapped, number, number_at, bytes_at, list_at}
use Rattle.hk_codec.specs.Encoding.{WrittenItem, IsWritten}
use Rattle.hk_codec.specs.Reading.{item_at}
use Rattle.hk_codec.specs.Frames.{frame_text, frame_at}
use Rattle.hk_frames.specs.Framing.{encoded, framed, BeginsAs, AddsValues, FormatOf}
use Rattle.hk_messages.specs.declared.request.Request.{Request}
use Rattle.hk_messages.specs.declared.request.Request.TheVariants as asked
use Rattle.hk_answers.specs.Readers.{Reader, both, fault_where, mapped_value, nothing, list_by, time_at}
use Rattle.hk_message_head.specs.Messages.{version_of, message_text, message_at}
use Rattle.hk_messages.specs.LaterRequests as later
use Rattle.hk_fragment_bytes.specs.Fragments.{WireFragment, wire_fragment_of, fragment_text, fragment_at, whole_at, FragmentFits, is_counted}
use Rattle.hk_answers.specs.Queries.{query_text, query_at, QueryFits}

-- a request, with items that are told so
pub data RequestOf (I : Type 0) : Type 0 where
  Items : List I → RequestOf I
  Front : RequestOf I
  Delta : ℕ → RequestOf I
  Full : RequestOf I
  Ask : ℕ → Query → RequestOf I
  JoinThis : WireFragment → RequestOf I
  MergeThis : WireFragment → RequestOf I
  Prune : ℕ → RequestOf I
  Feed : List I → RequestOf I
  Later : later.RequestValue → RequestOf I

-- the value of a `Request`
abbrev pub RequestValue : Type 0
RequestValue = RequestOf Item

-- a request, and the version that each of its item frames is written in
abbrev pub WrittenRequest : Type 0
WrittenRequest = RequestOf WrittenItem

-- the request with something else told of each item
abbrev pub with_items : {I J : Type 0} → (I → J) → RequestOf I → RequestOf J
with_items f (Items items) = Items (map f items)
with_items f Front = Front
with_items f (Delta base) = Delta base
with_items f Full = Full
with_items f (Ask t query) = Ask t query
with_items f (JoinThis fragment) = JoinThis fragment
with_items f (MergeThis fragment) = MergeThis fragment
with_items f (Prune horizon) = Prune horizon
with_items f (Feed items) = Feed (map f items)
with_items f (Later request) = Later request

-- the request, without the versions
abbrev pub request_meant : WrittenRequest → RequestValue
request_meant r = with_items (λ w. w.item) r

-- these items with frames of version 2
abbrev pub new_items : List Item → List WrittenItem
new_items items = map (λ item. record { version = 2; item = item }) items

-- their bytes, behind their count
abbrev pub items_text : List Item → List ℕ
items_text items = number w32 (length (new_items items)) ++ flat_map frame_text (new_items items)

-- the request with all of its item frames in version 2
abbrev pub newly_written : RequestValue → WrittenRequest
newly_written r = with_items (λ item. record { version = 2; item = item }) r

-- the value that a `Request` has
abbrev pub request_seen : Request → RequestValue
request_seen (asked.Items items) = Items items.items
request_seen asked.Front = Front
request_seen (asked.Delta base) = Delta base
request_seen asked.Full = Full
request_seen (asked.Ask t query) = Ask t query
request_seen (asked.JoinThis fragment) = JoinThis (wire_fragment_of fragment)
request_seen (asked.MergeThis fragment) = MergeThis (wire_fragment_of fragment)
request_seen (asked.Prune horizon) = Prune horizon
request_seen (asked.Feed items) = Feed items.items
request_seen (asked.Later request) = Later (later.request_seen request)

-- the kind byte of a request, which tells its version
abbrev pub request_kind : {I : Type 0} → RequestOf I → ℕ
request_kind (Items items) = 16
request_kind Front = 17
request_kind (Delta base) = 18
request_kind Full = 19
request_kind (Ask t query) = 20
request_kind (JoinThis fragment) = 21
request_kind (MergeThis fragment) = 22
request_kind (Prune horizon) = 23
request_kind (Feed items) = 58
request_kind (Later request) = later.request_kind request

-- its body
abbrev pub request_body : WrittenRequest → List ℕ
request_body (Items items) = number w32 (length items) ++ flat_map frame_text items
request_body Front = []
request_body (Delta base) = number w64 base
request_body Full = []
request_body (Ask t query) = number w64 t ++ query_text query
request_body (JoinThis fragment) = fragment_text fragment
request_body (MergeThis fragment) = fragment_text fragment
request_body (Prune horizon) = number w64 horizon
request_body (Feed items) = number w32 (length items) ++ flat_map frame_text items
request_body (Later request) = later.request_body request

-- the rest of its frame
unfoldable pub request_rest : WrittenRequest → List ℕ
request_rest r = message_text (request_kind r) (request_body r)

-- its encoding, with these versions of its item frames: the length of the rest, and the rest
abbrev pub request_text : WrittenRequest → List ℕ
request_text r = encoded request_rest r

-- whether a request keeps the rules of its kind
abbrev pub keeps_rules : {I : Type 0} → RequestOf I → Bool
keeps_rules (Items items) = nat_le (length items) 65536
keeps_rules Front = true
keeps_rules (Delta base) = true
keeps_rules Full = true
keeps_rules (Ask t query) = true
keeps_rules (JoinThis fragment) = is_counted fragment
keeps_rules (MergeThis fragment) = (fragment.base == 0) && is_counted fragment
keeps_rules (Prune horizon) = true
keeps_rules (Feed items) = nat_le (length items) 65536
keeps_rules (Later request) = later.keeps_rules request

-- whether a request has an encoding with these versions of its item frames: it keeps its rules, and its rest has at most 2^28 bytes
abbrev pub is_encodable : WrittenRequest → Bool
is_encodable r = keeps_rules r && nat_le (length (request_rest r)) 268435456

-- a request whose numbers fit their fields
abbrev pub RequestFits : WrittenRequest → Type 0
RequestFits (Items items) = AllByRecursion IsWritten items
RequestFits Front = Unit {0}
RequestFits (Delta base) = base ≤ 2 ^ 62
RequestFits Full = Unit {0}
RequestFits (Ask t query) = (t ≤ 2 ^ 62) × QueryFits query
RequestFits (JoinThis fragment) = FragmentFits fragment
RequestFits (MergeThis fragment) = FragmentFits fragment
RequestFits (Prune horizon) = horizon ≤ 2 ^ 62
RequestFits (Feed items) = AllByRecursion IsWritten items
RequestFits (Later request) = later.RequestFits request

-- what has an encoding
abbrev pub IsRequest : WrittenRequest → Type 0
IsRequest r = RequestFits r × (is_encodable r ≡ true)

-- what has an encoding, in a version up to the latest that is read
abbrev pub IsRequestUpTo : ℕ → WrittenRequest → Type 0
IsRequestUpTo latest r = IsRequest r × (version_of (request_kind r) ≤ latest)

-- a whole item frame, and the bytes after it
abbrev pub frame_taken : {I : Type 0} → Option (I × ℕ) → Reader I
frame_taken None bytes = Err WrongLength
frame_taken (Some frame) bytes = bytes_at frame.1 bytes >>= λ taken. Ok (frame.0, taken.1)

-- the item frame at the front; one that is not all there is of a wrong length
unfoldable pub item_frame_at : Reader WrittenItem
item_frame_at bytes = frame_at bytes >>= λ frame. frame_taken frame bytes

-- a count of items, at most 65,536
unfoldable pub item_count_at : Reader ℕ
item_count_at bytes = fault_where (number_at w32) (λ count. nat_lt 65536 count) BadCount bytes

-- items stand in any order
abbrev pub no_place : {I : Type 0} → I → Unit {0}
no_place item = tt

-- so many item frames
abbrev pub item_frames_at : ℕ → Option (Unit {0}) → Reader (List WrittenItem)
item_frames_at count before bytes = list_at no_place (λ _. item_frame_at) count before bytes

-- the items behind their count
unfoldable pub items_at : Reader (List WrittenItem)
items_at bytes = list_by item_count_at no_place (λ _. item_frame_at) bytes

-- the same without the versions of item frames: an item frame, so many of them, the items behind their count
unfoldable pub plain_frame_at : Reader Item
plain_frame_at bytes = framed 28 4233248 (λ rest. mapped (λ w. w.item) (item_at rest)) bytes >>= λ frame. frame_taken frame bytes

abbrev pub plain_frames_at : ℕ → Option (Unit {0}) → Reader (List Item)
plain_frames_at count before bytes = list_at no_place (λ _. plain_frame_at) count before bytes

unfoldable pub plain_items_at : Reader (List Item)
plain_items_at bytes = list_by item_count_at no_place (λ _. plain_frame_at) bytes

-- the body of a kind, where the items are read so
unfoldable pub request_of : {I : Type 0} → Reader (List I) → ℕ → Reader (RequestOf I)
request_of listed_at kind bytes =
    if kind == 16 then mapped_value (λ items. Items items) listed_at bytes
    else if kind == 17 then nothing Front bytes
    else if kind == 18 then mapped_value (λ base. Delta base) time_at bytes
    else if kind == 19 then nothing Full bytes
    else if kind == 20 then mapped_value (λ p. Ask p.0 p.1) (both time_at query_at) bytes
    else if kind == 21 then mapped_value (λ fragment. JoinThis fragment) fragment_at bytes
    else if kind == 22 then mapped_value (λ fragment. MergeThis fragment) whole_at bytes
    else if kind == 23 then mapped_value (λ horizon. Prune horizon) time_at bytes
    else if kind == 58 then mapped_value (λ items. Feed items) listed_at bytes
    else mapped_value (λ request. Later request) (later.request_of kind) bytes

-- the request of a version up to the latest that is read, which is all of the rest of a frame
unfoldable pub request_at : ℕ → List ℕ → Result WrittenRequest FormFault
request_at latest bytes = message_at latest (request_of items_at) bytes

-- the same without the versions of item frames
unfoldable pub plain_request_at : ℕ → List ℕ → Result RequestValue FormFault
plain_request_at latest bytes = message_at latest (request_of plain_items_at) bytes

-- The text begins with encodings of these requests, of versions up to the latest that is read, each item frame in version 1
-- or 2. After them comes less than a frame, which is left, or bytes with this fault.
abbrev pub ReadsRequests : ℕ → List ℕ → List Request → Result (List ℕ) FormFault → Type 0
ReadsRequests latest text requests left = BeginsAs request_seen request_meant 2 268435456 (request_at latest) request_rest (IsRequestUpTo latest) text requests left

-- how requests stand in rests
abbrev pub request_format : ℕ → FormatOf Request 2 268435456
request_format latest = record { Told = WrittenRequest; Seen = RequestValue; seen = request_seen; meant = request_meant; read = request_at latest; rest_text = request_rest; IsEncodable = IsRequestUpTo latest }

-- what is added to a list where this text is read so far
abbrev pub AddsRequests : ℕ → List Request → List Request → List ℕ → Result (List ℕ) FormFault → Type 0
AddsRequests latest before after text left = AddsValues request_seen request_meant 2 268435456 (request_at latest) request_rest (IsRequestUpTo latest) before after text left

-- the request, with its item frames in version 2, as `encode_request` writes it
abbrev pub as_written : Request → WrittenRequest
as_written request = newly_written (request_seen request)

-- the bytes of its encoding, and how many its rest has
abbrev pub text_of : Request → List ℕ
text_of request = request_text (as_written request)

abbrev pub rest_length : Request → ℕ
rest_length request = length (request_rest (as_written request))

-- how many bytes the rest of its frame has, where it has an encoding
abbrev pub IsLength : Request → Option ℕ → Type 0
IsLength request len = MatchOption len (is_encodable (as_written request) ≡ false) (λ n. (is_encodable (as_written request) ≡ true) × (n ≡ rest_length request))

-- a request was added at the end, as its encoding with item frames of version 2
abbrev pub Encodes : Request → List ℕ → List ℕ → Type 0
Encodes request before after = (is_encodable (as_written request) ≡ true) × (after ≡ before ++ request_text (as_written request))

-- the encoding is read as the request alone, wherever its version is read
abbrev pub ReadsBack : Request → Type 0
ReadsBack request = (latest : ℕ) → version_of (request_kind (as_written request)) ≤ latest → ReadsRequests latest (text_of request) (request ∷ []) (Ok [])

-- why a request was not added: it has no encoding with item frames of version 2, or memory ran out
abbrev pub IsRefusedAs : Request → Refusal → Type 0
IsRefusedAs request why =
    ((why ≡ refusals.Form TooLong) × (is_encodable (as_written request) ≡ false)) ⊎ ((why ≡ refusals.Memory) × (is_encodable (as_written request) ≡ true))
