-- What requests do at a node, by what they ask: it isn't seen in their kinds here.
use Rattle.std.specs.Prelude.{Bool, true, false}
use Rattle.hk_message_head.specs.declared.request_kinds.Does.{Does}
use Rattle.hk_message_head.specs.declared.request_kinds.Does.TheVariants.{Reads, Feeds, Changes}
use Rattle.hk_messages.specs.LaterRequests as later
use Rattle.hk_messages.specs.Requests.{RequestOf, Items, Front, Delta, Full, Ask, JoinThis, MergeThis, Prune, Feed, Later}

abbrev pub is_reads : Does → Bool
is_reads Reads = true
is_reads Feeds = false
is_reads Changes = false

abbrev pub is_changes : Does → Bool
is_changes Reads = false
is_changes Feeds = false
is_changes Changes = true

-- of version 2: what is told of a node, and what is waited for, change nothing; facts that come, and pins, change it
abbrev pub later_does : later.RequestValue → Does
later_does later.Streams = Reads
later_does (later.AskLatest query) = Reads
later_does (later.Page t table low high most) = Reads
later_does (later.Whole base most_bytes) = Reads
later_does later.More = Reads
later_does (later.AddPart facts) = Changes
later_does (later.JoinParts head) = Changes
later_does (later.MergeParts head) = Changes
later_does (later.Hold t) = Changes
later_does (later.Release hold) = Changes
later_does (later.Await t milliseconds) = Reads
later_does later.Stats = Reads
later_does later.Tables = Reads

-- of both versions
abbrev pub does_of : {I : Type 0} → RequestOf I → Does
does_of (Items items) = Feeds
does_of Front = Reads
does_of (Delta base) = Reads
does_of Full = Reads
does_of (Ask t query) = Reads
does_of (JoinThis fragment) = Changes
does_of (MergeThis fragment) = Changes
does_of (Prune horizon) = Changes
does_of (Feed items) = Feeds
does_of (Later request) = later_does request
