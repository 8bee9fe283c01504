-- The table of kinds says of each request what it does.
use Rattle.std.proofs.Common.{◌≡◌, refl}
use Rattle.std.specs.Prelude.{Some}
use Rattle.hk_message_head.specs.Kinds.{does_at}
use Rattle.hk_messages.specs.LaterRequests as later
use Rattle.hk_messages.specs.Requests.{RequestOf, Items, Front, Delta, Full, Ask, JoinThis, MergeThis, Prune, Feed, Later, request_kind}
use Rattle.hk_messages.specs.Doing.{does_of, later_does}

pub later_kind_does : (r : later.RequestValue) → does_at (later.request_kind r) ≡ Some (later_does r)
later_kind_does later.Streams = refl
later_kind_does (later.AskLatest query) = refl
later_kind_does (later.Page t table low high most) = refl
later_kind_does (later.Whole base most_bytes) = refl
later_kind_does later.More = refl
later_kind_does (later.AddPart facts) = refl
later_kind_does (later.JoinParts head) = refl
later_kind_does (later.MergeParts head) = refl
later_kind_does (later.Hold t) = refl
later_kind_does (later.Release hold) = refl
later_kind_does (later.Await t milliseconds) = refl
later_kind_does later.Stats = refl
later_kind_does later.Tables = refl

pub kind_does : {I : Type 0} (r : RequestOf I) → does_at (request_kind r) ≡ Some (does_of r)
kind_does (Items items) = refl
kind_does Front = refl
kind_does (Delta base) = refl
kind_does Full = refl
kind_does (Ask t query) = refl
kind_does (JoinThis fragment) = refl
kind_does (MergeThis fragment) = refl
kind_does (Prune horizon) = refl
kind_does (Feed items) = refl
kind_does (Later request) = later_kind_does request
