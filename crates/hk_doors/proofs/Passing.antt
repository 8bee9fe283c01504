-- Which requests pass, by the table of kinds, and how long they are.
use Rattle.std.proofs.Common.{◌≡◌, ◌≢◌, ℕ, ◌+◌, ◌<◌, ◌≤◌, Bool, true, false, Some, nat_lt, length, refl, sym, ap, ◌∙◌, arith}
use Rattle.std.proofs.lemmas.Bool.Decides.{nat_tests}
use Rattle.hk_model.specs.declared.query.Query.{Query}
use Rattle.hk_model.specs.declared.query.Query.TheVariants.{Get, Range, ByTag, Count}
use Rattle.hk_answers.specs.Queries.{query_text}
use Rattle.hk_answers.proofs.Lengths.{get_len, range_len, by_tag_len, count_len}
use Rattle.hk_codec.proofs.Lengths.{len64}
use Rattle.hk_message_head.specs.declared.request_kinds.Does.{Does}
use Rattle.hk_message_head.specs.declared.request_kinds.Does.TheVariants.{Reads, Feeds as BringsItems, Changes}
use Rattle.hk_message_head.specs.Kinds.{does_at}
use Rattle.hk_messages.specs.LaterRequests as later
use Rattle.hk_messages.specs.Requests.{WrittenRequest, Items, Front, Delta, Full, Ask, JoinThis, MergeThis, Prune, Feed, Later, request_kind, request_body, request_rest}
use Rattle.hk_messages.specs.Doing.{does_of, later_does}
use Rattle.hk_messages.proofs.DoneByKind.{kind_does}
use Rattle.hk_messages.proofs.Lengths.{ask_len, page_len, whole_len, await_len, request_rest_len}
use Rattle.hk_doors.specs.declared.passes.Passes.{Passes}
use Rattle.hk_doors.specs.declared.passes.Passes.TheVariants.{Readings}
use Rattle.hk_doors.specs.Doors.{lets_through, lets_kind, PassesAs, NoneIsSoLong}

pub passes_as : (passes : Passes) (kind : ℕ) (passed : Bool) → passed ≡ lets_kind passes (does_at kind) → PassesAs passes kind passed
passes_as passes kind passed h r is_kind = h ∙ ap (lets_kind passes) (ap does_at (sym is_kind) ∙ kind_does r)

-- a query has at most 19 bytes
most_of_query : (q : Query) → length (query_text q) ≤ 19
most_of_query (Get table key) = grind (arith, get_len table key)
most_of_query (Range table low high) = grind (arith, range_len table low high)
most_of_query (ByTag table tag) = grind (arith, by_tag_len table tag)
most_of_query (Count table) = grind (arith, count_len table)

-- the body of a request of version 2 that changes nothing has at most 30
most_of_later : (r : later.RequestValue) → later_does r ≡ Reads → length (later.request_body r) ≤ 30
most_of_later later.Streams e = omega arith
most_of_later (later.AskLatest query) e = grind (arith, most_of_query query)
most_of_later (later.Page t table low high most) e = grind (arith, page_len t table low high most)
most_of_later (later.Whole base most_bytes) e = grind (arith, whole_len base most_bytes)
most_of_later later.More e = omega arith
most_of_later (later.AddPart facts) e = absurd cc
most_of_later (later.JoinParts head) e = absurd cc
most_of_later (later.MergeParts head) e = absurd cc
most_of_later (later.Hold t) e = absurd cc
most_of_later (later.Release hold) e = absurd cc
most_of_later (later.Await t milliseconds) e = grind (arith, await_len t milliseconds)
most_of_later later.Stats e = omega arith
most_of_later later.Tables e = omega arith

-- that of any such request
most_of_reading : (r : WrittenRequest) → does_of r ≡ Reads → length (request_body r) ≤ 30
most_of_reading (Items items) e = absurd cc
most_of_reading Front e = omega arith
most_of_reading (Delta base) e = grind (arith, len64 base)
most_of_reading Full e = omega arith
most_of_reading (Ask t query) e = grind (arith, ask_len t query, most_of_query query)
most_of_reading (JoinThis fragment) e = absurd cc
most_of_reading (MergeThis fragment) e = absurd cc
most_of_reading (Prune horizon) e = absurd cc
most_of_reading (Feed items) e = absurd cc
most_of_reading (Later request) e = most_of_later request e

only_reads : (d : Does) → lets_through Readings d ≡ true → d ≡ Reads
only_reads Reads e = refl
only_reads BringsItems e = absurd cc
only_reads Changes e = absurd cc

pub none_is_so_long : (bytes : ℕ) → nat_lt 64 bytes ≡ true → NoneIsSoLong Readings bytes
none_is_so_long bytes long r passes =
    let few = most_of_reading r (only_reads (does_of r) passes) in
    grind (arith, nat_tests, few, request_rest_len r, long)
