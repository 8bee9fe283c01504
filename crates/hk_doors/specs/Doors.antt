-- Which requests a door lets through.
use Rattle.std.specs.Prelude.{◌≡◌, ◌≢◌, ℕ, Bool, true, false, Option, Some, None, nat_lt, length}
use Rattle.hk_message_head.specs.declared.request_kinds.Does.{Does}
use Rattle.hk_message_head.specs.declared.request_kinds.Does.TheVariants.{Reads, Feeds as BringsItems, Changes}
use Rattle.hk_messages.specs.Requests.{WrittenRequest, request_kind, request_rest}
use Rattle.hk_messages.specs.Doing.{does_of}
use Rattle.hk_doors.specs.declared.passes.Passes.{Passes}
use Rattle.hk_doors.specs.declared.passes.Passes.TheVariants.{All, Feeds, Readings}

-- a door for readers lets what changes nothing through, a door for feeders that and what brings items, any other door all
abbrev pub lets_through : Passes → Does → Bool
lets_through All does = true
lets_through Feeds Reads = true
lets_through Feeds BringsItems = true
lets_through Feeds Changes = false
lets_through Readings Reads = true
lets_through Readings BringsItems = false
lets_through Readings Changes = false

-- the same of a kind that requests have, or that none has
abbrev pub lets_kind : Passes → Option Does → Bool
lets_kind passes (Some does) = lets_through passes does
lets_kind All None = true
lets_kind Feeds None = false
lets_kind Readings None = false

-- exactly the requests of a kind that a door lets through pass there: it is told by what they ask
abbrev pub PassesAs : Passes → ℕ → Bool → Type 0
PassesAs passes kind passed = (r : WrittenRequest) → request_kind r ≡ kind → passed ≡ lets_through passes (does_of r)

-- no request that a door for readers lets through has so many bytes behind its length: the longest has 32
abbrev pub is_too_long : Passes → ℕ → Bool
is_too_long All bytes = false
is_too_long Feeds bytes = false
is_too_long Readings bytes = nat_lt 64 bytes

-- no request that a door lets through has so many bytes behind its length
abbrev pub NoneIsSoLong : Passes → ℕ → Type 0
NoneIsSoLong passes bytes = (r : WrittenRequest) → lets_through passes (does_of r) ≡ true → length (request_rest r) ≢ bytes

abbrev pub passes_all : Passes → Bool
passes_all All = true
passes_all Feeds = false
passes_all Readings = false
