-- What the requests of a kind do at a node.
use Rattle.std.specs.Prelude.{ℕ, ◌==◌, if◌then◌else◌, Option, Some, None}
use Rattle.hk_message_head.specs.declared.request_kinds.Does.{Does}
use Rattle.hk_message_head.specs.declared.request_kinds.Does.TheVariants.{Reads, Feeds, Changes}

-- those of version 1
abbrev pub first_does_at : ℕ → Option Does
first_does_at kind =
    if kind == 16 then Some Feeds
    else if kind == 17 then Some Reads
    else if kind == 18 then Some Reads
    else if kind == 19 then Some Reads
    else if kind == 20 then Some Reads
    else if kind == 21 then Some Changes
    else if kind == 22 then Some Changes
    else if kind == 23 then Some Changes
    else None

-- what requests of a kind do, where there are any
abbrev pub does_at : ℕ → Option Does
does_at kind =
    if kind == 48 then Some Reads
    else if kind == 49 then Some Reads
    else if kind == 50 then Some Reads
    else if kind == 51 then Some Reads
    else if kind == 52 then Some Reads
    else if kind == 53 then Some Changes
    else if kind == 54 then Some Changes
    else if kind == 55 then Some Changes
    else if kind == 56 then Some Changes
    else if kind == 57 then Some Changes
    else if kind == 58 then Some Feeds
    else if kind == 59 then Some Reads
    else if kind == 60 then Some Reads
    else if kind == 61 then Some Reads
    else first_does_at kind
