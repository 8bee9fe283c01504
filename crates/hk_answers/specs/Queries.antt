-- Queries: their encoding and their reading.
use Rattle.std.specs.Prelude.{ℕ, ◌^◌, ◌<◌, ◌==◌, if◌then◌else◌, List, ◌∷◌, ◌++◌, Err}
use Rattle.std.specs.Int.{w16, w32, w64}
use Rattle.hk_types.specs.declared.faults.FormFault.TheVariants.{BadNumber}
use Rattle.hk_model.specs.declared.query.Query.{Query}
use Rattle.hk_model.specs.declared.query.Query.TheVariants.{Get, Range, ByTag, Count}
use Rattle.hk_frames.specs.Fields.{number, number_at}
use Rattle.hk_answers.specs.Readers.{Reader, both, mapped_value, by_kind}

-- the kind byte of a query
abbrev pub query_kind : Query → ℕ
query_kind (Get table key) = 1
query_kind (Range table low high) = 2
query_kind (ByTag table tag) = 3
query_kind (Count table) = 4

-- what follows it
abbrev pub query_fields : Query → List ℕ
query_fields (Get table key) = number w16 table ++ number w64 key
query_fields (Range table low high) = number w16 table ++ (number w64 low ++ number w64 high)
query_fields (ByTag table tag) = number w16 table ++ number w32 tag
query_fields (Count table) = number w16 table

-- the encoding of a query
unfoldable pub query_text : Query → List ℕ
query_text q = query_kind q ∷ query_fields q

-- a query whose numbers fit their fields
abbrev pub QueryFits : Query → Type 0
QueryFits (Get table key) = (table < 2 ^ 16) × (key < 2 ^ 64)
QueryFits (Range table low high) = (table < 2 ^ 16) × ((low < 2 ^ 64) × (high < 2 ^ 64))
QueryFits (ByTag table tag) = (table < 2 ^ 16) × (tag < 2 ^ 32)
QueryFits (Count table) = table < 2 ^ 16

-- the query of a kind
unfoldable pub query_of : ℕ → Reader Query
query_of kind bytes =
    if kind == 1 then mapped_value (λ p. Get p.0 p.1) (both (number_at w16) (number_at w64)) bytes
    else if kind == 2 then mapped_value (λ p. Range p.0 p.1.0 p.1.1) (both (number_at w16) (both (number_at w64) (number_at w64))) bytes
    else if kind == 3 then mapped_value (λ p. ByTag p.0 p.1) (both (number_at w16) (number_at w32)) bytes
    else if kind == 4 then mapped_value (λ table. Count table) (number_at w16) bytes
    else Err BadNumber

-- a query behind its kind
unfoldable pub query_at : Reader Query
query_at bytes = by_kind query_of bytes
