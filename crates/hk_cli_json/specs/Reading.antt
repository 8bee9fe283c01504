-- What the line of an item says, once its fields are read.
use Rattle.std.specs.Prelude.{◌≡◌, ℕ, List, [], map, Result, Ok, Err}
use Rattle.std.specs.Str.Parse.{IsNumeral, digits_value}
use Rattle.std.specs.String.{string_bytes}
use Rattle.hex.specs.Hex.{decode_of}
use Rattle.hex.specs.declared.error.FromHexError.{FromHexError}
use Rattle.hk_types.specs.Values.{RowValue}
use Rattle.hk_types.specs.declared.version_key.VersionKey.{VersionKey}
use Rattle.hk_log.specs.Items.{EntryValue, MarkValue, entry_value}
use Rattle.hk_cli_json.specs.declared.field.Body.{Body}
use Rattle.hk_cli_json.specs.declared.item_line.EndLine.{EndLine}
use Rattle.hk_cli_json.specs.declared.item_line.RowLine.{RowLine}
use Rattle.hk_cli_json.specs.declared.item_line.EntryLine.{EntryLine}
use Rattle.hk_cli_json.specs.declared.item_line.MarkLine.{MarkLine}

-- digits alone, and the number that they write
abbrev pub Writes : List ℕ → ℕ → Type 0
Writes digits n = IsNumeral 10 digits × (n ≡ digits_value 10 digits)

abbrev pub bytes_or_none : Result (List ℕ) FromHexError → List ℕ
bytes_or_none (Ok bytes) = bytes
bytes_or_none (Err e) = []

-- the bytes of a body's digits
abbrev pub body_of : Body → List ℕ
body_of body = bytes_or_none (decode_of (string_bytes body.0))

abbrev pub end_of : EndLine → VersionKey
end_of line = record { table = line.table; key = line.key.0; born = line.born.0 }

abbrev pub row_of : RowLine → ℕ × ℕ × RowValue
row_of line = (line.table, line.key.0, record { tag = line.tag; body = body_of line.body })

abbrev pub entry_of : EntryLine → EntryValue
entry_of line =
    entry_value line.log.0 line.stream.0 line.number.0 line.time.0
    (map end_of line.ends.items) (map row_of line.rows.items)

abbrev pub mark_of : MarkLine → MarkValue
mark_of line = record { log = line.log.0; stream = line.stream.0; count = line.n.0; upto = line.m.0 }
