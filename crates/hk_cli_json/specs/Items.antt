-- The lines of items, and what they say of rows.
use Rattle.std.specs.Prelude.{ℕ, List, [], ◌∷◌, ◌++◌, codes}
use Rattle.hex.specs.Hex.{encode_lower}
use Rattle.hk_types.specs.Values.{RowValue}
use Rattle.hk_types.specs.declared.version_key.VersionKey.{VersionKey}
use Rattle.hk_log.specs.Items.{EntryValue, MarkValue}
use Rattle.hk_log.specs.declared.item.Item.{Item}
use Rattle.hk_log.specs.declared.item.Item.TheVariants.{Commit, Closed}
use Rattle.hk_cli_json.specs.Fields.{joined, string, wide, small, listed}

-- where a row is
abbrev pub place : ℕ → ℕ → List (List ℕ)
place table key = small (codes "table") table ++ codes "," ∷ wide (codes "key") key

-- a row's tag and its body, and the end of the object that has them
abbrev pub row_end : RowValue → List ℕ
row_end row =
    joined (small (codes "tag") row.tag ++ codes "," ∷ string (codes "body") (encode_lower row.body) ++ codes "}" ∷ [])

-- a version that an entry ends
abbrev pub end_text : VersionKey → List ℕ
end_text v = joined (codes "{" ∷ place v.table v.key ++ codes "," ∷ wide (codes "born") v.born ++ codes "}" ∷ [])

-- a row that an entry puts in
abbrev pub placed_text : ℕ × ℕ × RowValue → List ℕ
placed_text r = joined (codes "{" ∷ place r.0 r.1 ++ codes "," ∷ row_end r.2 ∷ [])

-- which entry it is
abbrev pub entry_head : EntryValue → List ℕ
entry_head e =
    joined (codes "{\"commit\":{" ∷ wide (codes "log") e.log ++ codes "," ∷ small (codes "stream") e.stream
    ++ codes "," ∷ wide (codes "number") e.number ++ codes "," ∷ wide (codes "time") e.time)

-- the versions that it ends
abbrev pub entry_ends : List VersionKey → List ℕ
entry_ends ends = codes ",\"ends\":[" ++ listed end_text 0 ends

-- the rows that it puts in
abbrev pub entry_rows : List (ℕ × ℕ × RowValue) → List ℕ
entry_rows rows = codes "],\"rows\":[" ++ listed placed_text 0 rows ++ codes "]}}\n"

-- the line of an entry
abbrev pub entry_line : EntryValue → List ℕ
entry_line e = entry_head e ++ entry_ends e.ends ++ entry_rows e.rows

-- the line of a mark
abbrev pub mark_line : MarkValue → List ℕ
mark_line m =
    joined (codes "{\"mark\":{" ∷ wide (codes "log") m.log ++ codes "," ∷ small (codes "stream") m.stream
    ++ codes "," ∷ wide (codes "n") m.count ++ codes "," ∷ wide (codes "m") m.upto ++ codes "}}\n" ∷ [])

-- the line of an item
abbrev pub item_line : Item → List ℕ
item_line (Commit e) = entry_line e
item_line (Closed m) = mark_line m
