-- What is read of a state at a time.
use Rattle.std.specs.Prelude.{ℕ, List, [], ◌∷◌, ◌&&◌, ◌==◌, nat_le, length, filter, is_some, Option, Some, None}
use Rattle.std.specs.List.{flat_map, take_while}
use Rattle.std.specs.Ordering.{is_le}
use Rattle.std.specs.BTreeMap.Range.{entries_between}
use Rattle.std.specs.declared.ops.Bound.TheVariants.{Included}
use Rattle.hk_types.specs.Values.{RowValue}
use Rattle.hk_model.specs.History.Rows.{RowKey, row_key_cmp}
use Rattle.hk_model.specs.Replica.Answers.{visible, rows_where}
use Rattle.hk_model.specs.Replica.Content.{Content}
use Rattle.hk_facts.specs.Chains.{ChainValue, row_at}
use Rattle.hk_chains.specs.Facts.{FactsValue}

-- a content with these facts
abbrev pub with_facts : FactsValue → Content
with_facts f = record { log = 0; horizon = 0; rows = f.rows; ends = f.ends; streams = [] }

-- the facts of a content
abbrev pub facts_of_content : Content → FactsValue
facts_of_content c = record { rows = c.rows; ends = c.ends }

-- a row with its key, where there is one
abbrev pub keyed_if : ℕ → Option RowValue → List (ℕ × RowValue)
keyed_if key None = []
keyed_if key (Some row) = (key, row) ∷ []

-- the rows that chains have at t, with their keys
abbrev pub rows_at : ℕ → List (RowKey × ChainValue) → List (ℕ × RowValue)
rows_at t es = flat_map (λ e. keyed_if e.0.key (row_at e.1 t)) es

-- those of the chains from a first to a last row
abbrev pub rows_from_to : ℕ → RowKey → RowKey → List (RowKey × ChainValue) → List (ℕ × RowValue)
rows_from_to t first last es = rows_at t (entries_between row_key_cmp (Included first) (Included last) es)

-- how many chains of a row's table have a row at t, of those from this row on
abbrev pub count_rows : RowKey → ℕ → List (RowKey × ChainValue) → ℕ
count_rows first t es = length (filter (λ e. is_some (row_at e.1 t)) (take_while (λ e. e.0.table == first.table) (filter (λ e. is_le (row_key_cmp first e.0)) es)))

-- the rows of a table with keys from low to high that show at t, by key
abbrev pub rows_ranged : FactsValue → ℕ → ℕ → ℕ → ℕ → List (ℕ × RowValue)
rows_ranged f t table low high = rows_where (λ k row. (k.table == table) && nat_le low k.key && nat_le k.key high) (visible (with_facts f) t)

-- the rows of a table with a tag that show at t, by key
abbrev pub rows_with_tag : FactsValue → ℕ → ℕ → ℕ → List (ℕ × RowValue)
rows_with_tag f t table tag = rows_where (λ k row. (k.table == table) && (row.tag == tag)) (visible (with_facts f) t)
