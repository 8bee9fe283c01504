-- What contracts see of a row and of a configuration, and when two rows are the same.
use Rattle.std.specs.Prelude.{ℕ, Bool, ◌&&◌, ◌==◌, List}
use Rattle.std.specs.Cmp.Lexicographic.{pointwise}

-- the value of a `Row`: its tag, and its body's bytes
pub record RowValue : Type 0 where
  pub tag : ℕ
  pub body : List ℕ

-- whether two rows have the same tag and the same body
abbrev pub same_row : RowValue → RowValue → Bool
same_row a b = (a.tag == b.tag) && pointwise (λ x y. x == y) a.body b.body

-- the value of a `Config`: the id of a log, and its number of streams
pub record ConfigValue : Type 0 where
  pub log : ℕ
  pub streams : ℕ
