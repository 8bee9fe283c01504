-- What it means that a content keeps the past of an earlier one, and the finitely many times at which that is decided.
use Rattle.std.specs.Prelude.{◌≡◌, ℕ, ◌≤◌, Bool, true, false, ◌&&◌, nat_le, List, ◌∷◌, ◌++◌, map, filter, filter_map, Option, Some, None}
use Rattle.std.specs.List.{list_all}
use Rattle.std.specs.Ordering.{eq_by_cmp}
use Rattle.std.specs.FinMap as finmap
use Rattle.hk_types.specs.Values.{RowValue, same_row}
use Rattle.hk_types.specs.declared.version_key.VersionKey.{VersionKey}
use Rattle.hk_model.specs.History.Rows.{RowKey, row_key_cmp, row_key_of}
use Rattle.hk_model.specs.Replica.Content.{Content, readable}
use Rattle.hk_model.specs.Replica.Answers.{visible}

-- neither the horizon nor the readable mark of d is before that of c
abbrev pub IsLater : Content → Content → Type 0
IsLater c d = (c.horizon ≤ d.horizon) × (readable c ≤ readable d)

-- at each time from d's horizon to c's readable mark a key shows the same row in d as in c
abbrev pub KeyKeeps : Content → Content → RowKey → Type 0
KeyKeeps c d k = (t : ℕ) → d.horizon ≤ t → t ≤ readable c → finmap.get (visible d t) k ≡ finmap.get (visible c t) k

-- so of every key
abbrev pub KeepsPast : Content → Content → Type 0
KeepsPast c d = (k : RowKey) → KeyKeeps c d k

-- the versions of a key that have a row
abbrev pub chain : Content → RowKey → List VersionKey
chain c k = filter (λ v. eq_by_cmp row_key_cmp k (row_key_of v)) (finmap.keys c.rows)

-- the times at which what a content shows of a key can change: the births and the ends of its chain
abbrev pub turns : Content → RowKey → List ℕ
turns c k = map (λ v. v.born) (chain c k) ++ filter_map (finmap.get c.ends) (chain c k)

-- the times to look at: d's horizon and the turns of either chain, from there to c's readable mark
abbrev pub times_to_see : Content → Content → RowKey → List ℕ
times_to_see c d k = filter (λ t. nat_le d.horizon t && nat_le t (readable c)) (d.horizon ∷ turns c k ++ turns d k)

-- whether there is the same row, or none
abbrev pub same_shown : Option RowValue → Option RowValue → Bool
same_shown None None = true
same_shown None (Some s) = false
same_shown (Some r) None = false
same_shown (Some r) (Some s) = same_row r s

-- whether a key shows the same row at each time to look at
abbrev pub key_keeps : Content → Content → RowKey → Bool
key_keeps c d k = list_all (λ t. same_shown (finmap.get (visible d t) k) (finmap.get (visible c t) k)) (times_to_see c d k)

-- whether every key of a row of either does
abbrev pub keeps_past : Content → Content → Bool
keeps_past c d = list_all (key_keeps c d) (map row_key_of (finmap.keys c.rows ++ finmap.keys d.rows))
