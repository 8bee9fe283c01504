-- Keys by tag.
use Rattle.std.specs.Prelude.{◌≡◌, ◌++◌, ◌∷◌, ℕ, Bool, true, ◌==◌, List, [], Option, Some, None}
use Rattle.std.specs.declared.cmp.Ordering.{Ordering}
use Rattle.std.specs.Coded.{Coded, code_by, coded×, coded_ℕ, coded_list}
use Rattle.std.specs.Ordering.{nat_cmp, on, then_cmp}
use Rattle.std.specs.List.{list_any}
use Rattle.std.specs.List.Sorted.{IsStrictlySortedBy}
use Rattle.std.specs.FinMap as finmap
use Rattle.std.proofs.Common.{refl}
use Rattle.hk_index.specs.declared.tag_key.TagKey.{TagKey}

-- tables and tags are in the order of table, then tag
abbrev pub tag_key_cmp : TagKey → TagKey → Ordering
tag_key_cmp = then_cmp (on (λ k. k.table) nat_cmp) (on (λ k. k.tag) nat_cmp)

-- the list of the keys of each table and tag, in the order in which they came
abbrev pub TagKeysValue : Type 0
TagKeysValue = finmap.FinMap tag_key_cmp (List ℕ)

abbrev pub tag_key_code : Coded TagKey
tag_key_code = code_by (ℕ × ℕ) (coded× coded_ℕ coded_ℕ) (λ k. (k.table, k.tag)) (λ p. record { table = p.0; tag = p.1 }) (λ _. refl)

abbrev pub tag_keys_code : Coded TagKeysValue
tag_keys_code = finmap.code tag_key_code (coded_list coded_ℕ)

abbrev pub or_nil : Option (List ℕ) → List ℕ
or_nil None = []
or_nil (Some keys) = keys

-- the keys that came under a table and a tag
abbrev pub keys_at : TagKeysValue → TagKey → List ℕ
keys_at m at = or_nil (finmap.get m at)

-- with one key more under a table and a tag
abbrev pub with_key : TagKeysValue → TagKey → ℕ → TagKeysValue
with_key m at key = finmap.insert m at (keys_at m at ++ key ∷ [])

-- whether the key is one of these
abbrev pub is_one_of : List ℕ → ℕ → Bool
is_one_of keys key = list_any (λ k. k == key) keys

-- whether a key came under a table and a tag
abbrev pub is_listed : TagKeysValue → ℕ → ℕ → ℕ → Bool
is_listed m table tag key = is_one_of (keys_at m (record { table = table; tag = tag })) key

-- what was listed still is
abbrev pub StillListed : TagKeysValue → TagKeysValue → Type 0
StillListed old new = (table tag key : ℕ) → is_listed old table tag key ≡ true → is_listed new table tag key ≡ true

-- the keys of a table and a tag in rising order, each once
pub record ListsKeys (m : TagKeysValue) (table tag : ℕ) (keys : List ℕ) : Type 0 where
  pub rising : IsStrictlySortedBy nat_cmp keys
  pub same : (key : ℕ) → is_one_of keys key ≡ is_listed m table tag key
