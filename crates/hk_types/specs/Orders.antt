-- The order of version keys.
use Rattle.std.specs.declared.cmp.Ordering.{Ordering}
use Rattle.std.specs.Ordering.{nat_cmp, ordering_then}
use Rattle.hk_types.specs.declared.version_key.VersionKey.{VersionKey}

-- by table, then by key, then by born
abbrev pub version_key_order : VersionKey → VersionKey → Ordering
version_key_order v w = ordering_then (nat_cmp v.table w.table) (ordering_then (nat_cmp v.key w.key) (nat_cmp v.born w.born))
