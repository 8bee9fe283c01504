-- When two entries are the same, and that this is an equivalence.
use Rattle.std.specs.Prelude.{ℕ, Bool, ◌&&◌, ◌==◌}
use Rattle.std.specs.Cmp.{IsEquivalence, IsPartialEquivalence, and_equiv, on_equiv, nat_eq_equiv, partial_equiv_from_equiv}
use Rattle.std.specs.Cmp.Lexicographic.{pointwise, lists_equiv}
use Rattle.hk_types.specs.Values.{RowValue, same_row}
use Rattle.hk_types.specs.SameRows.{same_row_equiv}
use Rattle.hk_types.specs.declared.version_key.VersionKey.{VersionKey}
use Rattle.hk_log.specs.Items.{EntryValue}

abbrev pub same_version : VersionKey → VersionKey → Bool
same_version a b = (a.table == b.table) && ((a.key == b.key) && (a.born == b.born))

abbrev pub same_placed_row : ℕ × ℕ × RowValue → ℕ × ℕ × RowValue → Bool
same_placed_row a b = (a.0 == b.0) && ((a.1 == b.1) && same_row a.2 b.2)

abbrev pub same_entry : EntryValue → EntryValue → Bool
same_entry a b =
    (a.log == b.log) && ((a.stream == b.stream) && ((a.number == b.number) && ((a.time == b.time) && (pointwise same_version a.ends b.ends && pointwise same_placed_row a.rows b.rows))))

same_version_equiv : IsEquivalence same_version
same_version_equiv = and_equiv (on_equiv (λ (v : VersionKey). v.table) nat_eq_equiv) (and_equiv (on_equiv (λ (v : VersionKey). v.key) nat_eq_equiv) (on_equiv (λ (v : VersionKey). v.born) nat_eq_equiv))

same_placed_row_equiv : IsEquivalence same_placed_row
same_placed_row_equiv =
    and_equiv (on_equiv (λ (r : ℕ × ℕ × RowValue). r.0) nat_eq_equiv) (and_equiv (on_equiv (λ (r : ℕ × ℕ × RowValue). r.1) nat_eq_equiv) (on_equiv (λ (r : ℕ × ℕ × RowValue). r.2) same_row_equiv))

pub same_entry_equiv : IsEquivalence same_entry
same_entry_equiv =
    and_equiv (on_equiv (λ (e : EntryValue). e.log) nat_eq_equiv)
    (and_equiv (on_equiv (λ (e : EntryValue). e.stream) nat_eq_equiv)
    (and_equiv (on_equiv (λ (e : EntryValue). e.number) nat_eq_equiv)
    (and_equiv (on_equiv (λ (e : EntryValue). e.time) nat_eq_equiv)
    (and_equiv (on_equiv (λ (e : EntryValue). e.ends) (lists_equiv same_version_equiv)) (on_equiv (λ (e : EntryValue). e.rows) (lists_equiv same_placed_row_equiv))))))

pub same_entry_per : IsPartialEquivalence same_entry
same_entry_per = partial_equiv_from_equiv same_entry_equiv
