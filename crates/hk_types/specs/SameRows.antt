-- Being the same row is an equivalence.
use Rattle.std.specs.Cmp.{IsEquivalence, IsPartialEquivalence, and_equiv, on_equiv, nat_eq_equiv, partial_equiv_from_equiv}
use Rattle.std.specs.Cmp.Lexicographic.{lists_equiv}
use Rattle.hk_types.specs.Values.{RowValue, same_row}

pub same_row_equiv : IsEquivalence same_row
same_row_equiv = and_equiv (on_equiv (λ (r : RowValue). r.tag) nat_eq_equiv) (on_equiv (λ (r : RowValue). r.body) (lists_equiv nat_eq_equiv))

pub same_row_per : IsPartialEquivalence same_row
same_row_per = partial_equiv_from_equiv same_row_equiv
