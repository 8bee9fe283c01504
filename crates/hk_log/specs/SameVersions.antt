-- When two versions are the same, and that this is an equivalence.
use Rattle.std.specs.Prelude.{Bool, ◌&&◌, nat_eq}
use Rattle.std.specs.Cmp.{IsEquivalence, IsPartialEquivalence, and_equiv, on_equiv, nat_eq_equiv, partial_equiv_from_equiv}
use Rattle.std.specs.Cmp.Lexicographic.{options_equiv}
use Rattle.std.specs.Option.{option_eq}
use Rattle.hk_types.specs.Values.{same_row}
use Rattle.hk_types.specs.SameRows.{same_row_equiv}
use Rattle.hk_log.specs.Versions.{VersionValue}

abbrev pub same_version : VersionValue → VersionValue → Bool
same_version a b = option_eq same_row a.row b.row && option_eq nat_eq a.died b.died

pub same_version_equiv : IsEquivalence same_version
same_version_equiv = and_equiv (on_equiv (λ (v : VersionValue). v.row) (options_equiv same_row_equiv)) (on_equiv (λ (v : VersionValue). v.died) (options_equiv nat_eq_equiv))

pub same_version_per : IsPartialEquivalence same_version
same_version_per = partial_equiv_from_equiv same_version_equiv
