-- What is left of a version without a part.
use Rattle.std.proofs.Common.{◌≡◌, refl, None}
use Rattle.hk_facts.specs.declared.fact.Part.{Part}
use Rattle.hk_facts.specs.declared.fact.Part.TheVariants.{Row as RowPart, End as EndPart, Whole}
use Rattle.hk_facts.specs.Facts.{without}

pub nothing_left : (part : Part) → without part None ≡ None
nothing_left RowPart = refl
nothing_left EndPart = refl
nothing_left Whole = refl
