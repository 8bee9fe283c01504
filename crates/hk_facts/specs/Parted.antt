-- Versions in two maps: those with a row, and apart from them those of which only the end is known.
use Rattle.std.specs.Prelude.{◌≡◌, ℕ, Bool, true, false, nat_le, nat_lt, Option, Some, None, if◌then◌else◌, is_some}
use Rattle.std.specs.FinMap as finmap
use Rattle.hk_log.specs.Versions.{VersionValue}
use Rattle.hk_model.specs.Replica.Maps.{union}
use Rattle.hk_facts.specs.Facts.{row_of}
use Rattle.hk_facts.specs.Chains.{ChainValue}

-- the chain of both
abbrev pub both : ChainValue → ChainValue → ChainValue
both rows ends = union rows ends

-- no version is in both
abbrev pub AreApart : ChainValue → ChainValue → Type 0
AreApart rows ends = (q : ℕ) → is_some (finmap.get rows q) ≡ true → finmap.get ends q ≡ None

-- no version has a row
abbrev pub NoRows : ChainValue → Type 0
NoRows ends = (q : ℕ) → row_of (finmap.get ends q) ≡ None

-- the maps are apart, and the second has no rows unless it is mixed
pub record IsParted (rows ends : ChainValue) (mixed : Bool) : Type 0 where
  pub apart : AreApart rows ends
  pub bare : mixed ≡ false → NoRows ends

-- the end of a version of which no row is known
abbrev pub lone_end : Option VersionValue → Option ℕ
lone_end None = None
lone_end (Some v) = if is_some v.row then None else v.died

-- of two versions the one born later
abbrev pub later_of : Option (ℕ × VersionValue) → Option (ℕ × VersionValue) → Option (ℕ × VersionValue)
later_of None y = y
later_of (Some e) None = Some e
later_of (Some e) (Some f) = if nat_lt e.0 f.0 then Some f else Some e

-- whether there is a first one, and the other was not born later
abbrev pub is_later : Option (ℕ × VersionValue) → Option (ℕ × VersionValue) → Bool
is_later None y = false
is_later (Some e) None = true
is_later (Some e) (Some f) = nat_le f.0 e.0

-- whether there is a first one, and the other was not born earlier
abbrev pub is_earlier : Option (ℕ × VersionValue) → Option (ℕ × VersionValue) → Bool
is_earlier None y = false
is_earlier (Some e) None = true
is_earlier (Some e) (Some f) = nat_le e.0 f.0
