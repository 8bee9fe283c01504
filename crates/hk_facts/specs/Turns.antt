-- Versions in turn: each has ended by the time that a later one is born.
use Rattle.std.specs.Prelude.{ℕ, ◌≡◌, ◌<◌, ◌≤◌, ◌⊎◌, Bool, true, false, nat_lt, is_some, Option, Some, None}
use Rattle.std.specs.FinMap as finmap
use Rattle.hk_log.specs.Versions.{VersionValue}
use Rattle.hk_facts.specs.declared.fact.Fact.{Fact}
use Rattle.hk_facts.specs.declared.fact.Fact.TheVariants.{Row, End}
use Rattle.hk_facts.specs.declared.bounds.Bounds.{Bounds}
use Rattle.hk_facts.specs.Facts.{died_of}
use Rattle.hk_facts.specs.Chains.{ChainValue, is_after}

-- no version ends after the birth of a later one
abbrev pub AreInTurn : ChainValue → Type 0
AreInTurn c = (a b died : ℕ) → died_of (finmap.get c a) ≡ Some died → is_some (finmap.get c b) ≡ true → a < b → died ≤ b

-- whether there is an end, and it is after a time
abbrev pub is_above : ℕ → Option ℕ → Bool
is_above time None = false
is_above time (Some died) = nat_lt time died

-- no version that was born before a time ends after it
abbrev pub EndBy : ChainValue → ℕ → Type 0
EndBy c time = (born died : ℕ) → died_of (finmap.get c born) ≡ Some died → born < time → died ≤ time

-- no version that was born after a time was born before another
abbrev pub BeginFrom : ChainValue → ℕ → ℕ → Type 0
BeginFrom c time from = (born : ℕ) → is_some (finmap.get c born) ≡ true → time < born → from ≤ born

-- a version may have been born at a time, as far as bounds say
abbrev pub MayBeBorn : Bounds → ℕ → Type 0
MayBeBorn bounds time = (time ≡ bounds.newest) ⊎ (time ≤ bounds.older)

-- no version ends later, and none was born at another time, than bounds say
pub record AreBounded (known : ℕ → Option VersionValue) (bounds : Bounds) : Type 0 where
  pub ends : (born died : ℕ) → died_of (known born) ≡ Some died → died ≤ bounds.latest
  pub births : (born : ℕ) → is_some (known born) ≡ true → MayBeBorn bounds born

-- what is kept beside versions: that they are in turn, where it says so, and their bounds
pub record IsKept (c : ChainValue) (in_turn : Bool) (bounds : Bounds) : Type 0 where
  pub turn : in_turn ≡ true → AreInTurn c
  pub bounded : AreBounded (finmap.get c) bounds

-- the end that a fact says
abbrev pub end_in : Fact → Option ℕ
end_in (Row row) = None
end_in (End died) = Some died

-- versions in turn are so with a fact on the version that was born then, too
abbrev pub FitsTurn : ChainValue → ℕ → Fact → Type 0
FitsTurn c born (Row row) = EndBy c born
FitsTurn c born (End died) = EndBy c born × BeginFrom c born died

-- a version was born before a time, and has no end from it on
pub record IsOver (time born : ℕ) (known : Option VersionValue) : Type 0 where
  pub before : born < time
  pub ended : (died : ℕ) → died_of known ≡ Some died → died < time

-- each version that was born up to a time, where there is one, is over before another
abbrev pub AreOver : ChainValue → ℕ → Option ℕ → Type 0
AreOver c time until = (born : ℕ) → is_some (finmap.get c born) ≡ true → is_after until born ≡ false → IsOver time born (finmap.get c born)
