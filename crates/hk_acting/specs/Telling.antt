-- What a call on one replica tells and leaves.
use Rattle.std.specs.Prelude.{◌≡◌, Bool, true, false, not, Result, Ok, Err, MatchResult}
use Rattle.hk_types.specs.declared.faults.Refusal.{Refusal}
use Rattle.hk_types.specs.declared.faults.Refusal.TheVariants.{Gap, AheadOfMark, TooOld, NotYet, NoStream, Retired, NoSuch, Memory}
use Rattle.hk_model.specs.declared.told.Told.{Told}
use Rattle.hk_model.specs.declared.took.Took.{Took}
use Rattle.hk_model.specs.declared.took.Took.TheVariants.{Taken, Repeated}
use Rattle.hk_model.specs.World.Events.{told_seen}
use Rattle.hk_model.specs.World.Worlds.{ToldValue}
use Rattle.hk_model.specs.World.Worlds.ToldValue.{Refused, Fronted, Answered, Absorbed}
use Rattle.hk_query.specs.Memory.{takes_memory}

-- whether a refusal says that memory ran out
abbrev pub is_memory : Refusal → Bool
is_memory Memory = true
is_memory _ = false

-- whether it is told that memory ran out
abbrev pub is_memory_outcome : ToldValue → Bool
is_memory_outcome (Refused why) = is_memory why
is_memory_outcome _ = false

-- whether a refusal is one that is tested before anything grows
abbrev pub is_first : Refusal → Bool
is_first NoSuch = true
is_first NoStream = true
is_first (Retired stream) = true
is_first (NotYet readable) = true
is_first (TooOld horizon) = true
is_first (Gap base readable) = true
is_first (AheadOfMark readable) = true
is_first _ = false

-- whether an item was known
abbrev pub is_repeated : Took → Bool
is_repeated Taken = false
is_repeated Repeated = true

-- whether such a refusal is told, or what takes no memory: a front, a count, that there is no such row, or that an item
-- was known
abbrev pub is_first_outcome : ToldValue → Bool
is_first_outcome (Refused why) = is_first why
is_first_outcome (Fronted horizon readable) = true
is_first_outcome (Answered a) = not (takes_memory a)
is_first_outcome (Absorbed took) = is_repeated took
is_first_outcome _ = false

-- what was told, and what it left, are as expected; or memory ran out where nothing is expected that takes none, as a
-- refusal that is tested before anything grows, and nothing changed
abbrev pub Gives : {W : Type 0} → ToldValue × W → W → W → Result Told Refusal → Type 0
Gives expected old new (Ok outcome) = (told_seen outcome ≡ expected.0) × (new ≡ expected.1) × (is_memory_outcome (told_seen outcome) ≡ false)
Gives expected old new (Err why) = (why ≡ Memory) × (new ≡ old) × (is_first_outcome expected.0 ≡ false)

-- a refusal is told, unless it says that memory ran out
abbrev pub TellsRefusal : Refusal → Result Told Refusal → Type 0
TellsRefusal why result = MatchResult result (λ outcome. (told_seen outcome ≡ Refused why) × (is_memory why ≡ false)) (λ e. (e ≡ Memory) × (why ≡ Memory))
