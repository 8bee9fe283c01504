-- What a call gives or leaves: what its definition says, or memory ran out.
use Rattle.std.specs.Prelude.{◌≡◌, ◌⊎◌, Result, Ok, Err}
use Rattle.hk_types.specs.declared.faults.Refusal.{Refusal}
use Rattle.hk_types.specs.declared.faults.Refusal.TheVariants.{Memory}

-- the result is the wanted one; or a value is wanted, and memory ran out
abbrev pub GivesOrMemory : {A : Type 0} → Result A Refusal → Result A Refusal → Type 0
GivesOrMemory wanted (Ok a) = wanted ≡ Ok a
GivesOrMemory {A} wanted (Err why) = (wanted ≡ Err why) ⊎ ((why ≡ Memory) × ((a : A) × (wanted ≡ Ok a)))

-- the new state is the wanted one; or nothing changed, and it was refused so, or a state is wanted and memory ran out
abbrev pub ChangesOrMemory : {S D : Type 0} → S → S → Result S Refusal → Result D Refusal → Type 0
ChangesOrMemory old new wanted (Ok done) = wanted ≡ Ok new
ChangesOrMemory {S} old new wanted (Err why) = (new ≡ old) × ((wanted ≡ Err why) ⊎ ((why ≡ Memory) × ((s : S) × (wanted ≡ Ok s))))
