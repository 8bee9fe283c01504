-- What happens to one replica of a list, and what a transaction is built of.
use Rattle.std.specs.Prelude.{◌≡◌, ◌⊎◌, ◌<◌, ◌+◌, ℕ, false, List, length, Option, None, Result, Ok, Err, MatchOption, MatchResult}
use Rattle.std.specs.FinMap as finmap
use Rattle.hk_types.specs.Values.{ConfigValue}
use Rattle.hk_types.specs.declared.faults.Refusal.{Refusal}
use Rattle.hk_types.specs.declared.faults.Refusal.TheVariants.{Memory}
use Rattle.hk_log.specs.declared.item.Item.{Item}
use Rattle.hk_model.specs.History.Commits.{writes_result}
use Rattle.hk_model.specs.Replica.Content.{Content}
use Rattle.hk_model.specs.Replica.Rules as rules
use Rattle.hk_model.specs.World.Worlds.{all_numbered, at_number, both, delta_join, outcome_by, outcome_of_batch, outcome_of_take}
use Rattle.hk_model.specs.World.Worlds.ToldValue.{Refused}
use Rattle.hk_model.specs.declared.told.Told.{Told}
use Rattle.hk_model.specs.declared.write_op.WriteOp.{WriteOp}
use Rattle.hk_primary.specs.Txns.{TxnValue}
use Rattle.hk_acting.specs.Telling.{is_first_outcome, is_memory}
use Rattle.hk_laws.specs.Calls.{Acts}

-- the place of what stands under a number, counted from 0, if anything does
abbrev pub IsPlace : {X : Type 0} → List X → ℕ → Option ℕ → Type 0
IsPlace list number result = MatchOption result (at_number list number ≡ None) (λ place. (place + 1 ≡ number) × (place < length list))

-- two replicas, where both are there
abbrev pub two_of : List Content → ℕ → ℕ → Option (Content × Content)
two_of replicas one other = both (at_number replicas one) (at_number replicas other)

-- the replica under a number absorbed the item under another
abbrev pub AbsorbsAt : List Content → List Content → ℕ → List Item → ℕ → Result Told Refusal → Type 0
AbsorbsAt old new replica items item result =
    Acts old new replica (both (at_number old replica) (at_number items item)) (λ p. outcome_of_take p.0 (rules.take_result p.0 p.1)) result

-- the replica under a number was pruned
abbrev pub PrunesAt : List Content → List Content → ℕ → ℕ → Result Told Refusal → Type 0
PrunesAt old new replica horizon result = Acts old new replica (at_number old replica) (λ r. outcome_by r (rules.prune_result r horizon)) result

-- the replica under a number joined the fragment of the items under these numbers
abbrev pub JoinsBatch : ConfigValue → List Content → List Content → ℕ → List Item → List ℕ → Result Told Refusal → Type 0
JoinsBatch config old new replica items numbers result =
    Acts old new replica (both (at_number old replica) (all_numbered items numbers)) (λ p. outcome_of_batch p.0 (rules.gather_result config p.1)) result

-- the one replica joined what the other has learnt since a time
abbrev pub JoinsDelta : List Content → List Content → ℕ → ℕ → ℕ → Result Told Refusal → Type 0
JoinsDelta old new to from base result = Acts old new to (two_of old to from) (λ p. delta_join p.0 p.1 base) result

-- the other replica was merged into the one
abbrev pub MergesAt : List Content → List Content → ℕ → ℕ → Result Told Refusal → Type 0
MergesAt old new to from result = Acts old new to (two_of old to from) (λ p. outcome_by p.0 (rules.merge_result p.0 p.1)) result

-- a delta is refused so before it is cut; or no refusal is told of it that is tested before anything grows
abbrev pub RefusesDelta : Content → Content → ℕ → Option Refusal → Type 0
RefusesDelta target source base result =
    MatchOption result (is_first_outcome (delta_join target source base).0 ≡ false)
    (λ why. (delta_join target source base ≡ (Refused why, target)) × (is_memory why ≡ false))

-- the transaction of these writes that reads at a time, or why one of them is refused
abbrev pub Builds : ℕ → List WriteOp → Result TxnValue Refusal → Type 0
Builds read_at writes result =
    MatchResult result (λ txn. (txn.read_at ≡ read_at) × (writes_result finmap.empty writes ≡ Ok txn.writes))
    (λ why. (writes_result finmap.empty writes ≡ Err why) ⊎ (why ≡ Memory))
