-- What calls on a state leave and answer.
use Rattle.std.specs.Prelude.{◌≡◌, ◌⊎◌, ◌∷◌, ◌≤◌, ℕ, max, List, Result, Ok, Err, IfOk, IfErr}
use Rattle.hk_types.specs.OrMemory.{ChangesOrMemory}
use Rattle.hk_types.specs.Values.{ConfigValue}
use Rattle.hk_types.specs.declared.faults.Refusal.{Refusal}
use Rattle.hk_types.specs.declared.faults.Refusal.TheVariants.{Memory}
use Rattle.hk_log.specs.declared.item.Item.{Item}
use Rattle.hk_model.specs.declared.took.Took.{Took}
use Rattle.hk_model.specs.declared.took.Took.TheVariants.{Taken}
use Rattle.hk_model.specs.Replica.Content.{Content, readable}
use Rattle.hk_model.specs.History.Histories.{History, IsHistory, IsItemOf}
use Rattle.hk_model.specs.declared.query.Query.{Query}
use Rattle.hk_model.specs.Replica.Answers.{reply}
use Rattle.hk_model.specs.Replica.Replicas.{Represents}
use Rattle.hk_model.specs.Replica.Rules.{take_result, prune_result}

-- an absorb left and told what taking gives, or it changed nothing: it was refused so, or memory ran out
-- where the item would have been taken
abbrev pub Absorbs : Content → Content → Item → Result Took Refusal → Type 0
Absorbs old new item (Ok took) = take_result old item ≡ Ok (took, new)
Absorbs old new item (Err why) = (new ≡ old) × ((take_result old item ≡ Err why) ⊎ ((why ≡ Memory) × ((c : Content) × (take_result old item ≡ Ok (Taken, c)))))

-- a prune left what pruning gives, or it changed nothing: it was refused so, or memory ran out
abbrev pub Prunes : Content → Content → ℕ → Result (Unit {0}) Refusal → Type 0
Prunes old new h result = ChangesOrMemory old new (prune_result old h) result

-- where the old state represents items of a history and the item is another, the new state represents them
-- all, unless memory ran out
abbrev pub AbsorbsOf : Content → Content → Item → Result Took Refusal → Type 0
AbsorbsOf old new item result =
    (config : ConfigValue) (history : History) (items : List Item) (horizon : ℕ) → IsHistory config history → Represents config history items horizon old → IsItemOf config history item
    → IfOk result (λ took. Represents config history (item ∷ items) horizon new) × IfErr result (λ why. why ≡ Memory)

-- where the old state represents items of a history, a prune up to its readable mark leaves one that represents
-- them at the greater horizon, unless memory ran out
abbrev pub PrunesOf : Content → Content → ℕ → Result (Unit {0}) Refusal → Type 0
PrunesOf old new h result =
    (config : ConfigValue) (history : History) (items : List Item) (horizon : ℕ) → Represents config history items horizon old → h ≤ readable old
    → IfOk result (λ done. Represents config history items (max horizon h) new) × IfErr result (λ why. why ≡ Memory)

-- every query is answered as before, from the horizon to the readable mark that there was
abbrev pub AnswersStay : Content → Content → Type 0
AnswersStay old new = (t : ℕ) → new.horizon ≤ t → t ≤ readable old → (query : Query) → reply new t query ≡ reply old t query
