-- An answer beside its definition, and beside the primary's rows.
use Rattle.std.specs.Prelude.{◌≡◌, ◌⊎◌, ◌≤◌, ℕ, List, Result, Ok, Err, IfOk, IfErr, MatchResult}
use Rattle.hk_types.specs.Values.{ConfigValue}
use Rattle.hk_types.specs.declared.faults.Refusal.{Refusal}
use Rattle.hk_types.specs.declared.faults.Refusal.TheVariants.{Memory}
use Rattle.hk_log.specs.declared.item.Item.{Item}
use Rattle.hk_model.specs.declared.answer.Answer.{Answer}
use Rattle.hk_model.specs.declared.query.Query.{Query}
use Rattle.hk_model.specs.Replica.Content.{Content, readable}
use Rattle.hk_model.specs.History.Histories.{History, commits, IsHistory, table_at}
use Rattle.hk_model.specs.Replica.Replicas.{Represents}
use Rattle.hk_model.specs.Replica.Answers.{answer, answer_seen, reply, visible}

-- where the content represents items of a history, from its horizon to its readable mark the answer is that
-- on the primary's rows at that time, unless memory ran out
abbrev pub IsOfPrimary : Content → ℕ → Query → Result Answer Refusal → Type 0
IsOfPrimary c t query result =
    (config : ConfigValue) (history : History) (items : List Item) (horizon : ℕ) → IsHistory config history → Represents config history items horizon c → horizon ≤ t → t ≤ readable c
    → IfOk result (λ a. answer_seen a ≡ answer (table_at (commits history) t) query) × IfErr result (λ why. why ≡ Memory)

-- and so it is at the readable mark
abbrev pub IsLatestOfPrimary : Content → Query → Result (ℕ × Answer) Refusal → Type 0
IsLatestOfPrimary c query result =
    (config : ConfigValue) (history : History) (items : List Item) (horizon : ℕ) → IsHistory config history → Represents config history items horizon c
    → IfOk result (λ told. answer_seen told.1 ≡ answer (table_at (commits history) told.0) query)

-- the reply is the definition's, or memory ran out where that is an answer
abbrev pub Replies : Content → ℕ → Query → Result Answer Refusal → Type 0
Replies c t query result =
    MatchResult result (λ a. reply c t query ≡ Ok (answer_seen a))
    (λ why. (reply c t query ≡ Err why) ⊎ ((why ≡ Memory) × (reply c t query ≡ Ok (answer (visible c t) query))))
