-- What joins and merges leave and answer.
use Rattle.std.specs.Prelude.{◌≡◌, ◌==◌, ◌++◌, ℕ, max, not, if◌then◌else◌, length, List, Option, Some, None, Result, IfOk, IfErr}
use Rattle.hk_types.specs.OrMemory.{ChangesOrMemory}
use Rattle.hk_types.specs.Values.{ConfigValue}
use Rattle.hk_types.specs.declared.faults.Refusal.{Refusal}
use Rattle.hk_types.specs.declared.faults.Refusal.TheVariants.{Conflict, ForeignLog, Memory, WrongStreams}
use Rattle.hk_log.specs.declared.item.Item.{Item}
use Rattle.hk_model.specs.Replica.Content.{Content}
use Rattle.hk_model.specs.Replica.Fragments.{FragmentValue, cut}
use Rattle.hk_model.specs.History.Histories.{History, IsHistory}
use Rattle.hk_model.specs.Replica.Replicas.{Represents}
use Rattle.hk_model.specs.Replica.Rules.{contents_conflict, join_result}

-- a join left what joining gives, or it changed nothing: it was refused so, or memory ran out where joining
-- gives a content
abbrev pub Joins : Content → Content → FragmentValue → Result (Unit {0}) Refusal → Type 0
Joins old new f result = ChangesOrMemory old new (join_result old f) result

-- a merge is the join of the whole
abbrev pub Merges : Content → Content → Content → Result (Unit {0}) Refusal → Type 0
Merges old new peer result = Joins old new (cut peer 0) result

-- where both represent items of one history, the target represents all of them at the greater horizon, unless
-- memory ran out
abbrev pub MergesOf : Content → Content → Content → Result (Unit {0}) Refusal → Type 0
MergesOf old new peer result =
    (config : ConfigValue) (history : History) (own others : List Item) (g h : ℕ) → IsHistory config history → Represents config history own g old → Represents config history others h peer
    → IfOk result (λ done. Represents config history (own ++ others) (max g h) new) × IfErr result (λ why. why ≡ Memory)

-- why a fragment of the log that leaves no gap is not joined, where memory was refused
abbrev pub refusal_of : Content → FragmentValue → Refusal
refusal_of old f = if contents_conflict old f.content then Conflict else Memory

-- why what is of a log is none of the target's, if it is none: of another log, or with another number of streams
abbrev pub wrong_log_of : Content → ConfigValue → Option Refusal
wrong_log_of target config =
    if not (config.log == target.log) then Some ForeignLog
    else if not (config.streams == length target.streams) then Some WrongStreams else None
