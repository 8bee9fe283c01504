-- Which answers take memory.
use Rattle.std.specs.Prelude.{Bool, true, false, Some, None, Result, Ok, Err}
use Rattle.hk_types.specs.declared.faults.Refusal.{Refusal}
use Rattle.hk_model.specs.Replica.Answers.{AnswerValue, One, Rows, Number}

-- whether an answer takes memory: a number takes none, nor does it to say that there is no row
abbrev pub takes_memory : AnswerValue → Bool
takes_memory (One None) = false
takes_memory (One (Some row)) = true
takes_memory (Rows rows) = true
takes_memory (Number n) = false

-- whether what is asked takes memory: a refusal takes none
abbrev pub asking_may_lack : Result AnswerValue Refusal → Bool
asking_may_lack (Ok a) = takes_memory a
asking_may_lack (Err why) = false
