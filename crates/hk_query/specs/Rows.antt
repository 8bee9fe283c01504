-- What facts show.
use Rattle.std.specs.Prelude.{ℕ, Option}
use Rattle.std.specs.FinMap as finmap
use Rattle.hk_types.specs.Values.{RowValue}
use Rattle.hk_model.specs.Replica.Answers.{AnswerValue, answer, visible}
use Rattle.hk_model.specs.declared.query.Query.{Query}
use Rattle.hk_store.specs.Facts.{FactsValue}
use Rattle.hk_store.specs.Reads.{with_facts}

-- the row that facts show at t at a key
abbrev pub row_of : FactsValue → ℕ → ℕ → ℕ → Option RowValue
row_of f t table key = finmap.get (visible (with_facts f) t) (record { table = table; key = key })

-- what facts answer to a query at t
abbrev pub answer_of : FactsValue → ℕ → Query → AnswerValue
answer_of f t query = answer (visible (with_facts f) t) query
