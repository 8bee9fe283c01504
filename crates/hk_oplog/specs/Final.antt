-- What a guarded node has answered, it never answers otherwise.
use Rattle.std.specs.Prelude.{◌≡◌, ◌⊎◌, ◌≤◌, ◌++◌, ℕ, true, All, List, Option, Result, Ok, Err, IfOk, IfSome}
use Rattle.hk_types.specs.declared.faults.Refusal.{Refusal}
use Rattle.hk_types.specs.declared.faults.Refusal.TheVariants.{TooOld}
use Rattle.hk_model.specs.declared.page.PageQuery.{PageQuery}
use Rattle.hk_model.specs.declared.answer.Answer.{Answer}
use Rattle.hk_model.specs.declared.page.Page.{Page}
use Rattle.hk_model.specs.declared.query.Query.{Query}
use Rattle.hk_model.specs.Replica.Answers.{AnswerValue, answer_seen}
use Rattle.hk_model.specs.Replica.Content.{readable}
use Rattle.hk_model.specs.Replica.Lawful.{IsLawfulFragment}
use Rattle.hk_model.specs.Replica.Pages.{page_seen}
use Rattle.hk_oplog.specs.declared.op.Op.{Op}
use Rattle.hk_oplog.specs.declared.op.Op.TheVariants.{Join, Merge}
use Rattle.hk_oplog.specs.NodeContent.{NodeContent}
use Rattle.hk_oplog.specs.Replay.{guarded_of, is_legal, replay}
use Rattle.hk_oplog.specs.Replies.{node_page, node_reply}

-- an operation as it can be made: a fragment of another form is no fragment
abbrev pub IsFormed : Op → Type 0
IsFormed (Join f) = IsLawfulFragment f
IsFormed (Merge f) = IsLawfulFragment f
IsFormed _ = Unit {0}

-- after a legal list of a guarded node, and after every legal list that it goes on with, every query is answered the same
-- at each time that could be asked then and can be still. Nothing is premised of what the operations say
abbrev pub FinalLaw : Type 0
FinalLaw =
    (ops more : List Op) → All IsFormed (ops ++ more) → is_legal ops ≡ true → is_legal (ops ++ more) ≡ true → guarded_of ops ≡ true →
    (t : ℕ) → t ≤ readable (replay ops).content → (replay (ops ++ more)).content.horizon ≤ t → (query : Query) → node_reply (replay (ops ++ more)) t query ≡ node_reply (replay ops) t query

-- a node gives just this, or the time is below its horizon
abbrev pub StillGives : {X : Type 0} → NodeContent → Result X Refusal → X → Type 0
StillGives c now told = (now ≡ Ok told) ⊎ (now ≡ Err (TooOld c.content.horizon))

-- what a guarded node answered, it answers after each later list too, or the time is below the horizon there
abbrev pub AgainLaw : Type 0
AgainLaw =
    (ops more : List Op) → All IsFormed (ops ++ more) → is_legal ops ≡ true → is_legal (ops ++ more) ≡ true → guarded_of ops ≡ true →
    (t : ℕ) (query : Query) (told : AnswerValue) → node_reply (replay ops) t query ≡ Ok told → StillGives (replay (ops ++ more)) (node_reply (replay (ops ++ more)) t query) told

-- every legal list that goes on with this one
abbrev pub Later : (List Op → Type 0) → List Op → Type 0
Later holds ops = (more : List Op) → All IsFormed (ops ++ more) → is_legal (ops ++ more) ≡ true → holds (ops ++ more)

-- an answer at a time after a list is that after each later one, or the time is below the horizon there
abbrev pub IsFinal : List Op → ℕ → Query → Result Answer Refusal → Type 0
IsFinal ops t query result = IfOk result (λ a. Later (λ list. StillGives (replay list) (node_reply (replay list) t query) (answer_seen a)) ops)

-- so is the newest answer, at the time that it tells
abbrev pub IsLatestFinal : List Op → Query → Result (ℕ × Answer) Refusal → Type 0
IsLatestFinal ops query result = IfOk result (λ told. Later (λ list. StillGives (replay list) (node_reply (replay list) told.0 query) (answer_seen told.1)) ops)

-- and a page
abbrev pub IsPageFinal : List Op → ℕ → ℕ → ℕ → ℕ → ℕ → Result Page Refusal → Type 0
IsPageFinal ops t table low high most result = IfOk result (λ page. Later (λ list. StillGives (replay list) (node_page (replay list) t table low high most) (page_seen page)) ops)

-- so is one of a call that may give up, where it gave one
abbrev pub IsPageFinalOrNone : List Op → ℕ → ℕ → ℕ → ℕ → ℕ → Result (Option Page) Refusal → Type 0
IsPageFinalOrNone ops t table low high most result = IfOk result (λ found. IfSome found (λ page. IsPageFinal ops t table low high most (Ok page)))

-- the same of a page that is asked for
abbrev pub IsAskedFinal : List Op → PageQuery → Result Page Refusal → Type 0
IsAskedFinal ops of result = IsPageFinal ops of.time of.table of.low of.high of.most result

abbrev pub IsAskedFinalOrNone : List Op → PageQuery → Result (Option Page) Refusal → Type 0
IsAskedFinalOrNone ops of result = IsPageFinalOrNone ops of.time of.table of.low of.high of.most result
