-- What calls on a primary leave and tell.
use Rattle.std.specs.Prelude.{◌≡◌, ◌⊎◌, ◌<◌, ◌≤◌, ℕ, List, ◌∷◌, Option, Some, None, Result, Ok, Err, true, length, nat_lt, if◌then◌else◌}
use Rattle.std.specs.Option.{option_map}
use Rattle.hk_types.specs.declared.faults.Refusal.{Refusal}
use Rattle.hk_types.specs.declared.faults.Refusal.TheVariants.{Memory, NoStream, NotYet, Retired}
use Rattle.hk_log.specs.declared.item.Item.{Item}
use Rattle.hk_log.specs.declared.item.Item.TheVariants.{Commit, Closed}
use Rattle.hk_log.specs.Items.{EntryValue, MarkValue}
use Rattle.hk_types.specs.Values.{ConfigValue}
use Rattle.hk_model.specs.History.Histories.Act.{Commits}
use Rattle.hk_model.specs.History.Histories.{Transaction, commits, is_retired, entry_of, history_with_mark, table_at}
use Rattle.hk_model.specs.Replica.Answers.{AnswerValue, answer}
use Rattle.hk_model.specs.World.Worlds.{mark_now, readable_on_primary, retirement}
use Rattle.hk_model.specs.declared.query.Query.{Query}
use Rattle.hk_query.specs.Memory.{takes_memory}
use Rattle.hk_primary.specs.Log.{PrimaryValue, with_item, IsHonest}
use Rattle.hk_primary.specs.Txns.{IsRefusal, TxnValue}
use Rattle.hk_primary.specs.Verdicts.{committed_after}

-- what a primary makes of a transaction on a stream
abbrev pub verdict_of : PrimaryValue → TxnValue → ℕ → Result (Option Transaction) Refusal
verdict_of p txn stream = committed_after p.config p.after p.history stream txn.read_at txn.writes

-- the time of a transaction, if there is one
abbrev pub time_of : Option Transaction → Option ℕ
time_of None = None
time_of (Some t) = Some t.time

-- the verdict, by its time
abbrev pub verdict_time : Result (Option Transaction) Refusal → Result (Option ℕ) Refusal
verdict_time (Ok t) = Ok (time_of t)
verdict_time (Err why) = Err why

-- a commit told what the verdict says; memory runs out only where a transaction is accepted
abbrev pub Tells : Result (Option Transaction) Refusal → Result (Option ℕ) (TxnValue × Refusal) → Type 0
Tells (Ok t) (Ok time) = time ≡ time_of t
Tells (Ok None) (Err e) = ⊥
Tells (Ok (Some t)) (Err e) = e.1 ≡ Memory
Tells (Err why) (Ok time) = ⊥
Tells (Err why) (Err e) = e.1 ≡ why

-- the entry of a transaction that comes next
abbrev pub next_entry : PrimaryValue → Transaction → EntryValue
next_entry p t = entry_of p.config (commits p.history) t

-- an accepted transaction extends the history, and its entry the log
abbrev pub with_transaction : PrimaryValue → Transaction → PrimaryValue
with_transaction p t = with_item p (Commits t ∷ p.history) (Commit (next_entry p t))

-- the primary after this verdict
abbrev pub primary_after : PrimaryValue → Result (Option Transaction) Refusal → PrimaryValue
primary_after p (Ok (Some t)) = with_transaction p t
primary_after p (Ok None) = p
primary_after p (Err why) = p

-- how many items a commit emitted that answered this time, if one
abbrev pub items_of : Option ℕ → ℕ
items_of None = 0
items_of (Some time) = 1

-- ---- a shared primary

-- the configuration of no primary
abbrev pub no_config : ConfigValue
no_config = record { log = 0; streams = 0 }

-- some primary of this configuration meets it, whose clock starts after this time, whose log holds items of its own
-- history alone, and at least so many of them
abbrev pub AtSome : ConfigValue → ℕ → ℕ → (PrimaryValue → Type 0) → Type 0
AtSome config after least P = (p : PrimaryValue) × IsHonest p × (p.config ≡ config) × (p.after ≡ after)
    × (least ≤ length p.items) × P p

-- why a primary emits no mark of a stream, if it emits none: it has no such stream, or the stream is retired
abbrev pub mark_refused : PrimaryValue → ℕ → Option Refusal
mark_refused p stream =
    if nat_lt p.config.streams stream then Some NoStream
    else if is_retired p.history stream then Some (Retired stream)
    else None

-- a mark of a stream was rightly refused: the primary emits none, or memory ran out
abbrev pub NotMarked : PrimaryValue → ℕ → Refusal → Type 0
NotMarked p stream why = IsRefusal (mark_refused p stream) why

-- the mark of a stream that a primary emits
abbrev pub mark_of : PrimaryValue → ℕ → MarkValue
mark_of p stream = mark_now p.config p.history stream

-- the mark with which a primary retires a stream
abbrev pub last_mark_of : PrimaryValue → ℕ → MarkValue
last_mark_of p stream = retirement p.config p.history stream

-- the primary after a mark was emitted
abbrev pub with_mark : PrimaryValue → MarkValue → PrimaryValue
with_mark p m = with_item p (history_with_mark p.history m) (Closed m)

-- the greatest time that may be read on a primary
abbrev pub readable_on : PrimaryValue → ℕ
readable_on p = readable_on_primary p.config p.history

-- what a primary answers to a query on the rows that the commits up to a time left
abbrev pub answer_on : PrimaryValue → ℕ → Query → AnswerValue
answer_on p time query = answer (table_at (commits p.history) time) query

-- a query at a time was rightly answered: the time may be read, and this is the answer
abbrev pub IsAnswered : PrimaryValue → ℕ → Query → AnswerValue → Type 0
IsAnswered p time query a = (a ≡ answer_on p time query) × (time ≤ readable_on p)

-- a query at a time was rightly refused: the time is above what may be read, which is told; or memory ran out for an answer that
-- takes some
abbrev pub NotAnswered : PrimaryValue → ℕ → Query → Refusal → Type 0
NotAnswered p time query why =
    ((readable_on p < time) × (why ≡ NotYet (readable_on p)))
    ⊎ ((time ≤ readable_on p) × (why ≡ Memory) × (takes_memory (answer_on p time query) ≡ true))
