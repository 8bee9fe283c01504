-- What a call from outside does to a replica.
use Rattle.std.specs.Prelude.{◌≡◌, ◌≢◌, ◌≤◌, ◌<◌, ℕ, Bool, ◌++◌, ◌⊎◌, ◌^◌, ◌==◌, if◌then◌else◌, List, [], Option, Some, None, Result, Ok, Err, IsOk, true, false, length, min, take, drop, nat_lt}
use Rattle.std.specs.List.{flat_map}
use Rattle.hk_types.specs.Values.{RowValue}
use Rattle.hk_types.specs.FaultNumbers.{fault_number, refusal_number}
use Rattle.hk_types.specs.declared.faults.FormFault.{FormFault}
use Rattle.hk_types.specs.declared.faults.FormFault.TheVariants.{BadNumber}
use Rattle.hk_types.specs.declared.faults.Refusal.{Refusal}
use Rattle.hk_types.specs.declared.faults.Refusal.TheVariants.{Form, Memory}
use Rattle.hk_log.specs.declared.item.Item.{Item}
use Rattle.hk_model.specs.declared.query.Query.{Query}
use Rattle.hk_model.specs.declared.query.Query.TheVariants.{Get, Range, ByTag, Count}
use Rattle.hk_model.specs.Replica.Answers.{AnswerValue, reply, One, Rows, Number}
use Rattle.hk_model.specs.Replica.Content.{Content, readable}
use Rattle.hk_model.specs.Replica.Fragments.{cut}
use Rattle.hk_codec.specs.Frames.{Adds, Feeds, KeepsFault, KeepsOnMemory, last_answer}
use Rattle.hk_answers.specs.Answers.{keyed_text}
use Rattle.hk_messages.specs.declared.reply.Reply.{Reply}
use Rattle.hk_messages.specs.declared.reply.Reply.TheVariants as replied
use Rattle.hk_messages.specs.declared.later_reply.LaterReply.{LaterReply}
use Rattle.hk_messages.specs.declared.later_reply.LaterReply.TheVariants as later
use Rattle.hk_messages.specs.declared.request.Request.{Request}
use Rattle.hk_messages.specs.declared.request.Request.TheVariants as requests
use Rattle.hk_handle.specs.declared.found.Found.{Found}
use Rattle.hk_handle.specs.declared.found.Bounds.{Bounds}
use Rattle.hk_types.specs.Values.{ConfigValue}
use Rattle.hk_types.specs.Numbers.{checked_config}
use Rattle.hk_model.specs.Replica.Replicas.{empty_content}
use Rattle.hk_query.specs.Memory.{asking_may_lack}
use Rattle.hk_state_host.specs.Steps.{Step}
use Rattle.hk_session_parts.specs.Transcript.{Transcript, PartialTranscript, IsDone, IsStopped}
use Rattle.hk_session_parts.specs.Endings.{ended_number}
use Rattle.hk_session_parts.specs.declared.ended.Ended.{Ended}
use Rattle.hk_session_parts.specs.declared.ended.Ended.TheVariants.{ReadFault}
use Rattle.hk_handle.specs.Values.{ReplicaValue}

-- no replica of this log was made: there is no such log, or memory ran out
abbrev pub NotOpened : ℕ → ℕ → ℕ → Type 0
NotOpened log streams number =
    ((fault : FormFault) × (checked_config log streams ≡ Err fault) × (number ≡ fault_number fault))
    ⊎ (IsOk (checked_config log streams) × (number ≡ 90))

-- a replica of this log that took nothing
abbrev pub IsNew : ReplicaValue → ℕ → ℕ → Type 0
IsNew r log streams =
    (config : ConfigValue) × (checked_config log streams ≡ Ok config) × (r.host.content ≡ empty_content config) × (r.host.ops ≡ 1) × (r.rest ≡ Ok [])
    × (r.reply ≡ [])

-- the handle holds a replica of this log that took nothing, where the number is 0, and nothing where it is another
abbrev pub Opened : Option ReplicaValue → ℕ → ℕ → ℕ → Type 0
Opened None log streams number = NotOpened log streams number
Opened (Some r) log streams number = (number ≡ 0) × IsNew r log streams

-- What a session on these bytes did to the replica, where it ended so: its reply is their transcript, and a front of
-- that where memory ran out.
abbrev pub Answered : ReplicaValue → ReplicaValue → List ℕ → Ended → Type 0
Answered old new bytes ended =
    (IsDone ended → Transcript 1 Step old.host new.host bytes new.reply)
    × (IsStopped ended → PartialTranscript 1 Step old.host new.host bytes new.reply)

-- the same by the number, at what a handle holds
abbrev pub Called : Option ReplicaValue → Option ReplicaValue → List ℕ → ℕ → Type 0
Called None None bytes number = number ≡ 255
Called None (Some new) bytes number = ⊥
Called (Some old) None bytes number = ⊥
Called (Some old) (Some new) bytes number = (ended : Ended) × (number ≡ ended_number ended) × (ended ≢ ReadFault) × Answered old new bytes ended × (new.rest ≡ old.rest)

-- the reply that a handle keeps
abbrev pub kept_reply : Option ReplicaValue → List ℕ
kept_reply None = []
kept_reply (Some r) = r.reply

-- what a buffer has once as much of a text of so many bytes was copied to it as there is room
abbrev pub copied_into : List ℕ → List ℕ → ℕ → List ℕ
copied_into before text count = take (min count (length before)) text ++ drop (min count (length before)) before

-- ---- reads

-- the reply to a query at a number, which is refused where it is no time
abbrev pub asked_reply : Content → ℕ → Query → Result AnswerValue Refusal
asked_reply c time query = if nat_lt (2 ^ 62) time then Err (Form BadNumber) else reply c time query

-- why a query was refused: so is its reply, or memory ran out for one that takes some
abbrev pub WhyNot : Content → ℕ → Query → Refusal → Type 0
WhyNot c time query why = (asked_reply c time query ≡ Err why) ⊎ ((why ≡ Memory) × (asking_may_lack (asked_reply c time query) ≡ true))

-- the same by the number of the refusal
abbrev pub IsRefusedBy : Content → ℕ → Query → ℕ → Type 0
IsRefusedBy c time query number = (why : Refusal) × (number ≡ refusal_number why) × WhyNot c time query why

-- what is told of the row at a key at a time, where the number is 0: the one that the replica answers
abbrev pub Told : Option RowValue → Found → List ℕ → List ℕ → Type 0
Told None found before after = (found.row ≡ false) × (after ≡ before)
Told (Some row) found before after =
    (found.row ≡ true) × (found.tag ≡ row.tag) × (found.len ≡ length row.body)
    × (after ≡ copied_into before row.body found.len)

-- a row was asked for: it is told, or it is refused, and then nothing was written
abbrev pub Got : Option ReplicaValue → ℕ → ℕ → ℕ → Found → List ℕ → List ℕ → ℕ → Type 0
Got None time table key found before after number = number ≡ 255
Got (Some r) time table key found before after number =
    ((number ≡ 0) × (row : Option RowValue) × (asked_reply r.host.content time (Get table key) ≡ Ok (One row)) × Told row found before after)
    ⊎ (IsRefusedBy r.host.content time (Get table key) number × (after ≡ before))

-- the rows of a table were counted, or it is refused
abbrev pub Counts : Option ReplicaValue → ℕ → ℕ → ℕ → ℕ → Type 0
Counts None time table count number = number ≡ 255
Counts (Some r) time table count number =
    ((number ≡ 0) × (asked_reply r.host.content time (Count table) ≡ Ok (Number count)))
    ⊎ IsRefusedBy r.host.content time (Count table) number

-- from where to where the replica can be read, and its operations
abbrev pub Bounded : Option ReplicaValue → Bounds → ℕ → Type 0
Bounded None bounds number = number ≡ 255
Bounded (Some r) bounds number =
    (number ≡ 0) × (bounds.horizon ≡ r.host.content.horizon) × (bounds.readable ≡ readable r.host.content) × (bounds.ops ≡ r.host.ops)

-- whether a query is answered with rows
abbrev pub asks_rows : Query → Bool
asks_rows (Get table key) = false
asks_rows (Range table low high) = true
asks_rows (ByTag table tag) = true
asks_rows (Count table) = false

-- the bytes of a row with its key, where the key is not below another
abbrev pub text_from : ℕ → ℕ × RowValue → List ℕ
text_from low e = if nat_lt e.0 low then [] else keyed_text e

-- the bytes of the rows from a key on
abbrev pub rows_text : ℕ → List (ℕ × RowValue) → List ℕ
rows_text low rows = flat_map (text_from low) rows

-- the rows that the replica answers were written, and are kept in the place of the last reply
abbrev pub Lists : ReplicaValue → ReplicaValue → ℕ → Query → ℕ → Type 0
Lists old new time query low =
    (rows : List (ℕ × RowValue)) × (asked_reply old.host.content time query ≡ Ok (Rows rows)) × (new.reply ≡ rows_text low rows)
    × (new.host ≡ old.host) × (new.rest ≡ old.rest)

-- the same at what a handle holds; where it is refused nothing is written
abbrev pub Listed : Option ReplicaValue → Option ReplicaValue → ℕ → Query → ℕ → ℕ → List ℕ → List ℕ → ℕ → Type 0
Listed None None time query low needed before after number = number ≡ 255
Listed None (Some new) time query low needed before after number = ⊥
Listed (Some old) None time query low needed before after number = ⊥
Listed (Some old) (Some new) time query low needed before after number =
    ((number ≡ 0) × Lists old new time query low × (needed ≡ length new.reply)
    × (after ≡ copied_into before new.reply needed))
    ⊎ (IsRefusedBy old.host.content time query number × (new ≡ old) × (after ≡ before))

-- the rows of a table from a low key to a high one were listed
abbrev pub Ranged : Option ReplicaValue → Option ReplicaValue → ℕ → ℕ → ℕ → ℕ → ℕ → List ℕ → List ℕ → ℕ → Type 0
Ranged old new time table low high needed before after number = Listed old new time (Range table low high) low needed before after number

-- the rows of a table with a tag were listed, from a key on
abbrev pub Tagged : Option ReplicaValue → Option ReplicaValue → ℕ → ℕ → ℕ → ℕ → ℕ → List ℕ → List ℕ → ℕ → Type 0
Tagged old new time table tag low needed before after number = Listed old new time (ByTag table tag) low needed before after number

-- ---- changes

-- 0 where a reply of version 2 is no refusal, else the number of the refusal
abbrev pub later_number : LaterReply → ℕ
later_number (later.Refused why) = refusal_number why
later_number other = 0

-- the same of a reply
abbrev pub reply_number : Reply → ℕ
reply_number (replied.Done ops) = 0
reply_number (replied.Front front) = 0
reply_number (replied.Fragment fragment) = 0
reply_number (replied.Answer answer) = 0
reply_number (replied.Refused why) = refusal_number why
reply_number (replied.Later reply) = later_number reply

abbrev pub done_number : Result (Unit {0}) Refusal → ℕ
done_number (Ok done) = 0
done_number (Err why) = refusal_number why

-- the host was asked this, the number is that of its reply, and nothing but the host may have changed
abbrev pub Asked : ReplicaValue → ReplicaValue → Request → ℕ → Type 0
Asked old new request number =
    (answer : Reply) × Step old.host request answer new.host × (number ≡ reply_number answer) × (new ≡ record old { host = new.host })

-- a request to take these items
abbrev pub IsItems : Request → List Item → Type 0
IsItems (requests.Items sent) items = sent.items ≡ items
IsItems requests.Front items = ⊥
IsItems (requests.Delta base) items = ⊥
IsItems requests.Full items = ⊥
IsItems (requests.Ask t query) items = ⊥
IsItems (requests.JoinThis fragment) items = ⊥
IsItems (requests.MergeThis fragment) items = ⊥
IsItems (requests.Prune horizon) items = ⊥
IsItems (requests.Feed sent) items = ⊥
IsItems (requests.Later request) items = ⊥

-- the items were taken, where there are some, as the host takes them
abbrev pub Taken : ReplicaValue → ReplicaValue → List Item → ℕ → Type 0
Taken old new items number = ((items ≡ []) × (new ≡ old) × (number ≡ 0)) ⊎ ((request : Request) × Asked old new request number × IsItems request items)

-- A piece of a stream of item frames came in. What was cut off before and the piece are read as items and what is cut
-- off now, which is kept, or as a fault; where memory ran out in reading nothing changed. The items were taken, or
-- refused together; the number is that of their refusal, else that of the fault.
pub record Absorbed (old new : ReplicaValue) (piece : List ℕ) (number : ℕ) : Type 0 where
  pub mid : ReplicaValue
  pub items : List Item
  pub fed : Result (Unit {0}) Refusal
  pub feeds : Feeds Adds old.rest mid.rest [] items piece fed
  pub fault : KeepsFault old.rest mid.rest [] items fed
  pub memory : KeepsOnMemory old.rest mid.rest [] items fed
  pub only : mid ≡ record old { rest = mid.rest }
  pub refused : ℕ
  pub taken : Taken mid new items refused
  pub told : number ≡ (if refused == 0 then done_number fed else refused)

-- the horizon was raised as the host raises it, or it is no time
abbrev pub Pruned : ReplicaValue → ReplicaValue → ℕ → ℕ → Type 0
Pruned old new horizon number =
    ((horizon ≤ 2 ^ 62) × Asked old new (requests.Prune horizon) number) ⊎ ((2 ^ 62 < horizon) × (number ≡ 6) × (new ≡ old))

-- all that a peer holds was joined as the host joins it
abbrev pub Merged : ReplicaValue → ReplicaValue → ReplicaValue → ℕ → Type 0
Merged old new peer number = Asked old new (requests.MergeThis (cut peer.host.content 0)) number

-- ---- at what handles hold

-- a call left the handle so: a closed one is told by 255 and stays closed, a live one stays live
abbrev pub AtLive : (ReplicaValue → ReplicaValue → ℕ → Type 0) → Option ReplicaValue → Option ReplicaValue → ℕ → Type 0
AtLive Done None None number = number ≡ 255
AtLive Done None (Some new) number = ⊥
AtLive Done (Some old) None number = ⊥
AtLive Done (Some old) (Some new) number = Done old new number

-- a piece of a stream of items was taken, at what a handle holds
abbrev pub AbsorbedAt : Option ReplicaValue → Option ReplicaValue → List ℕ → ℕ → Type 0
AbsorbedAt old new piece number = AtLive (λ before after count. Absorbed before after piece count) old new number

-- the replica was pruned, at what a handle holds
abbrev pub PrunedAt : Option ReplicaValue → Option ReplicaValue → ℕ → ℕ → Type 0
PrunedAt old new horizon number = AtLive (λ before after count. Pruned before after horizon count) old new number

-- the stream of items was ended, and another begun
abbrev pub Finished : ReplicaValue → ReplicaValue → ℕ → Type 0
Finished old new number = (new ≡ record old { rest = Ok [] }) × (number ≡ done_number (last_answer old.rest))

-- two handles: where one is closed nothing changes
abbrev pub MergedAt : Option ReplicaValue → Option ReplicaValue → Option ReplicaValue → ℕ → Type 0
MergedAt None new peer number = (new ≡ None) × (number ≡ 255)
MergedAt (Some old) new None number = (new ≡ Some old) × (number ≡ 255)
MergedAt (Some old) None (Some peer) number = ⊥
MergedAt (Some old) (Some new) (Some peer) number = Merged old new peer number

-- as much of a text as there is room was written, and the number is its length
abbrev pub Worded : List ℕ → List ℕ → ℕ → Type 0
Worded before after number =
    (text : List ℕ) × (number ≡ length text) × (after ≡ take (min (length text) (length before)) text ++ drop (min (length text) (length before)) before)

-- a list that is kept was written, or why there is none
abbrev pub Wrote : Result (Unit {0}) Refusal → List ℕ → ℕ → List ℕ → List ℕ → ℕ → Type 0
Wrote (Ok done) text needed before after number =
    (number ≡ 0) × (needed ≡ length text) × (after ≡ take (min needed (length before)) text ++ drop (min needed (length before)) before)
Wrote (Err why) text needed before after number = (number ≡ refusal_number why) × (needed ≡ 0) × (after ≡ before)
