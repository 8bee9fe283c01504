-- What a node replies to its readers.
use Rattle.std.specs.Prelude.{◌≡◌, ◌⊎◌, ◌<◌, ℕ, map, nat_lt, if◌then◌else◌, Option, MatchOption, Result, Ok, Err, MatchResult}
use Rattle.std.specs.Option.{option_map}
use Rattle.hk_types.specs.declared.faults.Refusal.{Refusal}
use Rattle.hk_types.specs.declared.faults.Refusal.TheVariants.{Damaged, TooOld, Memory}
use Rattle.hk_model.specs.declared.page.PageQuery.{PageQuery}
use Rattle.hk_model.specs.declared.answer.Answer.{Answer}
use Rattle.hk_model.specs.declared.front.Front.{Front}
use Rattle.hk_model.specs.declared.page.Page.{Page}
use Rattle.hk_model.specs.declared.query.Query.{Query}
use Rattle.hk_model.specs.declared.query.Query.TheVariants.{Get, Range, ByTag, Count}
use Rattle.hk_model.specs.Replica.Answers.{AnswerValue, answer_seen, reply}
use Rattle.hk_model.specs.Replica.Content.{readable}
use Rattle.hk_model.specs.Replica.Fragments.{FragmentValue, cut}
use Rattle.hk_model.specs.Replica.Pages.{PageValue, page_reply, page_seen}
use Rattle.hk_model.specs.Replica.StreamsTold.{StreamsValue}
use Rattle.hk_marks.specs.Told.{stream_told}
use Rattle.hk_chains.specs.Reads.{facts_of_content, rows_ranged}
use Rattle.hk_chains.specs.Sizes.{answer_size}
use Rattle.hk_oplog.specs.NodeContent.{NodeContent}
use Rattle.hk_oplog.specs.Replay.{least_hold}

abbrev pub node_reply : NodeContent → ℕ → Query → Result AnswerValue Refusal
node_reply c t query = if c.damaged then Err Damaged else reply c.content t query

-- the reply at the readable mark, with that time
abbrev pub with_time : ℕ → Result AnswerValue Refusal → Result (ℕ × AnswerValue) Refusal
with_time t (Ok a) = Ok (t, a)
with_time t (Err why) = Err why

abbrev pub node_latest : NodeContent → Query → Result (ℕ × AnswerValue) Refusal
node_latest c query = with_time (readable c.content) (node_reply c (readable c.content) query)

-- An answer may be too long for so much room where it is one of rows; that to a range is where these take more. Of rows with
-- a tag nothing is said.
abbrev pub MayBeLong : NodeContent → ℕ → ℕ → Query → Type 0
MayBeLong c t room (Get table key) = ⊥
MayBeLong c t room (Range table low high) = room < answer_size (rows_ranged (facts_of_content c.content) t table low high)
MayBeLong c t room (ByTag table tag) = Unit {0}
MayBeLong c t room (Count table) = ⊥

-- the first page of what is replied to a range
abbrev pub node_page : NodeContent → ℕ → ℕ → ℕ → ℕ → ℕ → Result PageValue Refusal
node_page c t table low high most = page_reply most (node_reply c t (Range table low high))

-- the one that is asked for
abbrev pub page_asked : NodeContent → PageQuery → Result PageValue Refusal
page_asked c of = node_page c of.time of.table of.low of.high of.most

-- how far the node is, and each of its streams: of a damaged one too
abbrev pub node_streams : NodeContent → StreamsValue
node_streams c =
    record {
      log = c.content.log;
      horizon = c.content.horizon;
      readable = readable c.content;
      damaged = c.damaged;
      operations = c.op_count;
      least_hold = option_map (λ h. h.at) (least_hold c.holds);
      streams = map stream_told c.content.streams;
    }

abbrev pub node_front : NodeContent → Result Front Refusal
node_front c = if c.damaged then Err Damaged else Ok (record { horizon = c.content.horizon; readable = readable c.content })

abbrev pub node_delta : NodeContent → ℕ → Result FragmentValue Refusal
node_delta c base =
    if c.damaged then Err Damaged
    else if nat_lt base c.content.horizon then Err (TooOld c.content.horizon)
    else Ok (cut c.content base)

abbrev pub node_whole : NodeContent → Result FragmentValue Refusal
node_whole c = if c.damaged then Err Damaged else Ok (cut c.content 0)

-- a call gave just this, or memory ran out
abbrev pub GivesOrMemory : {X : Type 0} → Result X Refusal → Result X Refusal → Type 0
GivesOrMemory wanted result = MatchResult result (λ x. wanted ≡ Ok x) (λ why. (why ≡ Memory) ⊎ (wanted ≡ Err why))

-- a call gave what is seen as just this, or memory ran out
abbrev pub GivesSeen : {X Y : Type 0} → (X → Y) → Result Y Refusal → Result X Refusal → Type 0
GivesSeen seen wanted result = MatchResult result (λ x. wanted ≡ Ok (seen x)) (λ why. (why ≡ Memory) ⊎ (wanted ≡ Err why))

-- a call that may give up gave just this page, or nothing, or memory ran out
abbrev pub GivesPageOrNone : NodeContent → ℕ → ℕ → ℕ → ℕ → ℕ → Result (Option Page) Refusal → Type 0
GivesPageOrNone c t table low high most result =
    MatchResult result (λ found. MatchOption found (Unit {0}) (λ page. node_page c t table low high most ≡ Ok (page_seen page)))
    (λ why. (why ≡ Memory) ⊎ (node_page c t table low high most ≡ Err why))

-- an answer as it is seen, with the time that it is of
abbrev pub timed_seen : ℕ × Answer → ℕ × AnswerValue
timed_seen told = (told.0, answer_seen told.1)

abbrev pub Answers : Result AnswerValue Refusal → Result Answer Refusal → Type 0
Answers wanted result = MatchResult result (λ a. wanted ≡ Ok (answer_seen a)) (λ why. (why ≡ Memory) ⊎ (wanted ≡ Err why))
