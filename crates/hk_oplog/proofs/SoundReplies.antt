-- A node that is not damaged never replies that it is.
use Rattle.std.proofs.Common.{◌≡◌, ◌≢◌, ◌⊎◌, ℕ, Bool, true, false, if◌then◌else◌, List, Result, Ok, Err, IfErr, inl, inr, sym, subst, ◌∙◌}
use Rattle.std.specs.Prelude.{nat_lt, MatchResult}
use Rattle.hk_types.specs.declared.faults.Refusal.{Refusal}
use Rattle.hk_types.specs.declared.faults.Refusal.TheVariants.{Damaged, Memory, TooOld, NotYet}
use Rattle.hk_model.specs.declared.front.Front.{Front}
use Rattle.hk_model.specs.declared.query.Query.{Query}
use Rattle.hk_model.specs.declared.query.Query.TheVariants.{Range}
use Rattle.hk_model.specs.Replica.Answers.{AnswerValue, answer, visible}
use Rattle.hk_model.specs.Replica.Content.{readable}
use Rattle.hk_model.specs.Replica.Fragments.{cut}
use Rattle.hk_model.specs.Replica.Pages.{page_reply}
use Rattle.hk_oplog.specs.declared.op.NodeKind.{NodeKind}
use Rattle.hk_oplog.specs.declared.op.Op.{Op}
use Rattle.hk_oplog.specs.NodeContent.{NodeContent}
use Rattle.hk_oplog.specs.Replay.{replay, IsListOf}
use Rattle.hk_oplog.specs.Replies.{node_delta, node_front, node_latest, node_page, node_reply, node_whole, with_time}
use Rattle.hk_oplog.proofs.GuardedLists.{list_sound}

abbrev IsSound : {X : Type 0} → Result X Refusal → Type 0
IsSound r = IfErr r (λ why. why ≢ Damaged)

sound_reply : (c : NodeContent) (t : ℕ) (q : Query) → c.damaged ≡ false → IsSound (node_reply c t q)
sound_reply c t q = go c.damaged (nat_lt t c.content.horizon) (nat_lt (readable c.content) t)
  where
    go : (d x y : Bool) → d ≡ false → IsSound (if d then Err Damaged else if x then Err (TooOld c.content.horizon) else if y then Err (NotYet (readable c.content)) else Ok (answer (visible c.content t) q))
    go true x y whole = absurd (cc)
    go false true y whole = λ e. cc e
    go false false true whole = λ e. cc e
    go false false false whole = tt

timed_sound : (t : ℕ) (r : Result AnswerValue Refusal) → IsSound r → IsSound (with_time t r)
timed_sound t (Ok a) sound = tt
timed_sound t (Err why) sound = sound

paged_sound : (most : ℕ) (r : Result AnswerValue Refusal) → IsSound r → IsSound (page_reply most r)
paged_sound most (Ok a) sound = tt
paged_sound most (Err why) sound = sound

sound_front : (c : NodeContent) → c.damaged ≡ false → IsSound (node_front c)
sound_front c = go c.damaged (record { horizon = c.content.horizon; readable = readable c.content })
  where
    go : (d : Bool) (front : Front) → d ≡ false → IsSound (if d then Err Damaged else Ok front)
    go true front whole = absurd (cc)
    go false front whole = tt

sound_delta : (c : NodeContent) (base : ℕ) → c.damaged ≡ false → IsSound (node_delta c base)
sound_delta c base = go c.damaged (nat_lt base c.content.horizon)
  where
    go : (d x : Bool) → d ≡ false → IsSound (if d then Err Damaged else if x then Err (TooOld c.content.horizon) else Ok (cut c.content base))
    go true x whole = absurd (cc)
    go false true whole = λ e. cc e
    go false false whole = tt

sound_whole : (c : NodeContent) → c.damaged ≡ false → IsSound (node_whole c)
sound_whole c = go c.damaged
  where
    go : (d : Bool) → d ≡ false → IsSound (if d then Err Damaged else Ok (cut c.content 0))
    go true whole = absurd (cc)
    go false whole = tt

not_memory : Memory ≡ Damaged → ⊥
not_memory e = cc e

-- a call gave this, or memory ran out
gave_sound : {X Y : Type 0} (A : X → Type 0) (wanted : Result Y Refusal) (r : Result X Refusal) → IsSound wanted → MatchResult r A (λ why. (why ≡ Memory) ⊎ (wanted ≡ Err why)) → IsSound r
gave_sound A wanted (Ok x) sound gave = tt
gave_sound {X} {Y} A wanted (Err why) sound gave = elim gave [
  | inl m ↦ λ e. not_memory (sym m ∙ e)
  | inr w ↦ subst (λ (q : Result Y Refusal). IsSound q) w sound
]

module _ {X : Type 0} (A : X → Type 0) (kind : NodeKind) (ops : List Op) (r : Result X Refusal) (of : IsListOf kind ops) where
  pub asked_sound : (t : ℕ) (q : Query) → MatchResult r A (λ why. (why ≡ Memory) ⊎ (node_reply (replay ops) t q ≡ Err why)) → kind.guarded ≡ true → IsSound r
  asked_sound t q gave is = gave_sound A (node_reply (replay ops) t q) r (sound_reply (replay ops) t q (list_sound kind ops of is)) gave

  pub latest_sound : (q : Query) → MatchResult r A (λ why. (why ≡ Memory) ⊎ (node_latest (replay ops) q ≡ Err why)) → kind.guarded ≡ true → IsSound r
  latest_sound q gave is =
      let t = readable (replay ops).content in
      gave_sound A (node_latest (replay ops) q) r (timed_sound t (node_reply (replay ops) t q) (sound_reply (replay ops) t q (list_sound kind ops of is))) gave

  pub page_sound : (t table low high most : ℕ) → MatchResult r A (λ why. (why ≡ Memory) ⊎ (node_page (replay ops) t table low high most ≡ Err why)) → kind.guarded ≡ true → IsSound r
  page_sound t table low high most gave is =
      gave_sound A (node_page (replay ops) t table low high most) r
      (paged_sound most (node_reply (replay ops) t (Range table low high)) (sound_reply (replay ops) t (Range table low high) (list_sound kind ops of is))) gave

  pub front_sound : MatchResult r A (λ why. (why ≡ Memory) ⊎ (node_front (replay ops) ≡ Err why)) → kind.guarded ≡ true → IsSound r
  front_sound gave is = gave_sound A (node_front (replay ops)) r (sound_front (replay ops) (list_sound kind ops of is)) gave

  pub delta_sound : (base : ℕ) → MatchResult r A (λ why. (why ≡ Memory) ⊎ (node_delta (replay ops) base ≡ Err why)) → kind.guarded ≡ true → IsSound r
  delta_sound base gave is = gave_sound A (node_delta (replay ops) base) r (sound_delta (replay ops) base (list_sound kind ops of is)) gave

  pub whole_sound : MatchResult r A (λ why. (why ≡ Memory) ⊎ (node_whole (replay ops) ≡ Err why)) → kind.guarded ≡ true → IsSound r
  whole_sound gave is = gave_sound A (node_whole (replay ops)) r (sound_whole (replay ops) (list_sound kind ops of is)) gave
