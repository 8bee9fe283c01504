-- Lists of operations that carry parts of one history.
use Rattle.std.specs.Prelude.{◌≡◌, ◌⊎◌, ◌≤◌, ◌++◌, ℕ, max, true, false, List, [], ◌∷◌, Result, IfOk}
use Rattle.hk_types.specs.Values.{ConfigValue}
use Rattle.hk_types.specs.declared.faults.Refusal.{Refusal}
use Rattle.hk_log.specs.declared.item.Item.{Item}
use Rattle.hk_model.specs.declared.answer.Answer.{Answer}
use Rattle.hk_model.specs.declared.query.Query.{Query}
use Rattle.hk_model.specs.Replica.Answers.{answer, answer_seen}
use Rattle.hk_model.specs.Replica.ContentOf.{content_of}
use Rattle.hk_model.specs.Replica.Content.{readable}
use Rattle.hk_model.specs.Replica.Fragments.{FragmentValue, part}
use Rattle.hk_model.specs.History.Histories.{History, commits, IsHistory, AreItemsOf, table_at}
use Rattle.hk_model.specs.Replica.Replicas.{Represents}
use Rattle.hk_oplog.specs.declared.op.Op.{Op}
use Rattle.hk_oplog.specs.declared.op.Op.TheVariants.{Start, Join, Merge, Prune, Hold as HoldAt, Release}
use Rattle.hk_oplog.specs.NodeContent.{NodeContent}
use Rattle.hk_oplog.specs.Replay.{start_content, prune_reach, content_after_op, config_of, kind_of, replay, is_legal, tail_of}

-- a fragment is a part of a history: of these items, at this horizon
pub record IsPart (config : ConfigValue) (history : History) (items : List Item) (horizon : ℕ) (f : FragmentValue) : Type 0 where
  pub of_history : AreItemsOf config history items
  pub within : horizon ≤ readable (content_of config items horizon)
  pub base : (f.base ≡ 0) ⊎ (horizon ≤ f.base)
  pub is_part : f ≡ part config items horizon f.base

-- after items and a greatest horizon, in a node that holds this, the joins and merges of a list carry parts of a
-- history, which bring it to all of these items and this greatest horizon joined, or reached by a prune
abbrev pub Brings : ConfigValue → History → NodeContent → List Op → List Item → ℕ → List Item → ℕ → Type 0
Brings config history c [] own g all h = (all ≡ own) × (h ≡ g)
Brings config history c (Join f ∷ ops) own g all h = (items : List Item) × (k : ℕ) × IsPart config history items k f × Brings config history (content_after_op c (Join f)) ops (own ++ items) (max g k) all h
Brings config history c (Merge f ∷ ops) own g all h = (items : List Item) × (k : ℕ) × IsPart config history items k f × Brings config history (content_after_op c (Merge f)) ops (own ++ items) (max g k) all h
Brings config history c (Prune t ∷ ops) own g all h = Brings config history (content_after_op c (Prune t)) ops own (max g (prune_reach c t)) all h
Brings config history c (HoldAt at ∷ ops) own g all h = Brings config history (content_after_op c (HoldAt at)) ops own g all h
Brings config history c (Release reader at ∷ ops) own g all h = Brings config history (content_after_op c (Release reader at)) ops own g all h
Brings config history c (Start other ∷ ops) own g all h = ⊥

-- each join and merge of a node's list carries a part of a history: these items in all, and this greatest horizon
-- joined, or reached by a prune, 0 where there is none
abbrev pub Carries : History → List Op → List Item → ℕ → Type 0
Carries history ops items horizon = Brings (config_of ops) history (start_content (kind_of ops)) (tail_of ops) [] 0 items horizon

-- where a legal list carries parts of one history, its content represents them, and there is no damage
abbrev pub CarryLaw : Type 0
CarryLaw =
    (history : History) (ops : List Op) (items : List Item) (horizon : ℕ) → is_legal ops ≡ true → IsHistory (config_of ops) history → Carries history ops items horizon
    → Represents (config_of ops) history items horizon (replay ops).content × ((replay ops).damaged ≡ false)

-- where the list carries parts of one history, the answer is that on the primary's rows
abbrev pub IsOfPrimary : List Op → ℕ → Query → Result Answer Refusal → Type 0
IsOfPrimary ops t query result =
    (history : History) (items : List Item) (horizon : ℕ) → IsHistory (config_of ops) history → Carries history ops items horizon
    → IfOk result (λ a. answer_seen a ≡ answer (table_at (commits history) t) query)

-- and the newest answer is that at the time that it tells
abbrev pub IsLatestOfPrimary : List Op → Query → Result (ℕ × Answer) Refusal → Type 0
IsLatestOfPrimary ops query result =
    (history : History) (items : List Item) (horizon : ℕ) → IsHistory (config_of ops) history → Carries history ops items horizon
    → IfOk result (λ told. answer_seen told.1 ≡ answer (table_at (commits history) told.0) query)
