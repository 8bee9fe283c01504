-- What a call under the writer's lock answers, at some list.
use Rattle.std.proofs.Common.{ℕ, List, Option, Result, Ok, Err}
use Rattle.std.specs.Prelude.{IfErr}
use Rattle.hk_types.specs.declared.faults.Refusal.{Refusal}
use Rattle.hk_log.specs.declared.item.Item.{Item}
use Rattle.hk_oplog.specs.declared.op.Hold.{Hold}
use Rattle.hk_oplog.specs.declared.op.NodeKind.{NodeKind}
use Rattle.hk_oplog.specs.declared.op.Op.{Op}
use Rattle.hk_oplog.specs.Replay.{IsListOf}
use Rattle.hk_node.specs.Changes.{Lists, all_of, Changes, ChangesSome, CountedAs, HoldsAt, HoldsSome, IsHandedOut, Prunes, PrunesSome, ReleasesHold, ReleasesSome}
use Rattle.hk_node.specs.Guarded.{TakesItems, TakesSome}

pub counts_some : (kind : NodeKind) (old new : Lists) (op : Op) (r : Result (ℕ × List Op) Refusal) → IsListOf kind (all_of old) → CountedAs (λ s. Changes old op s new) r → CountedAs (ChangesSome kind op) r
counts_some kind old new op (Ok t) list h = (old, new, list, h)
counts_some kind old new op (Err why) list h = (old, new, list, h)

pub takes_some : (kind : NodeKind) (old new : Lists) (items : List Item) (r : Result (ℕ × List Op) Refusal) → IsListOf kind (all_of old) → CountedAs (λ s. TakesItems old items s new) r → CountedAs (TakesSome kind items) r
takes_some kind old new items (Ok t) list h = (old, new, list, h)
takes_some kind old new items (Err why) list h = (old, new, list, h)

pub prunes_some : (kind : NodeKind) (old new : Lists) (time : ℕ) (r : Result (ℕ × List Op) Refusal) → IsListOf kind (all_of old) → Prunes old time r new → PrunesSome kind time r
prunes_some kind old new time (Ok t) list h = (old, new, list, h)
prunes_some kind old new time (Err why) list h = (old, new, list, h)

pub holds_some : (kind : NodeKind) (old new : Lists) (time : ℕ) (r : Result (Hold × List Op) (Option Hold × Refusal)) → IsListOf kind (all_of old) → HoldsAt old time r new → IfErr r (λ e. IsHandedOut (all_of new) time e.0 e.1) → HoldsSome kind time r
holds_some kind old new time (Ok t) list h out = (old, new, list, h)
holds_some kind old new time (Err e) list h out = (old, new, list, h, out)

pub releases_some : (kind : NodeKind) (old new : Lists) (hold : Hold) (r : Result (List Op) (Option Hold × Refusal)) → IsListOf kind (all_of old) → ReleasesHold old hold r new → ReleasesSome kind hold r
releases_some kind old new hold (Ok told) list h = (old, new, list, h)
releases_some kind old new hold (Err e) list h = (old, new, list, h)
