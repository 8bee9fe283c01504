-- A change adds its operation behind what was published, where its tests did not refuse it.
use Rattle.std.proofs.Common.{◌≡◌, Bool, true, false, List, [], ◌∷◌, ◌++◌, None, Result, Ok, Err, inr, refl, sym, ap, ◌∙◌, subst, true≢false}
use Rattle.hk_types.specs.declared.faults.Refusal.{Refusal}
use Rattle.hk_types.specs.declared.faults.Refusal.TheVariants.{Conflict, Unpublished, Memory}
use Rattle.hk_oplog.specs.declared.op.NodeKind.{NodeKind}
use Rattle.hk_oplog.specs.declared.op.Op.{Op}
use Rattle.hk_oplog.specs.Replay.{refusal_of, replay, guarded_of, is_legal}
use Rattle.hk_node.specs.Changes.{Lists, all_of, AddsTo, Changes, IsCaughtUp, RefusesConflict}
use Rattle.hk_oplog.proofs.GuardedLists.{guard_law_proof, replay_guarded}
use Rattle.hk_oplog.proofs.LegalLists.{kind-snoc, legal-snoc}

-- where an operation that is not refused damages a node, it is not a guarded one
unguarded : (ops : List Op) (op : Op) → is_legal ops ≡ true → refusal_of (replay ops) op ≡ None → (replay (ops ++ op ∷ [])).damaged ≡ true → (replay ops).guarded ≡ false
unguarded ops op legal none hurt = go (replay ops).guarded refl
  where
    go : (b : Bool) → (replay ops).guarded ≡ b → (replay ops).guarded ≡ false
    go false is = is
    go true is =
        let guarded : guarded_of (ops ++ op ∷ []) ≡ true = ap (λ (k : NodeKind). k.guarded) (kind-snoc ops op legal) ∙ (sym (replay_guarded ops legal) ∙ is) in
        absurd (true≢false (sym hurt ∙ guard_law_proof (ops ++ op ∷ []) (legal-snoc ops op legal none) guarded))

added : (old new : Lists) (op : Op) (r : Result (List Op) Refusal) → is_legal (all_of old) ≡ true → refusal_of (replay (all_of old)) op ≡ None → AddsTo (all_of old) op r new → Changes old op r new
added old new op (Ok told) legal none h = (none, h.0, h.1, h.2)
added old new op (Err Memory) legal none h = inr (none, h)
added old new op (Err (Unpublished n)) legal none h = (none, h.0, h.1)
added old new op (Err Conflict) legal none h = subst (λ (b : Bool). RefusesConflict b old op new) (sym (unguarded (all_of old) op legal none h.1)) (none, h.0, h.1)
added old new op (Err why) legal none h = absurd h

pub adds_changes : (old mid new : Lists) (op : Op) (r : Result (List Op) Refusal) → is_legal (all_of old) ≡ true → IsCaughtUp old mid → None ≡ refusal_of (replay mid.0) op → AddsTo mid.0 op r new → Changes old op r new
adds_changes old mid new op r legal up none h =
    added old new op r legal (ap (λ (l : Lists). refusal_of (replay l.0) op) (sym up) ∙ sym none) (subst (λ (l : Lists). AddsTo l.0 op r new) up h)
