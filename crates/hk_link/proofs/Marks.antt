-- A node's marks never fall.
use Rattle.std.proofs.Common.{◌≡◌, List, [], ◌∷◌, ◌++◌, Option, Some, None, Result, Ok, Err, fold, refl, sym, subst, arith}
use Rattle.hk_types.specs.declared.faults.Refusal.{Refusal}
use Rattle.hk_model.specs.Replica.Content.{Content}
use Rattle.hk_model.specs.Replica.Fragments.{FragmentValue}
use Rattle.hk_model.specs.Replica.Past.{IsLater}
use Rattle.hk_model.specs.Replica.Rules.{join_result, prune_result}
use Rattle.hk_model.proofs.Replica.Past.{joined_later, later_itself, pruned_later}
use Rattle.hk_oplog.specs.declared.op.Op.{Op}
use Rattle.hk_oplog.specs.declared.op.Op.TheVariants.{Start, Join, Merge, Prune, Hold as HoldAt, Release}
use Rattle.hk_oplog.specs.NodeContent.{NodeContent}
use Rattle.hk_oplog.specs.Replay.{after_join, after_prune, content_after_op, effect, prune_reach, replay, start_content, unfit_of, unless}
use Rattle.hk_link.specs.Sharing.{MarksLaw}

then_later : (a b c : Content) → IsLater a b → IsLater b c → IsLater a c
then_later a b c p q = let w = p.0 in let x = p.1 in let y = q.0 in let z = q.1 in (omega arith, omega arith)

joined : (c : NodeContent) (f : FragmentValue) (r : Result Content Refusal) → join_result c.content f ≡ r → IsLater c.content (after_join c r).content
joined c f (Ok d) e = joined_later c.content f d e
joined c f (Err why) e = later_itself c.content

pruned : (c : NodeContent) (n : _) (r : Result Content Refusal) → prune_result c.content n ≡ r → IsLater c.content (after_prune c r).content
pruned c n (Ok d) e = pruned_later c.content n d e
pruned c n (Err why) e = later_itself c.content

made : (c : NodeContent) (op : Op) → unfit_of c op ≡ None → IsLater c.content (effect c op).content
made c (Start kind) e = absurd cc
made c (Join f) e = joined c f (join_result c.content f) refl
made c (Merge f) e = joined c f (join_result c.content f) refl
made c (Prune n) e = pruned c (prune_reach c n) (prune_result c.content (prune_reach c n)) refl
made c (HoldAt at) e = later_itself c.content
made c (Release reader at) e = later_itself c.content

one_op : (c : NodeContent) (op : Op) (why : Option Refusal) → unfit_of c op ≡ why → IsLater c.content (unless why c (effect c op)).content
one_op c op None e = made c op e
one_op c op (Some why) e = later_itself c.content

all_ops : (c : NodeContent) (ops : List Op) → IsLater c.content (fold content_after_op c ops).content
all_ops c [] = later_itself c.content
all_ops c (op ∷ ops) = then_later c.content (content_after_op c op).content (fold content_after_op (content_after_op c op) ops).content (one_op c op (unfit_of c op) refl) (all_ops (content_after_op c op) ops)

fold-append : {A B : Type 0} (f : A → B → A) (a : A) (xs ys : List B) → fold f a (xs ++ ys) ≡ fold f (fold f a xs) ys
fold-append f a [] ys = refl
fold-append f a (x ∷ xs) ys = fold-append f (f a x) xs ys

pub marks_law_proof : MarksLaw
marks_law_proof [] more legal = absurd cc
marks_law_proof (Start kind ∷ ops) more legal =
    subst (λ (c : NodeContent). IsLater (replay (Start kind ∷ ops)).content c.content) (sym (fold-append content_after_op (start_content kind) ops more))
    (all_ops (replay (Start kind ∷ ops)) more)
marks_law_proof (Join f ∷ ops) more legal = absurd cc
marks_law_proof (Merge f ∷ ops) more legal = absurd cc
marks_law_proof (Prune n ∷ ops) more legal = absurd cc
marks_law_proof (HoldAt at ∷ ops) more legal = absurd cc
marks_law_proof (Release reader at ∷ ops) more legal = absurd cc
