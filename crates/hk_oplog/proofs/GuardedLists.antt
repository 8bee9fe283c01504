-- No legal list of a guarded node is damaged.
use Rattle.std.proofs.Common.{◌≡◌, ◌&&◌, if◌then◌else◌, Bool, true, false, List, [], ◌∷◌, None, Result, Ok, Err, fold, is_none, refl, sym, ap, ◌∙◌}
use Rattle.hk_types.specs.declared.faults.Refusal.{Refusal}
use Rattle.hk_types.specs.declared.faults.Refusal.TheVariants.{Conflict}
use Rattle.hk_model.specs.Replica.Content.{Content}
use Rattle.hk_model.specs.Replica.Fragments.{FragmentValue}
use Rattle.hk_model.specs.Replica.Rules.{join_result, prune_result, contents_conflict, content_after_join}
use Rattle.hk_oplog.specs.declared.op.NodeKind.{NodeKind}
use Rattle.hk_oplog.specs.declared.op.Op.{Op}
use Rattle.hk_oplog.specs.declared.op.Op.TheVariants.{Start, Join, Merge, Prune, Hold as HoldAt, Release}
use Rattle.hk_oplog.specs.NodeContent.{NodeContent}
use Rattle.hk_oplog.specs.Replay.{prune_reach, refusal_of, after_join, after_prune, start_content, effect, content_after_op, replay, guarded_of, legal_from, is_legal, join_refused, IsListOf}
use Rattle.hk_oplog.specs.Guarded.{GuardLaw}
use Rattle.hk_oplog.proofs.LegalLists.{and_left, and_right, none_of, applied-is}
use Rattle.hk_oplog.proofs.JoinTests.{join_tests}

after_join_guarded : (c : NodeContent) (r : Result Content Refusal) → (after_join c r).guarded ≡ c.guarded
after_join_guarded c (Ok d) = refl
after_join_guarded c (Err why) = refl

after_prune_guarded : (c : NodeContent) (r : Result Content Refusal) → (after_prune c r).guarded ≡ c.guarded
after_prune_guarded c (Ok d) = refl
after_prune_guarded c (Err why) = refl

pub effect_guarded : (c : NodeContent) (op : Op) → refusal_of c op ≡ None → (effect c op).guarded ≡ c.guarded
effect_guarded c (Start kind) e = absurd (cc)
effect_guarded c (Join f) e = after_join_guarded c (join_result c.content f)
effect_guarded c (Merge f) e = after_join_guarded c (join_result c.content f)
effect_guarded c (Prune n) e = after_prune_guarded c (prune_result c.content (prune_reach c n))
effect_guarded c (HoldAt at) e = refl
effect_guarded c (Release r t) e = refl

-- a join that a guarded node does not refuse conflicts with nothing
join_sound : (c : NodeContent) (f : FragmentValue) → join_refused c f ≡ None → c.guarded ≡ true → c.damaged ≡ false → (after_join c (join_result c.content f)).damaged ≡ false
join_sound c f e is whole =
    let tests = join_tests c f e in
    let agrees : contents_conflict c.content f.content ≡ false = ap (λ (b : Bool). b && contents_conflict c.content f.content) (sym is) ∙ tests.agrees in
    let gives : join_result c.content f ≡ Ok (content_after_join c.content f) = tests.fits.gives ∙ ap (λ (b : Bool). if b then Err Conflict else Ok (content_after_join c.content f)) agrees in
    ap (λ (r : Result Content Refusal). (after_join c r).damaged) gives ∙ whole

after_prune_sound : (c : NodeContent) (r : Result Content Refusal) → c.damaged ≡ false → (after_prune c r).damaged ≡ false
after_prune_sound c (Ok d) whole = whole
after_prune_sound c (Err why) whole = whole

pub effect_sound : (c : NodeContent) (op : Op) → refusal_of c op ≡ None → c.guarded ≡ true → c.damaged ≡ false → (effect c op).damaged ≡ false
effect_sound c (Start kind) e is whole = absurd (cc)
effect_sound c (Join f) e is whole = join_sound c f e is whole
effect_sound c (Merge f) e is whole = join_sound c f e is whole
effect_sound c (Prune n) e is whole = after_prune_sound c (prune_result c.content (prune_reach c n)) whole
effect_sound c (HoldAt at) e is whole = whole
effect_sound c (Release r t) e is whole = whole

from_guarded : (c : NodeContent) (ops : List Op) → legal_from c ops ≡ true → (fold content_after_op c ops).guarded ≡ c.guarded
from_guarded c [] legal = refl
from_guarded c (op ∷ ops) legal =
    let none : refusal_of c op ≡ None = none_of (refusal_of c op) (and_left (is_none (refusal_of c op)) _ legal) in
    from_guarded (content_after_op c op) ops (and_right (is_none (refusal_of c op)) _ legal)
    ∙ (ap (λ (d : NodeContent). d.guarded) (applied-is c op none) ∙ effect_guarded c op none)

from_sound : (c : NodeContent) (ops : List Op) → legal_from c ops ≡ true → c.guarded ≡ true → c.damaged ≡ false → (fold content_after_op c ops).damaged ≡ false
from_sound c [] legal is whole = whole
from_sound c (op ∷ ops) legal is whole =
    let none : refusal_of c op ≡ None = none_of (refusal_of c op) (and_left (is_none (refusal_of c op)) _ legal) in
    let step = applied-is c op none in
    from_sound (content_after_op c op) ops (and_right (is_none (refusal_of c op)) _ legal)
    (ap (λ (d : NodeContent). d.guarded) step ∙ (effect_guarded c op none ∙ is))
    (ap (λ (d : NodeContent). d.damaged) step ∙ effect_sound c op none is whole)

pub guard_law_proof : GuardLaw
guard_law_proof [] legal is = absurd (cc)
guard_law_proof (Start kind ∷ ops) legal is = from_sound (start_content kind) ops legal is refl
guard_law_proof (Join f ∷ ops) legal is = absurd (cc)
guard_law_proof (Merge f ∷ ops) legal is = absurd (cc)
guard_law_proof (Prune n ∷ ops) legal is = absurd (cc)
guard_law_proof (HoldAt at ∷ ops) legal is = absurd (cc)
guard_law_proof (Release r at ∷ ops) legal is = absurd (cc)

-- what a legal list comes to is guarded as its node is
pub replay_guarded : (ops : List Op) → is_legal ops ≡ true → (replay ops).guarded ≡ guarded_of ops
replay_guarded [] legal = absurd (cc)
replay_guarded (Start kind ∷ ops) legal = from_guarded (start_content kind) ops legal
replay_guarded (Join f ∷ ops) legal = absurd (cc)
replay_guarded (Merge f ∷ ops) legal = absurd (cc)
replay_guarded (Prune n ∷ ops) legal = absurd (cc)
replay_guarded (HoldAt at ∷ ops) legal = absurd (cc)
replay_guarded (Release r at ∷ ops) legal = absurd (cc)

-- a list of a guarded node is not damaged
pub list_sound : (kind : NodeKind) (ops : List Op) → IsListOf kind ops → kind.guarded ≡ true → (replay ops).damaged ≡ false
list_sound kind ops of is = guard_law_proof ops of.0 (ap (λ (k : NodeKind). k.guarded) of.1 ∙ is)
