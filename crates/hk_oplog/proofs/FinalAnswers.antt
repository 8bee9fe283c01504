-- What a guarded node answers at a time is what it answers there ever after.
use Rattle.std.proofs.Common.{◌≡◌, inl, inr, ℕ, Bool, true, false, cond, ◌&&◌, All, List, [], ◌∷◌, ◌++◌, None, Result, Ok, Err, if◌then◌else◌, fold, is_none, refl, sym, ap, ◌∙◌, subst}
use Rattle.std.proofs.lemmas.List.Elements.{All-nil, All-cons, All-head, All-tail}
use Rattle.hk_types.specs.declared.faults.Refusal.{Refusal}
use Rattle.hk_types.specs.declared.faults.Refusal.TheVariants.{Conflict, Damaged}
use Rattle.hk_model.specs.declared.answer.Answer.{Answer}
use Rattle.hk_model.specs.declared.page.Page.{Page}
use Rattle.hk_model.specs.declared.query.Query.{Query}
use Rattle.hk_model.specs.declared.query.Query.TheVariants.{Range}
use Rattle.hk_model.specs.Replica.Answers.{AnswerValue, answer_seen, reply}
use Rattle.hk_model.specs.Replica.Content.{Content, readable}
use Rattle.hk_model.specs.Replica.Fragments.{FragmentValue}
use Rattle.hk_model.specs.Replica.Lawful.{IsLawful, IsLawfulFragment}
use Rattle.hk_model.specs.Replica.Pages.{PageValue, page_of, page_reply, page_room, answered_rows, page_seen}
use Rattle.hk_model.specs.Replica.Past.{IsLater, KeepsPast}
use Rattle.hk_model.specs.Replica.Rules.{contents_conflict, content_after_join, join_result, prune_result}
use Rattle.hk_model.specs.Replica.Touches.{join_touches_past, prune_touches_past}
use Rattle.hk_model.proofs.Replica.Lawful.{joined_keeps, pruned_keeps}
use Rattle.hk_model.proofs.Replica.Past.{answer_stays, later_itself, past_itself, past_passes, past_replies, joined_later, pruned_later}
use Rattle.hk_model.proofs.Replica.Touches.{prune_untouched}
use Rattle.hk_model.proofs.Replica.TouchingJoins.{join_untouched}
use Rattle.hk_state.proofs.Replicas.{nothing_lawful}
use Rattle.hk_oplog.specs.declared.op.NodeKind.{NodeKind}
use Rattle.hk_oplog.specs.declared.op.Op.{Op}
use Rattle.hk_oplog.specs.declared.op.Op.TheVariants.{Start, Join, Merge, Prune, Hold as HoldAt, Release}
use Rattle.hk_oplog.specs.Final.{AgainLaw, IsFormed, FinalLaw, StillGives, IsFinal, IsLatestFinal, IsPageFinal}
use Rattle.hk_oplog.specs.NodeContent.{NodeContent}
use Rattle.hk_oplog.specs.Replay.{prune_reach, refusal_of, join_refused, after_join, after_prune, effect, content_after_op, start_content, replay, guarded_of, legal_from, is_legal, IsListOf}
use Rattle.hk_oplog.specs.Replies.{Answers, GivesSeen, node_latest, node_page, node_reply, timed_seen, with_time}
use Rattle.hk_oplog.proofs.GuardedLists.{effect_guarded, guard_law_proof, replay_guarded}
use Rattle.hk_oplog.proofs.Holds.{prune_tests}
use Rattle.hk_oplog.proofs.JoinTests.{join_tests}
use Rattle.hk_oplog.proofs.LegalLists.{and_left, and_right, none_of, applied-is, kind_on}

-- a lawful content that came later and keeps the past
record Follows (c d : Content) : Type 0 where
  later : IsLater c d
  keeps : KeepsPast c d
  lawful : IsLawful d

itself : (c : Content) → IsLawful c → Follows c c
itself c lawful = record { later = later_itself c; keeps = past_itself c; lawful = lawful }

then_follows : (c d e : Content) → Follows c d → Follows d e → Follows c e
then_follows c d e f g =
    let p = past_passes c d e f.later g.later f.keeps g.keeps in
    record { later = p.0; keeps = p.1; lawful = g.lawful }

-- ---- an operation that is not refused

joined : (c : NodeContent) (f : FragmentValue) → IsLawfulFragment f → join_refused c f ≡ None → c.guarded ≡ true → IsLawful c.content → Follows c.content (after_join c (join_result c.content f)).content
joined c f formed e is lawful =
    let tests = join_tests c f e in
    let agrees : contents_conflict c.content f.content ≡ false = ap (λ (b : Bool). b && contents_conflict c.content f.content) (sym is) ∙ tests.agrees in
    let clear : join_touches_past c.content f ≡ false = ap (λ (b : Bool). b && join_touches_past c.content f) (sym is) ∙ tests.clear in
    let d = content_after_join c.content f in
    let gives : join_result c.content f ≡ Ok d = tests.fits.gives ∙ ap (λ (b : Bool). if b then Err Conflict else Ok d) agrees in
    subst (λ (r : Result Content Refusal). Follows c.content (after_join c r).content) (sym gives)
    (record { later = joined_later c.content f d gives; keeps = join_untouched c.content f d lawful gives clear; lawful = joined_keeps c.content f d lawful formed gives })

pruned : (c : NodeContent) (n : ℕ) → refusal_of c (Prune n) ≡ None → c.guarded ≡ true → IsLawful c.content → Follows c.content (after_prune c (prune_result c.content (prune_reach c n))).content
pruned c n e is lawful = by (prune_result c.content (prune_reach c n)) refl
  where
    clear : prune_touches_past c.content (prune_reach c n) ≡ false
    clear = ap (λ (b : Bool). b && prune_touches_past c.content (prune_reach c n)) (sym is) ∙ (prune_tests c n e).clear

    by : (r : Result Content Refusal) → prune_result c.content (prune_reach c n) ≡ r → Follows c.content (after_prune c r).content
    by (Ok d) g = record {
      later = pruned_later c.content (prune_reach c n) d g;
      keeps = (prune_untouched c.content (prune_reach c n) d lawful g).0 clear;
      lawful = pruned_keeps c.content (prune_reach c n) d lawful g;
    }
    by (Err why) g = itself c.content lawful

effect_follows : (c : NodeContent) (op : Op) → IsFormed op → refusal_of c op ≡ None → c.guarded ≡ true → IsLawful c.content → Follows c.content (effect c op).content
effect_follows c (Start kind) formed e is lawful = absurd (cc)
effect_follows c (Join f) formed e is lawful = joined c f formed e is lawful
effect_follows c (Merge f) formed e is lawful = joined c f formed e is lawful
effect_follows c (Prune n) formed e is lawful = pruned c n e is lawful
effect_follows c (HoldAt at) formed e is lawful = itself c.content lawful
effect_follows c (Release r t) formed e is lawful = itself c.content lawful

-- ---- lists

from_follows : (c : NodeContent) (ops : List Op) → All IsFormed ops → legal_from c ops ≡ true → c.guarded ≡ true → IsLawful c.content → Follows c.content (fold content_after_op c ops).content
from_follows c [] formed legal is lawful = itself c.content lawful
from_follows c (op ∷ ops) formed legal is lawful =
    let none : refusal_of c op ≡ None = none_of (refusal_of c op) (and_left (is_none (refusal_of c op)) _ legal) in
    let step = applied-is c op none in
    let one = subst (λ (d : NodeContent). Follows c.content d.content) (sym step) (effect_follows c op (All-head IsFormed op ops formed) none is lawful) in
    then_follows c.content (content_after_op c op).content (fold content_after_op c (op ∷ ops)).content one
    (from_follows (content_after_op c op) ops (All-tail IsFormed op ops formed) (and_right (is_none (refusal_of c op)) _ legal) (ap (λ (d : NodeContent). d.guarded) step ∙ (effect_guarded c op none ∙ is)) one.lawful)

fold-append : {A B : Type 0} (f : A → B → A) (a : A) (xs ys : List B) → fold f a (xs ++ ys) ≡ fold f (fold f a xs) ys
fold-append f a [] ys = refl
fold-append f a (x ∷ xs) ys = fold-append f (f a x) xs ys

-- what follows a legal beginning is legal from there
rest_legal : (c : NodeContent) (ops more : List Op) → legal_from c (ops ++ more) ≡ true → (legal_from c ops ≡ true) × (legal_from (fold content_after_op c ops) more ≡ true)
rest_legal c [] more legal = (refl, legal)
rest_legal c (op ∷ ops) more legal =
    let first = and_left (is_none (refusal_of c op)) _ legal in
    let rest = rest_legal (content_after_op c op) ops more (and_right (is_none (refusal_of c op)) _ legal) in
    ((λ i. first i && rest.0 i), rest.1)

formed_parts : (ops more : List Op) → All IsFormed (ops ++ more) → All IsFormed ops × All IsFormed more
formed_parts [] more formed = (All-nil IsFormed, formed)
formed_parts (op ∷ ops) more formed =
    let rest = formed_parts ops more (All-tail IsFormed op (ops ++ more) formed) in
    (All-cons IsFormed op ops (All-head IsFormed op (ops ++ more) formed) rest.0, rest.1)

-- what a legal list of a guarded node comes to is followed by what each longer one comes to
list_follows : (ops more : List Op) → All IsFormed (ops ++ more) → is_legal ops ≡ true → is_legal (ops ++ more) ≡ true → guarded_of ops ≡ true → Follows (replay ops).content (replay (ops ++ more)).content
list_follows [] more formed legal on is = absurd (cc)
list_follows (Start kind ∷ ops) more formed legal on is =
    let parts = formed_parts ops more (All-tail IsFormed (Start kind) (ops ++ more) formed) in
    let two = rest_legal (start_content kind) ops more on in
    let own = from_follows (start_content kind) ops parts.0 two.0 is (nothing_lawful kind.config) in
    subst (λ (c : NodeContent). Follows (replay (Start kind ∷ ops)).content c.content) (sym (fold-append content_after_op (start_content kind) ops more))
    (from_follows (fold content_after_op (start_content kind) ops) more parts.1 two.1 (replay_guarded (Start kind ∷ ops) legal ∙ is) own.lawful)
list_follows (Join f ∷ ops) more formed legal on is = absurd (cc)
list_follows (Merge f ∷ ops) more formed legal on is = absurd (cc)
list_follows (Prune n ∷ ops) more formed legal on is = absurd (cc)
list_follows (HoldAt at ∷ ops) more formed legal on is = absurd (cc)
list_follows (Release r at ∷ ops) more formed legal on is = absurd (cc)

-- a list that goes on is of the same node
guarded_on : (ops more : List Op) → is_legal ops ≡ true → guarded_of ops ≡ true → guarded_of (ops ++ more) ≡ true
guarded_on ops more legal is = ap (λ (k : NodeKind). k.guarded) (kind_on ops (ops ++ more) (more, refl) legal) ∙ is

sound_reply : (c : NodeContent) (t : ℕ) (q : Query) → c.damaged ≡ false → node_reply c t q ≡ reply c.content t q
sound_reply c t q whole = ap (λ b. cond b (Err Damaged) (reply c.content t q)) whole

pub final_law_proof : FinalLaw
final_law_proof ops more formed legal on is t soon old q =
    let f = list_follows ops more formed legal on is in
    sound_reply (replay (ops ++ more)) t q (guard_law_proof (ops ++ more) on (guarded_on ops more legal is))
    ∙ (past_replies (replay ops).content (replay (ops ++ more)).content f.later).0 f.keeps t old soon q
    ∙ sym (sound_reply (replay ops) t q (guard_law_proof ops legal is))

-- ---- answers

stays : (ops more : List Op) → All IsFormed (ops ++ more) → is_legal ops ≡ true → is_legal (ops ++ more) ≡ true → guarded_of ops ≡ true → (t : ℕ) (q : Query) (told : AnswerValue) → node_reply (replay ops) t q ≡ Ok told → StillGives (replay (ops ++ more)) (node_reply (replay (ops ++ more)) t q) told
stays ops more formed legal on is t q told e =
    let f = list_follows ops more formed legal on is in
    let same = sound_reply (replay (ops ++ more)) t q (guard_law_proof (ops ++ more) on (guarded_on ops more legal is)) in
    elim (answer_stays (replay ops).content (replay (ops ++ more)).content f.later f.keeps t q told (sym (sound_reply (replay ops) t q (guard_law_proof ops legal is)) ∙ e)) [
      | inl y ↦ inl (same ∙ y)
      | inr n ↦ inr (same ∙ n)
    ]

pub again_law_proof : AgainLaw
again_law_proof = stays

guarded_list : (kind : NodeKind) (ops : List Op) → IsListOf kind ops → kind.guarded ≡ true → guarded_of ops ≡ true
guarded_list kind ops of is = ap (λ (k : NodeKind). k.guarded) of.1 ∙ is

pub final_answer : (kind : NodeKind) (ops : List Op) (t : ℕ) (q : Query) (result : Result Answer Refusal) → IsListOf kind ops → kind.guarded ≡ true → Answers (node_reply (replay ops) t q) result → IsFinal ops t q result
final_answer kind ops t q (Ok a) of is h = λ more formed on. stays ops more formed of.0 on (guarded_list kind ops of is) t q (answer_seen a) h
final_answer kind ops t q (Err why) of is h = tt

abbrev first : ℕ → Result (ℕ × AnswerValue) Refusal → ℕ
first s (Ok p) = p.0
first s (Err why) = s

abbrev second : AnswerValue → Result (ℕ × AnswerValue) Refusal → AnswerValue
second a (Ok p) = p.1
second a (Err why) = a

timed_is : (s t : ℕ) (r : Result AnswerValue Refusal) (told : AnswerValue) → with_time s r ≡ Ok (t, told) → (s ≡ t) × (r ≡ Ok told)
timed_is s t (Ok a) told e = (ap (first s) e, ap Ok (ap (second a) e))
timed_is s t (Err why) told e = absurd (cc)

pub final_latest : (kind : NodeKind) (ops : List Op) (q : Query) (result : Result (ℕ × Answer) Refusal) → IsListOf kind ops → kind.guarded ≡ true → GivesSeen timed_seen (node_latest (replay ops) q) result → IsLatestFinal ops q result
final_latest kind ops q (Ok a) of is h = λ more formed on.
    let k = timed_is (readable (replay ops).content) a.0 (node_reply (replay ops) (readable (replay ops).content) q) (answer_seen a.1) h in
    stays ops more formed of.0 on (guarded_list kind ops of is) a.0 q (answer_seen a.1) (ap (λ t. node_reply (replay ops) t q) (sym k.0) ∙ k.1)
final_latest kind ops q (Err why) of is h = tt

page_is : (most : ℕ) (r : Result AnswerValue Refusal) (page : PageValue) → page_reply most r ≡ Ok page → (a : AnswerValue) × (r ≡ Ok a) × (page_of most page_room (answered_rows a) ≡ page)
page_is most (Ok a) page e = (a, refl, cc)
page_is most (Err why) page e = absurd (cc)

pub final_page : (kind : NodeKind) (ops : List Op) (t table low high most : ℕ) (result : Result Page Refusal) → IsListOf kind ops → kind.guarded ≡ true → GivesSeen page_seen (node_page (replay ops) t table low high most) result → IsPageFinal ops t table low high most result
final_page kind ops t table low high most (Ok page) of is h = λ more formed on.
    let k = page_is most (node_reply (replay ops) t (Range table low high)) (page_seen page) h in
    elim (stays ops more formed of.0 on (guarded_list kind ops of is) t (Range table low high) k.0 k.1) [
      | inl y ↦ inl (ap (page_reply most) y ∙ ap Ok k.2)
      | inr n ↦ inr (ap (page_reply most) n)
    ]
final_page kind ops t table low high most (Err why) of is h = tt
