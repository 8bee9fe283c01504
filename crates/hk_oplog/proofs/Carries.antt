-- A list whose joins and merges carry parts of one history represents them.
use Rattle.std.proofs.Common.{◌≡◌, ℕ, ◌≤◌, max, Bool, true, false, if◌then◌else◌, List, [], ◌∷◌, ◌++◌, None, Result, Ok, Err, fold, is_none, refl, sym, ap, ◌∙◌, subst, arith}
use Rattle.std.specs.Prelude.{nat_lt}
use Rattle.std.proofs.lemmas.Bool.Decides.{nat_tests}
use Rattle.std.proofs.lemmas.List.Elements.{All-nil}
use Rattle.hk_types.specs.Values.{ConfigValue}
use Rattle.hk_types.specs.declared.faults.Refusal.{Refusal}
use Rattle.hk_types.specs.declared.faults.Refusal.TheVariants.{TooOld, NotYet, Damaged}
use Rattle.hk_log.specs.declared.item.Item.{Item}
use Rattle.hk_model.specs.declared.answer.Answer.{Answer}
use Rattle.hk_model.specs.declared.query.Query.{Query}
use Rattle.hk_model.specs.Replica.Answers.{AnswerValue, answer, answer_seen, reply, visible}
use Rattle.hk_model.specs.Replica.ContentOf.{content_of}
use Rattle.hk_model.specs.Replica.Content.{Content, readable}
use Rattle.hk_model.specs.Replica.Fragments.{FragmentValue, part}
use Rattle.hk_model.specs.History.Histories.{History, commits, IsHistory, IsItemOf, table_at}
use Rattle.hk_model.specs.Replica.Replicas.{Represents}
use Rattle.hk_model.specs.Replica.Rules.{join_result, prune_result}
use Rattle.hk_model.proofs.Laws.{join_law_proof, represents_both, reply_law_proof, nothing_content_of}
use Rattle.hk_model.proofs.Replica.Steps.{prune_law_proof}
use Rattle.hk_oplog.specs.declared.op.Op.{Op}
use Rattle.hk_oplog.specs.declared.op.Op.TheVariants.{Start, Join, Merge, Prune, Hold as HoldAt, Release}
use Rattle.hk_oplog.specs.NodeContent.{NodeContent}
use Rattle.hk_oplog.specs.Replay.{prune_reach, refusal_of, after_join, after_prune, start_content, content_after_op, replay, config_of, legal_from, is_legal, join_refused}
use Rattle.hk_oplog.specs.Replies.{Answers, GivesSeen, node_latest, node_reply, timed_seen, with_time}
use Rattle.hk_oplog.specs.Carried.{IsPart, Brings, CarryLaw, IsLatestOfPrimary, IsOfPrimary}
use Rattle.hk_oplog.proofs.LegalLists.{and_left, and_right, none_of, applied-is}
use Rattle.hk_oplog.proofs.Holds.{prune_tests}
use Rattle.hk_oplog.proofs.JoinTests.{join_tests}

module _ (config : ConfigValue) (history : History) (is : IsHistory config history) where
  -- the node's content represents these items, and there is no damage
  abbrev pub RepresentsFor : List Item → ℕ → NodeContent → Type 0
  RepresentsFor items h c = Represents config history items h c.content × (c.damaged ≡ false)

  join_represents : (c : NodeContent) (f : FragmentValue) (own items : List Item) (g k : ℕ) → join_refused c f ≡ None → IsPart config history items k f → RepresentsFor own g c → RepresentsFor (own ++ items) (max g k) (after_join c (join_result c.content f))
  join_represents c f own items g k e p s =
      let other : Represents config history items k (content_of config items k) = record { of_history = p.of_history; within = p.within; is_content_of = refl } in
      let law : join_result c.content (part config items k f.base) ≡ Ok (content_of config (own ++ items) (max g k)) = join_law_proof config history is own items g k f.base c.content (content_of config items k) s.0 other (join_tests c f e).fits.no_gap p.base in
      let gives : join_result c.content f ≡ Ok (content_of config (own ++ items) (max g k)) = ap (join_result c.content) p.is_part ∙ law in
      let both = represents_both config history is own items g k c.content (content_of config items k) s.0 other in
      subst (λ (r : Result Content Refusal). RepresentsFor (own ++ items) (max g k) (after_join c r)) (sym gives) (both, s.1)

  prune_represents : (c : NodeContent) (own : List Item) (g n : ℕ) → refusal_of c (Prune n) ≡ None → RepresentsFor own g c → RepresentsFor own (max g (prune_reach c n)) (after_prune c (prune_result c.content (prune_reach c n)))
  prune_represents c own g n e s =
      let law = prune_law_proof config history own g (prune_reach c n) c.content s.0 (prune_tests c n e).in_reach in
      subst (λ (r : Result Content Refusal). RepresentsFor own (max g (prune_reach c n)) (after_prune c r)) (sym law.1) (law.2, s.1)

  from_represents_for : (c : NodeContent) (ops : List Op) (own all : List Item) (g h : ℕ) → legal_from c ops ≡ true → Brings config history c ops own g all h → RepresentsFor own g c → RepresentsFor all h (fold content_after_op c ops)
  from_represents_for c [] own all g h legal b s = subst (λ (n : ℕ). RepresentsFor all n c) (sym b.1) (subst (λ (items : List Item). RepresentsFor items g c) (sym b.0) s)
  from_represents_for c (Start other ∷ ops) own all g h legal b s = absurd b
  from_represents_for c (Join f ∷ ops) own all g h legal b s =
      let none : refusal_of c (Join f) ≡ None = none_of (refusal_of c (Join f)) (and_left (is_none (refusal_of c (Join f))) _ legal) in
      from_represents_for (content_after_op c (Join f)) ops (own ++ b.0) all (max g b.1) h (and_right (is_none (refusal_of c (Join f))) _ legal) b.3
      (subst (RepresentsFor (own ++ b.0) (max g b.1)) (sym (applied-is c (Join f) none)) (join_represents c f own b.0 g b.1 none b.2 s))
  from_represents_for c (Merge f ∷ ops) own all g h legal b s =
      let none : refusal_of c (Merge f) ≡ None = none_of (refusal_of c (Merge f)) (and_left (is_none (refusal_of c (Merge f))) _ legal) in
      from_represents_for (content_after_op c (Merge f)) ops (own ++ b.0) all (max g b.1) h (and_right (is_none (refusal_of c (Merge f))) _ legal) b.3
      (subst (RepresentsFor (own ++ b.0) (max g b.1)) (sym (applied-is c (Merge f) none)) (join_represents c f own b.0 g b.1 none b.2 s))
  from_represents_for c (Prune n ∷ ops) own all g h legal b s =
      let none : refusal_of c (Prune n) ≡ None = none_of (refusal_of c (Prune n)) (and_left (is_none (refusal_of c (Prune n))) _ legal) in
      from_represents_for (content_after_op c (Prune n)) ops own all (max g (prune_reach c n)) h (and_right (is_none (refusal_of c (Prune n))) _ legal) b
      (subst (RepresentsFor own (max g (prune_reach c n))) (sym (applied-is c (Prune n) none)) (prune_represents c own g n none s))
  from_represents_for c (HoldAt at ∷ ops) own all g h legal b s =
      let none : refusal_of c (HoldAt at) ≡ None = none_of (refusal_of c (HoldAt at)) (and_left (is_none (refusal_of c (HoldAt at))) _ legal) in
      from_represents_for (content_after_op c (HoldAt at)) ops own all g h (and_right (is_none (refusal_of c (HoldAt at))) _ legal) b
      (subst (RepresentsFor own g) (sym (applied-is c (HoldAt at) none)) s)
  from_represents_for c (Release r t ∷ ops) own all g h legal b s =
      let none : refusal_of c (Release r t) ≡ None = none_of (refusal_of c (Release r t)) (and_left (is_none (refusal_of c (Release r t))) _ legal) in
      from_represents_for (content_after_op c (Release r t)) ops own all g h (and_right (is_none (refusal_of c (Release r t))) _ legal) b
      (subst (RepresentsFor own g) (sym (applied-is c (Release r t) none)) s)

pub carry_law_proof : CarryLaw
carry_law_proof history [] items h legal is b = absurd (cc)
carry_law_proof history (Start kind ∷ ops) items h legal is b =
    from_represents_for kind.config history is (start_content kind) ops [] items 0 h legal b (record { of_history = All-nil (IsItemOf kind.config history); within = omega arith; is_content_of = nothing_content_of kind.config }, refl)
carry_law_proof history (Join f ∷ ops) items h legal is b = absurd (cc)
carry_law_proof history (Merge f ∷ ops) items h legal is b = absurd (cc)
carry_law_proof history (Prune n ∷ ops) items h legal is b = absurd (cc)
carry_law_proof history (HoldAt at ∷ ops) items h legal is b = absurd (cc)
carry_law_proof history (Release r t ∷ ops) items h legal is b = absurd (cc)

-- a reply is given from the horizon to the readable mark
replied : (c : Content) (t : ℕ) (q : Query) (a : AnswerValue) → reply c t q ≡ Ok a → (c.horizon ≤ t) × (t ≤ readable c)
replied c t q a e = go (nat_lt t c.horizon) refl (nat_lt (readable c) t) refl e
  where
    go : (x : Bool) → nat_lt t c.horizon ≡ x → (y : Bool) → nat_lt (readable c) t ≡ y → (if x then Err (TooOld c.horizon) else if y then Err (NotYet (readable c)) else Ok (answer (visible c t) q)) ≡ Ok a → (c.horizon ≤ t) × (t ≤ readable c)
    go true p y s e = absurd (cc)
    go false p true s e = absurd (cc)
    go false p false s e = (grind (arith, nat_tests), grind (arith, nat_tests))

ok_same : (a b : AnswerValue) (r : Result AnswerValue Refusal) → r ≡ Ok a → r ≡ Ok b → a ≡ b
ok_same a b r e f = cc (e, f)

pub primary_answers : (ops : List Op) (t : ℕ) (q : Query) (result : Result Answer Refusal) → is_legal ops ≡ true → Answers (node_reply (replay ops) t q) result → IsOfPrimary ops t q result
primary_answers ops t q (Err why) legal gives history items h is b = tt
primary_answers ops t q (Ok a) legal gives history items h is b =
    let s = carry_law_proof history ops items h legal is b in
    let c = (replay ops).content in
    let said : reply c t q ≡ Ok (answer_seen a) = ap (λ (d : Bool). if d then Err Damaged else reply c t q) (sym s.1) ∙ gives in
    let within = replied c t q (answer_seen a) said in
    let low : h ≤ t = subst (λ (d : Content). d.horizon ≤ t) s.0.is_content_of within.0 in
    ok_same (answer_seen a) (answer (table_at (commits history) t) q) (reply c t q) said (reply_law_proof (config_of ops) history is items h c s.0 t low within.1 q)

-- a reply that is told with its time
untimed : (t : ℕ) (r : Result AnswerValue Refusal) (told : ℕ × AnswerValue) → with_time t r ≡ Ok told → (t ≡ told.0) × (r ≡ Ok told.1)
untimed t (Ok a) told e = (cc, cc)
untimed t (Err why) told e = absurd cc

pub primary_answers_latest : (ops : List Op) (q : Query) (result : Result (ℕ × Answer) Refusal) → is_legal ops ≡ true → GivesSeen timed_seen (node_latest (replay ops) q) result → IsLatestOfPrimary ops q result
primary_answers_latest ops q (Err why) legal gives = λ history items h is b. tt
primary_answers_latest ops q (Ok told) legal gives =
    let t = readable (replay ops).content in
    let same = untimed t (node_reply (replay ops) t q) (timed_seen told) gives in
    primary_answers ops told.0 q (Ok told.1) legal (subst (λ (u : ℕ). node_reply (replay ops) u q ≡ Ok (answer_seen told.1)) same.0 same.1)
