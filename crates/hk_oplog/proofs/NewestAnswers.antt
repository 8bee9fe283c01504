-- What a state answers is what a node that is not damaged does.
use Rattle.std.proofs.Common.{◌≡◌, sym, ap, ◌∙◌, ℕ, Bool, false, if◌then◌else◌, Option, None, Some, Result, Ok, Err, IfOk, IfErr, ◌⊎◌, inl, inr}
use Rattle.hk_types.specs.declared.faults.Refusal.{Refusal}
use Rattle.hk_types.specs.declared.faults.Refusal.TheVariants.{Damaged, Memory}
use Rattle.hk_model.specs.declared.answer.Answer.{Answer}
use Rattle.hk_model.specs.declared.page.Page.{Page}
use Rattle.hk_model.specs.declared.query.Query.{Query}
use Rattle.hk_model.specs.declared.query.Query.TheVariants.{Range}
use Rattle.hk_model.specs.Replica.Answers.{answer_seen, reply}
use Rattle.hk_model.specs.Replica.Content.{readable}
use Rattle.hk_model.specs.Replica.Pages.{page_reply, page_seen}
use Rattle.hk_query.specs.Pages.{PageReplies, PageRepliesWithin}
use Rattle.hk_oplog.specs.NodeContent.{NodeContent}
use Rattle.hk_oplog.specs.Replies.{GivesPageOrNone, GivesSeen, node_latest, node_page, timed_seen, with_time}

pub gives_latest : (c : NodeContent) (q : Query) (r : Result (ℕ × Answer) Refusal) → c.damaged ≡ false
    → IfOk r (λ told. told.0 ≡ readable c.content) → IfOk r (λ told. reply c.content told.0 q ≡ Ok (answer_seen told.1)) → IfErr r (λ why. why ≡ Memory)
    → GivesSeen timed_seen (node_latest c q) r
gives_latest c q (Ok told) sound time gives err =
    ap (λ (d : Bool). with_time (readable c.content) (if d then Err Damaged else reply c.content (readable c.content) q)) sound
    ∙ ap (λ (t : ℕ). with_time t (reply c.content t q)) (sym time)
    ∙ ap (with_time told.0) gives
gives_latest c q (Err why) sound time gives err = inl err

pub gives_page : (c : NodeContent) (t table low high most : ℕ) (r : Result Page Refusal) → c.damaged ≡ false
    → PageReplies c.content t table low high most r → GivesSeen page_seen (node_page c t table low high most) r
gives_page c t table low high most (Ok page) sound gives = ap (λ (d : Bool). page_reply most (if d then Err Damaged else reply c.content t (Range table low high))) sound ∙ gives
gives_page c t table low high most (Err why) sound gives = elim gives [
  | inl e ↦ inr (ap (λ (d : Bool). page_reply most (if d then Err Damaged else reply c.content t (Range table low high))) sound ∙ e)
  | inr m ↦ inl m.0
]

pub gives_page_within : (c : NodeContent) (t table low high most looks : ℕ) (r : Result (Option Page) Refusal) → c.damaged ≡ false
    → PageRepliesWithin (Some looks) c.content t table low high most r → GivesPageOrNone c t table low high most r
gives_page_within c t table low high most looks (Ok None) sound gives = tt
gives_page_within c t table low high most looks (Ok (Some page)) sound gives = gives_page c t table low high most (Ok page) sound gives
gives_page_within c t table low high most looks (Err why) sound gives = gives_page c t table low high most (Err why) sound gives

pub memory_alone : {X : Type 0} (r : Result X Refusal) → IfErr r (λ why. why ≡ Memory) → IfErr r (λ why. (why ≡ Memory) ⊎ (why ≡ Damaged))
memory_alone (Ok x) err = tt
memory_alone (Err why) err = inl err
