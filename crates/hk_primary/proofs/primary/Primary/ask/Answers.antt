use Rattle.std.proofs.Common.{◌≡◌, sym, ap, ◌∙◌, Result, Ok, Err, IfOk, List}
use Rattle.hk_types.specs.declared.faults.Refusal.{Refusal}
use Rattle.hk_model.specs.declared.answer.Answer.{Answer}
use Rattle.hk_model.specs.Replica.Answers.{answer, answer_seen}
use Rattle.hk_model.specs.History.Histories.{Tables, commits, table_at}
use Rattle.hk_query.proofs.ReplyAtTime.{needs_memory}
use Rattle.hk_primary.proofs.ShownTables.{shown_is}
use Rattle.hk_primary.specs.Log.{PrimaryValue}
use Rattle.hk_model.specs.declared.query.Query.{Query}
use Rattle.hk_primary.proofs.primary.Primary.ask.Goals as goal

on_same : (r : Result Answer Refusal) (s t : Tables) (q : Query) → s ≡ t → IfOk r (λ a. answer_seen a ≡ answer s q) → IfOk r (λ a. answer_seen a ≡ answer t q)
on_same (Ok a) s t q e h = h ∙ ap (λ x. answer x q) e
on_same (Err why) s t q e h = h

pub returns-clause-told : goal.returns-clause-told
returns-clause-told c =
    let a = c.self.inside in
    on_same c.answer_at.result _ (table_at (commits c.args.self.now.history) c.args.time) c.args.query.now
    (shown_is a.config a.newest a.log.items a.facts a.counts.items a.retired.items c.self.invariant c.args.time ∙ ap (λ (p : PrimaryValue). table_at (commits p.history) c.args.time) c.self.view_is) c.answer_at.ensures.ok

pub returns-clause-absent : goal.returns-clause-absent
returns-clause-absent c _ none =
    let a = c.self.inside in
    let same = shown_is a.config a.newest a.log.items a.facts a.counts.items a.retired.items c.self.invariant c.args.time ∙ ap (λ (p : PrimaryValue). table_at (commits p.history) c.args.time) c.self.view_is in
    c.answer_at.ensures.absent (ap (λ (tables : Tables). answer tables c.args.query.now) same ∙ none)

pub returns-clause-lacks : goal.returns-clause-lacks
returns-clause-lacks c _ =
    let a = c.self.inside in
    let same = shown_is a.config a.newest a.log.items a.facts a.counts.items a.retired.items c.self.invariant c.args.time ∙ ap (λ (p : PrimaryValue). table_at (commits p.history) c.args.time) c.self.view_is in
    needs_memory (table_at (commits c.args.self.now.history) c.args.time) c.args.query.now c.answer_at.result c.answer_at.ensures.count
    (λ none. c.answer_at.ensures.absent (ap (λ (tables : Tables). answer tables c.args.query.now) same ∙ none))
