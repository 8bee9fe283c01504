use Rattle.std.proofs.Common.{sym, ap, ◌∙◌, Ok}
use Rattle.hk_model.specs.declared.query.Query.TheVariants.{Get}
use Rattle.hk_model.specs.Replica.Answers.{One, answer}
use Rattle.hk_query.proofs.ReplyAtTime.{refused, same_shown, shown}
use Rattle.hk_query.proofs.reply.row_at.Goals as goal

pub returns-in-Some-clause-err : goal.returns-in-Some-clause-err
returns-in-Some-clause-err c = refused c.args.state.now c.args.time (Get c.args.table c.args.key) c.in-Some.why c.in-Some.ensures

pub returns-in-None-clause-ok : goal.returns-in-None-clause-ok
returns-in-None-clause-ok c =
    let s = c.args.state.now in
    let q = Get c.args.table c.args.key in
    shown s c.args.time q c.in-None.ensures
    ∙ ap (λ tables. Ok (answer tables q)) (sym (same_shown s c.args.time c.facts.result.now c.facts.ensures.rows c.facts.ensures.ends))
    ∙ ap (λ row. Ok (One row)) (sym c.shown_at.ensures)
