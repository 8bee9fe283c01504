use Rattle.std.proofs.Common.{sym, ap, ◌∙◌, inl, Ok, Err}
use Rattle.hk_model.specs.Replica.Rules.{gather_result_unless}
use Rattle.hk_delta.proofs.GatheredWhole.{gathered_ok, refused, of_history}
use Rattle.hk_delta.proofs.gathering.fragment_of.Goals as goal

pub returns-in-Some-clause-represents : goal.returns-in-Some-clause-represents
returns-in-Some-clause-represents c =
    let items = c.args.items.now in
    of_history c.args.config items (Err c.in-Some.why) (inl (ap (gather_result_unless c.args.config items) (sym c.first_wrong_log.ensures ∙ c.in-Some.is)))

pub returns-in-Ok-clause-represents : goal.returns-in-Ok-clause-represents
returns-in-Ok-clause-represents c =
    let items = c.args.items.now in
    let fits = sym c.first_wrong_log.ensures ∙ c.in_default.is in
    of_history c.args.config items (Ok c.in-Ok.fragment) (gathered_ok c.args.config items fits c.in-Ok.ensures.agree ∙ ap Ok (sym c.in-Ok.ensures.ok))

pub returns-in-Err-clause-gives : goal.returns-in-Err-clause-gives
returns-in-Err-clause-gives c = refused c.args.config c.args.items.now (sym c.first_wrong_log.ensures ∙ c.in_default.is) c.in-Err.why c.refusal_of.result c.in-Err.ensures.err c.refusal_of.ensures.conflict c.refusal_of.ensures.other

pub returns-in-Err-clause-represents : goal.returns-in-Err-clause-represents
returns-in-Err-clause-represents c = of_history c.args.config c.args.items.now (Err c.refusal_of.result) (returns-in-Err-clause-gives c)
