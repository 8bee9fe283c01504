use Rattle.std.proofs.Common.{◌∙◌}
use Rattle.std.proofs.lemmas.Bool.{OnTrue_at}
use Rattle.hk_model.specs.Replica.Fragments.{part}
use Rattle.hk_model.specs.Replica.Rules.{first_wrong_log}
use Rattle.hk_delta.proofs.NewItems.{new_agree}
use Rattle.hk_delta.proofs.agreeing.of_new.Goals as goal

pub gather-requires : goal.gather-requires
gather-requires c =
    let are = OnTrue_at c.if-not-are_new.false c.are_new.ensures in
    (λ i. first_wrong_log (record { log = c.config.ensures.log i; streams = c.config.ensures.streams i }) c.args.items.now) ∙ are.fits

pub returns-in-Ok : goal.returns-in-Ok
returns-in-Ok c = λ compared.
    let are = OnTrue_at c.if-not-are_new.false c.are_new.ensures in
    new_agree c.args.state.now c.args.items.now are c.in-Ok.ensures.agree compared c.in-Ok.fragment
    (c.in-Ok.ensures.ok ∙ (λ i. part (record { log = c.config.ensures.log i; streams = c.config.ensures.streams i }) c.args.items.now 0 0))
