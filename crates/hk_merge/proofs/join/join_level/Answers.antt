use Rattle.std.proofs.Common.{sym, ap, ◌∙◌, subst}
use Rattle.hk_model.specs.Replica.Lawful.{IsLawful}
use Rattle.hk_model.proofs.Replica.Lawful.{joined_lawful}
use Rattle.hk_state.specs.Changes.{content_learnt}
use Rattle.hk_merge.specs.Growing.{has_horizon}
use Rattle.hk_merge.specs.Sent.{fragment_sent}
use Rattle.hk_merge.proofs.LevelJoin.{level_join}
use Rattle.hk_merge.proofs.join.join_level.Goals as goal

pub learn-requires-clause-lawful : goal.learn-requires-clause-lawful
learn-requires-clause-lawful c =
    let t = c.args.target.now in
    let f = fragment_sent c.args.sent.now in
    subst IsLawful
    (sym (ap (content_learnt t c.coming-coming.result.old c.told.result) c.got.ensures
    ∙ level_join t f c.horizon.ensures.lawful c.requires.level c.coming-coming.result.old (c.coming-coming.ensures.old ∙ ap (has_horizon f) c.horizon.ensures.value) c.told.result c.told.ensures.facts))
    (joined_lawful t f c.horizon.ensures.lawful c.requires.lawful (sym c.requires.as_many))

pub returns-in-Ok-clause-ok : goal.returns-in-Ok-clause-ok
returns-in-Ok-clause-ok c =
    let t = c.args.target.now in
    let f = fragment_sent c.args.sent.now in
    c.in-Ok.ensures.ok
    ∙ ap (content_learnt t c.coming-coming.result.old c.told.result) c.got.ensures
    ∙ level_join t f c.horizon.ensures.lawful c.requires.level c.coming-coming.result.old (c.coming-coming.ensures.old ∙ ap (has_horizon f) c.horizon.ensures.value) c.told.result c.told.ensures.facts
