use Rattle.std.proofs.Common.{◌≡◌, sym, ap, ◌∙◌, subst, max, ◌==◌, ◌&&◌, ◌||◌}
use Rattle.hk_model.specs.Replica.Lawful.{IsLawful}
use Rattle.hk_model.proofs.Replica.Lawful.{joined_lawful}
use Rattle.hk_store.specs.Drops.{is_among}
use Rattle.hk_merge.specs.Sent.{fragment_sent}
use Rattle.hk_merge.specs.Plans.{old_come, gone_at}
use Rattle.hk_merge.proofs.RisingHorizon.{facts_are, come_rows, come_ends}
use Rattle.hk_merge.proofs.WorkedOutChange.{change_joins}
use Rattle.hk_merge.proofs.join.work_out.Goals as goal

pub returns : goal.returns
returns c =
    let t = c.args.target.now in
    let f = fragment_sent c.args.sent.now in
    let r = c.in_ok-rise.ensures in
    let k = c.in_ok-take.ensures in
    let owns = facts_are c.facts.result.now t c.facts.ensures.rows c.facts.ensures.ends in
    let at : c.later-horizon.result ≡ max t.horizon f.content.horizon = c.later-horizon.ensures ∙ (λ i. max (c.horizon.ensures.value i) (c.horizon-2.ensures.value i)) in
    let high : c.coming-coming.result.horizon ≡ max t.horizon f.content.horizon = c.coming-coming.ensures.horizon ∙ at in
    let old : c.coming-coming.result.old ≡ old_come t f = c.coming-coming.ensures.old ∙ ap (λ h. (f.base == 0) && (f.content.horizon == h)) at in
    let same =
    change_joins t f c.horizon.ensures.lawful c.requires.agree c.take.new.change (c.take.ensures.horizon ∙ c.rise.ensures.horizon ∙ at)
    (λ q. ap (λ l. is_among l q) c.take.ensures.drops ∙ r.drops q ∙ ap (λ l. is_among l q || gone_at t f q) c.new.ensures.items)
    (come_rows t f c.facts.result.now owns c.coming-coming.result.old old c.coming-coming.result.horizon high c.new-2.result.items c.rise.new.change.rows.items c.take.new.change.rows.items c.new-2.ensures.items r.rows k.rows)
    (come_ends t f c.facts.result.now owns c.coming-coming.result.old old c.coming-coming.result.horizon high c.new-3.result.items c.rise.new.change.ends.items c.take.new.change.ends.items c.new-3.ensures.items r.ends k.ends) in
    record {
      ok = same;
      lawful = subst IsLawful (sym same) (joined_lawful t f c.horizon.ensures.lawful c.horizon-2.ensures.lawful (sym c.requires.as_many));
      err = tt;
    }
