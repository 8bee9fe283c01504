use Rattle.std.proofs.Common.{◌≡◌, refl, sym, ap, ◌∙◌, subst, false, get_or, Ok}
use Rattle.std.proofs.lemmas.List.{get_or_default}
use Rattle.hk_model.specs.declared.told.Told.TheVariants as outcome
use Rattle.hk_model.specs.Replica.Content.{Content}
use Rattle.hk_model.specs.World.Worlds.{ToldValue, at_number, delta_join}
use Rattle.hk_model.specs.World.Worlds.ToldValue.{Refused}
use Rattle.hk_acting.specs.Telling.{Gives, is_first_outcome}
use Rattle.hk_laws.proofs.AtNumber.{numbered_at}
use Rattle.hk_laws.proofs.OneReplicaActs.{acts_on, acts_not}
use Rattle.hk_laws.proofs.Deltas.{joins_cut, refused_cut}
use Rattle.hk_laws.proofs.among.delta.Goals as goal

pub returns-in-Ok : goal.returns-in-Ok
returns-in-Ok c =
    let rs = c.args.replicas.now in
    let a = get_or rs c.in-Some.target c.index-replicas-target-in-Ok.result in
    let b = get_or rs c.in-Some-place_of.source c.index-replicas-source-2.result in
    acts_on rs c.args.to c.in-Some.target c.in-Some.ensures.0 c.in-Some.ensures.1
    (at_number rs c.args.from) b (λ p. delta_join p.0 p.1 c.args.base) c.index-replicas-target-in-Ok.result c.join.new.state c.join.result
    (numbered_at rs c.in-Some-place_of.source c.args.from c.index-replicas-source-2.result c.in-Some-place_of.ensures.0 c.in-Some-place_of.ensures.1)
    (subst (λ (x : ToldValue × Content). Gives x a c.join.new.state c.join.result) (joins_cut a b c.args.base c.in-Ok.fragment c.in-Ok.ensures.gives.0 c.in-Ok.ensures.gives.1) c.join.ensures)

pub returns-in-Err : goal.returns-in-Err
returns-in-Err c =
    let rs = c.args.replicas.now in
    let i = c.in-Some.target in
    let j = c.in-Some-place_of.source in
    let d = c.index-replicas-source-2.result in
    let a = get_or rs i d in
    let b = get_or rs j d in
    let one : c.index-replicas-target.result ≡ a = c.index-replicas-target.is ∙ get_or_default rs i c.index-replicas-target.result d c.in-Some.ensures.1 in
    let other : c.index-replicas-source.result ≡ b = c.index-replicas-source.is ∙ get_or_default rs j c.index-replicas-source.result d c.in-Some-place_of.ensures.1 in
    let free : is_first_outcome (delta_join a b c.args.base).0 ≡ false = sym (λ k. is_first_outcome (delta_join (one k) (other k) c.args.base).0) ∙ c.in_default-delta_refusal.ensures in
    acts_not rs c.args.to i c.in-Some.ensures.0 c.in-Some.ensures.1
    (at_number rs c.args.from) b (λ q. delta_join q.0 q.1 c.args.base) d c.refused.result
    (numbered_at rs j c.args.from d c.in-Some-place_of.ensures.0 c.in-Some-place_of.ensures.1)
    (refused_cut a b c.args.base c.in-Err.why c.refused.result free c.in-Err.ensures.gives c.refused.ensures)

pub returns-in-Some-delta_refusal : goal.returns-in-Some-delta_refusal
returns-in-Some-delta_refusal c =
    let rs = c.args.replicas.now in
    let i = c.in-Some.target in
    let j = c.in-Some-place_of.source in
    let d = c.index-replicas-source.result in
    let a = get_or rs i d in
    let b = get_or rs j d in
    let one : c.index-replicas-target.result ≡ a = c.index-replicas-target.is ∙ get_or_default rs i c.index-replicas-target.result d c.in-Some.ensures.1 in
    let other : c.index-replicas-source.result ≡ b = c.index-replicas-source.is in
    let says : delta_join a b c.args.base ≡ (Refused c.in-Some-delta_refusal.why, a) =
    sym (λ k. delta_join (one k) (other k) c.args.base) ∙ c.in-Some-delta_refusal.ensures.0 ∙ ap (λ (x : Content). (Refused c.in-Some-delta_refusal.why, x)) one
    in
    acts_not rs c.args.to i c.in-Some.ensures.0 c.in-Some.ensures.1
    (at_number rs c.args.from) b (λ q. delta_join q.0 q.1 c.args.base) d (Ok (outcome.Refused c.in-Some-delta_refusal.why))
    (numbered_at rs j c.args.from d c.in-Some-place_of.ensures.0 c.in-Some-place_of.ensures.1)
    (subst (λ (x : ToldValue × Content). Gives x a a (Ok (outcome.Refused c.in-Some-delta_refusal.why))) (sym says) (refl, refl, c.in-Some-delta_refusal.ensures.1))
