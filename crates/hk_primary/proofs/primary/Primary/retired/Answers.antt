use Rattle.std.proofs.Common.{◌≡◌, ◌≤◌, ◌-◌, sym, ap, ◌∙◌, subst, arith, length, get_or, Bool}
use Rattle.hk_primary.specs.Log.{PrimaryValue}
use Rattle.hk_primary.proofs.PrimaryRules.{retired_length, retired_is}
use Rattle.hk_primary.proofs.primary.Primary.retired.Goals as goal

pub index-requires : goal.index-requires
index-requires c =
    let a = c.self.inside in
    let many = retired_length a.config a.newest a.log.items a.facts a.counts.items a.retired.items c.self.invariant in
    let within : c.args.stream ≤ a.config.streams = subst (λ (p : PrimaryValue). c.args.stream ≤ p.config.streams) (sym c.self.view_is) c.requires in
    let stream = c.number.ensures in
    omega (arith, c.from.ensures)

pub returns : goal.returns
returns c =
    let a = c.self.inside in
    let within : c.args.stream ≤ a.config.streams = subst (λ (p : PrimaryValue). c.args.stream ≤ p.config.streams) (sym c.self.view_is) c.requires in
    let least = c.number.ensures.least in
    let stream = c.number.ensures.value in
    let place : c.from.result - 1 ≡ c.args.stream - 1 = omega (arith, c.from.ensures) in
    rw (← c.self.view_is) (c.index.ensures ∙ ap (λ n. get_or a.retired.items n c.index.result.now) place ∙ retired_is a.config a.newest a.log.items a.facts a.counts.items a.retired.items c.self.invariant c.args.stream c.index.result.now (omega arith) within)
