use Rattle.std.proofs.Common.{◌≡◌, ◌≤◌, ◌<◌, ◌-◌, sym, ap, ◌∙◌, subst, arith, length, get_or, ℕ}
use Rattle.hk_model.specs.History.Histories.{commits, entries_in, last}
use Rattle.hk_primary.specs.Log.{PrimaryValue, history_of}
use Rattle.hk_primary.proofs.PrimaryRules.{counts_length, count_is, count_few, last_bound}
use Rattle.hk_primary.proofs.primary.Primary.count_of.Goals as goal

pub index-requires : goal.index-requires
index-requires c =
    let a = c.self.inside in
    let many = counts_length a.config a.newest a.log.items a.facts a.counts.items a.retired.items c.self.invariant in
    let within : c.args.stream ≤ a.config.streams = subst (λ (p : PrimaryValue). c.args.stream ≤ p.config.streams) (sym c.self.view_is) c.requires in
    let stream = c.number.ensures in
    omega (arith, c.from.ensures)

pub returns-clause-value : goal.returns-clause-value
returns-clause-value c =
    let a = c.self.inside in
    let within : c.args.stream ≤ a.config.streams = subst (λ (p : PrimaryValue). c.args.stream ≤ p.config.streams) (sym c.self.view_is) c.requires in
    let least = c.number.ensures.least in
    let stream = c.number.ensures.value in
    let place : c.from.result - 1 ≡ c.args.stream - 1 = omega (arith, c.from.ensures) in
    rw (← c.self.view_is) (c.index.ensures ∙ ap (λ n. get_or a.counts.items n c.index.result.now) place ∙ count_is a.config a.newest a.log.items a.facts a.counts.items a.retired.items c.self.invariant c.args.stream c.index.result.now (omega arith) within)

pub returns-clause-bound : goal.returns-clause-bound
returns-clause-bound c =
    let a = c.self.inside in
    let within : c.args.stream ≤ a.config.streams = subst (λ (p : PrimaryValue). c.args.stream ≤ p.config.streams) (sym c.self.view_is) c.requires in
    let least = c.number.ensures.least in
    let stream = c.number.ensures.value in
    let place : c.from.result - 1 ≡ c.args.stream - 1 = omega (arith, c.from.ensures) in
    let is : c.index.result.now ≡ entries_in (commits (history_of a.log.items)) c.args.stream = c.index.ensures ∙ ap (λ n. get_or a.counts.items n c.index.result.now) place ∙ count_is a.config a.newest a.log.items a.facts a.counts.items a.retired.items c.self.invariant c.args.stream c.index.result.now (omega arith) within in
    let few = count_few a.config a.newest a.log.items a.facts a.counts.items a.retired.items c.self.invariant c.args.stream in
    rw (← c.self.view_is) (subst (λ (n : ℕ). n ≤ last (commits (history_of a.log.items))) (sym is) few)

pub returns-clause-fits : goal.returns-clause-fits
returns-clause-fits c =
    let a = c.self.inside in
    let within : c.args.stream ≤ a.config.streams = subst (λ (p : PrimaryValue). c.args.stream ≤ p.config.streams) (sym c.self.view_is) c.requires in
    let least = c.number.ensures.least in
    let stream = c.number.ensures.value in
    let place : c.from.result - 1 ≡ c.args.stream - 1 = omega (arith, c.from.ensures) in
    let is : c.index.result.now ≡ entries_in (commits (history_of a.log.items)) c.args.stream = c.index.ensures ∙ ap (λ n. get_or a.counts.items n c.index.result.now) place ∙ count_is a.config a.newest a.log.items a.facts a.counts.items a.retired.items c.self.invariant c.args.stream c.index.result.now (omega arith) within in
    let few = count_few a.config a.newest a.log.items a.facts a.counts.items a.retired.items c.self.invariant c.args.stream in
    let bound = last_bound a.config a.newest a.log.items a.facts a.counts.items a.retired.items c.self.invariant in
    omega arith
