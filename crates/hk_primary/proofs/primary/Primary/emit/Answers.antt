use Rattle.std.proofs.Common.{◌≡◌, ◌≤◌, ◌-◌, sym, ap, ◌∙◌, subst, arith, ◌++◌, ◌∷◌, []}
use Rattle.hk_log.specs.declared.item.Item.TheVariants.{Closed}
use Rattle.hk_primary.specs.Log.{PrimaryValue, IsNextMark, history_of}
use Rattle.hk_primary.proofs.PrimaryRules.{retired_length, with_mark}
use Rattle.hk_primary.proofs.HistoryOfLog.{read_on-push}
use Rattle.hk_primary.proofs.primary.Primary.emit.Goals as goal

pub index_mut-requires : goal.index_mut-requires
index_mut-requires c =
    let a = c.self.inside in
    let many = retired_length a.config a.newest a.log.items a.facts a.counts.items a.retired.items c.self.invariant in
    let next : IsNextMark a.config (history_of a.log.items) c.args.mark = subst (λ (p : PrimaryValue). IsNextMark p.config p.history c.args.mark) (sym c.self.view_is) c.requires in
    let above = next.truthful.stream_above in
    let within = next.truthful.stream_within in
    omega (arith, c.from-place.ensures, c.number.ensures.value, c.stream.ensures)

pub invariant_of-self-2 : goal.invariant_of-self-2
invariant_of-self-2 c =
    let a = c.self.inside in
    let next : IsNextMark a.config (history_of a.log.items) c.args.mark = subst (λ (p : PrimaryValue). IsNextMark p.config p.history c.args.mark) (sym c.self.view_is) c.requires in
    let above = next.truthful.stream_above in
    let place : c.from-place.result - 1 ≡ c.args.mark.stream - 1 = omega (arith, c.from-place.ensures, c.number.ensures.value, c.stream.ensures) in
    rw (c.in_ok-push.ensures.items, place, c.number-2.ensures.value, c.m.ensures) (with_mark a.config a.newest a.log.items a.facts a.counts.items a.retired.items c.self.invariant c.args.mark next)

pub returns-clause-ok : goal.returns-clause-ok
returns-clause-ok c =
    let a = c.self.inside in
    rw (← c.self.view_is) (ap (λ xs. record { config = a.config; after = a.after; history = history_of xs; items = xs }) c.in_ok-push.ensures.items ∙ ap (λ h. record { config = a.config; after = a.after; history = h; items = a.log.items ++ Closed c.args.mark ∷ [] }) (read_on-push [] a.log.items (Closed c.args.mark)))
