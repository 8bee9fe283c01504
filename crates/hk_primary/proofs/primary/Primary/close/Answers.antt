use Rattle.std.proofs.Common.{◌≡◌, ◌≤◌, ◌⊎◌, inl, inr, ◌^◌, sym, ap, ◌∙◌, subst, arith, ℕ, false}
use Rattle.hk_types.specs.Values.{ConfigValue}
use Rattle.hk_log.specs.declared.item.Item.{Item}
use Rattle.hk_model.specs.History.Histories.{commits, is_retired, last}
use Rattle.hk_primary.specs.Log.{PrimaryValue, IsNextMark, history_of}
use Rattle.hk_primary.proofs.HistoryOfLog.{honest}
use Rattle.hk_primary.proofs.PrimaryRules.{last_bound, next_mark}
use Rattle.hk_primary.proofs.primary.Primary.close.Goals as goal

-- what may be closed so is not before the last commit
not_early : (n u : ℕ) → n ≤ 2 ^ 62 → (u ≡ n) ⊎ (u ≡ 2 ^ 62) → n ≤ u
not_early n u bound (inl e) = omega arith
not_early n u bound (inr e) = omega arith

as_bound : (n u : ℕ) → (u ≡ n) ⊎ (u ≡ 2 ^ 62) → (u ≤ n) ⊎ (u ≡ 2 ^ 62)
as_bound n u (inl e) = inl (omega arith)
as_bound n u (inr e) = inr e

pub mark_of-mark-requires-clause-late : goal.mark_of-mark-requires-clause-late
mark_of-mark-requires-clause-late c =
    let a = c.self.inside in
    let bound = last_bound a.config a.newest a.log.items a.facts a.counts.items a.retired.items c.self.invariant in
    not_early (last (commits c.args.self.now.history)) c.args.upto (subst (λ (p : PrimaryValue). last (commits p.history) ≤ 2 ^ 62) c.self.view_is bound) c.requires

pub emit-requires : goal.emit-requires
emit-requires c =
    let a = c.self.inside in
    let least = c.number.ensures.least in
    let stream = c.number.ensures.value in
    let streams = c.streams.ensures.value in
    let within : c.args.stream ≤ a.config.streams = omega (arith, c.if-number-streams.false) in
    let still : is_retired (history_of a.log.items) c.args.stream ≡ false = ap (λ (p : PrimaryValue). is_retired p.history c.args.stream) c.self.view_is ∙ sym c.retired.ensures ∙ c.if-retired.false in
    let bound = last_bound a.config a.newest a.log.items a.facts a.counts.items a.retired.items c.self.invariant in
    let may = subst (λ (p : PrimaryValue). (c.args.upto ≡ last (commits p.history)) ⊎ (c.args.upto ≡ 2 ^ 62)) (sym c.self.view_is) c.requires in
    let newest = last (commits (history_of a.log.items)) in
    let next = next_mark a.config a.newest a.log.items a.facts a.counts.items a.retired.items c.self.invariant c.args.stream c.args.upto (omega arith) within still (not_early newest c.args.upto bound may) (as_bound newest c.args.upto may) in
    rw c.mark_of-mark.ensures (rw (← c.self.view_is) next)

pub returns-then-number-streams-clause-honest : goal.returns-then-number-streams-clause-honest
returns-then-number-streams-clause-honest c = rw (← c.self.view_is) (honest c.self.inside.config c.self.inside.after c.self.inside.log.items c.self.invariant.logged)

pub returns-then-retired-clause-honest : goal.returns-then-retired-clause-honest
returns-then-retired-clause-honest c = rw (← c.self.view_is) (honest c.self.inside.config c.self.inside.after c.self.inside.log.items c.self.invariant.logged)

pub returns-in_err-emit-clause-honest : goal.returns-in_err-emit-clause-honest
returns-in_err-emit-clause-honest c = rw (← c.self.view_is) (honest c.self.inside.config c.self.inside.after c.self.inside.log.items c.self.invariant.logged)

pub returns-clause-honest : goal.returns-clause-honest
returns-clause-honest c = rw (← c.self.view_is) (honest c.self.inside.config c.self.inside.after c.self.inside.log.items c.self.invariant.logged)
