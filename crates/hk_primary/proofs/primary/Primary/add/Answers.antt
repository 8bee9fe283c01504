use Rattle.std.proofs.Common.{◌≡◌, ◌≤◌, ◌<◌, ◌-◌, ◌+◌, sym, ap, ◌∙◌, subst, arith, ◌++◌, ◌∷◌, [], List, ℕ, get_or, cond}
use Rattle.hk_log.specs.Items.{EntryValue}
use Rattle.hk_log.specs.declared.item.Item.{Item}
use Rattle.hk_log.specs.declared.item.Item.TheVariants.{Commit}
use Rattle.hk_model.specs.History.Histories.{commits, entries_in, last}
use Rattle.hk_store.specs.Facts.{with_entry}
use Rattle.hk_primary.specs.Log.{PrimaryValue, IsNext, IsPrimary, with_item, history_of, transaction_of}
use Rattle.hk_primary.proofs.PrimaryRules.{counts_length, count_is, count_few, last_bound, with_next}
use Rattle.hk_primary.proofs.HistoryOfLog.{read_on-push}
use Rattle.hk_primary.proofs.primary.Primary.add.Goals as goal

pub index_mut-requires : goal.index_mut-requires
index_mut-requires c =
    let a = c.self.inside in
    let many = counts_length a.config a.newest a.log.items a.facts a.counts.items a.retired.items c.self.invariant in
    let next : IsNext a.config (history_of a.log.items) c.args.entry = subst (λ (p : PrimaryValue). IsNext p.config p.history c.args.entry) (sym c.self.view_is) c.requires in
    let above = next.may_commit.follows.stream_above in
    let within = next.may_commit.follows.stream_within in
    omega (arith, c.from-place.ensures, c.number.ensures.value, c.stream.ensures)

pub overflow_add-index_mut : goal.overflow_add-index_mut
overflow_add-index_mut c =
    let a = c.self.inside in
    let next : IsNext a.config (history_of a.log.items) c.args.entry = subst (λ (p : PrimaryValue). IsNext p.config p.history c.args.entry) (sym c.self.view_is) c.requires in
    let above = next.may_commit.follows.stream_above in
    let within = next.may_commit.follows.stream_within in
    let place : c.from-place.result - 1 ≡ c.args.entry.stream - 1 = omega (arith, c.from-place.ensures, c.number.ensures.value, c.stream.ensures) in
    let is : c.index_mut.result.now ≡ entries_in (commits (history_of a.log.items)) c.args.entry.stream = c.index_mut.ensures.value ∙ ap (λ n. get_or a.counts.items n c.index_mut.result.now) place ∙ count_is a.config a.newest a.log.items a.facts a.counts.items a.retired.items c.self.invariant c.args.entry.stream c.index_mut.result.now (omega arith) within in
    let few = count_few a.config a.newest a.log.items a.facts a.counts.items a.retired.items c.self.invariant c.args.entry.stream in
    let bound = last_bound a.config a.newest a.log.items a.facts a.counts.items a.retired.items c.self.invariant in
    omega arith

pub invariant_of-self-2 : goal.invariant_of-self-2
invariant_of-self-2 c =
    let a = c.self.inside in
    let e = c.args.entry in
    let n = c.index_mut.result.now in
    let next : IsNext a.config (history_of a.log.items) e = subst (λ (p : PrimaryValue). IsNext p.config p.history e) (sym c.self.view_is) c.requires in
    let above = next.may_commit.follows.stream_above in
    let place : c.from-place.result - 1 ≡ e.stream - 1 = omega (arith, c.from-place.ensures, c.number.ensures.value, c.stream.ensures) in
    let items : c.push-pushed.new.self.items ≡ a.log.items ++ Commit e ∷ [] = c.push-pushed.ensures.items ∙ ap (λ b. cond b (c.reserve.new.self.items ++ Commit e ∷ []) c.reserve.new.self.items) (sym c.is_ok.ensures.value ∙ c.if-prove.false) ∙ ap (λ xs. xs ++ Commit e ∷ []) c.in_ok-reserve.ensures.items in
    rw (items, c.time-self-inside.ensures, c.in_ok-add_entry.ensures.ok, place) (with_next a.config a.newest a.log.items a.facts a.counts.items a.retired.items c.self.invariant e n next (c.index_mut.ensures.value ∙ ap (λ i. get_or a.counts.items i n) place))

pub returns-clause-ok : goal.returns-clause-ok
returns-clause-ok c =
    let a = c.self.inside in
    let e = c.args.entry in
    let items : c.push-pushed.new.self.items ≡ a.log.items ++ Commit e ∷ [] = c.push-pushed.ensures.items ∙ ap (λ b. cond b (c.reserve.new.self.items ++ Commit e ∷ []) c.reserve.new.self.items) (sym c.is_ok.ensures.value ∙ c.if-prove.false) ∙ ap (λ xs. xs ++ Commit e ∷ []) c.in_ok-reserve.ensures.items in
    rw (← c.self.view_is) (ap (λ xs. record { config = a.config; after = a.after; history = history_of xs; items = xs }) items ∙ ap (λ h. record { config = a.config; after = a.after; history = h; items = a.log.items ++ Commit e ∷ [] }) (read_on-push [] a.log.items (Commit e)))
