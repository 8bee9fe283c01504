use Rattle.std.proofs.Common.{◌≡◌, sym, ap, ◌∙◌, subst, List, ◌∷◌, ◌++◌, []}
use Rattle.std.specs.FinMap as finmap
use Rattle.std.proofs.lemmas.Result.{on_ok_weaker}
use Rattle.hk_log.specs.Items.{EntryValue}
use Rattle.hk_log.specs.declared.item.Item.TheVariants.{Commit}
use Rattle.hk_model.specs.History.Histories.Act.{Commits}
use Rattle.hk_model.specs.History.Histories.{Transaction, MayCommit, commits, entry_of}
use Rattle.hk_primary.specs.Calls.{with_transaction}
use Rattle.hk_primary.specs.Log.{PrimaryValue, IsNext, transaction_of, with_item}
use Rattle.hk_primary.proofs.EntryReadBack.{read_back}
use Rattle.hk_primary.proofs.primary.Primary.store.Goals as goal

next_entry : (p : PrimaryValue) (t : Transaction) (e : EntryValue) → MayCommit p.config p.history t → e ≡ entry_of p.config (commits p.history) t → IsNext p.config p.history e
next_entry p t e f is =
    let back : transaction_of e ≡ t = ap transaction_of is ∙ read_back p.config (commits p.history) t f.follows in
    record { may_commit = subst (MayCommit p.config p.history) (sym back) f; is_entry = is ∙ ap (entry_of p.config (commits p.history)) (sym back) }

entered : (p : PrimaryValue) (t : Transaction) (e : EntryValue) → MayCommit p.config p.history t → e ≡ entry_of p.config (commits p.history) t → with_item p (Commits (transaction_of e) ∷ p.history) (Commit e) ≡ with_transaction p t
entered p t e f is = λ i. with_item p (Commits ((ap transaction_of is ∙ read_back p.config (commits p.history) t f.follows) i) ∷ p.history) (Commit (is i))

pub add-requires : goal.add-requires
add-requires c =
    let t : Transaction = record { time = c.args.time; stream = c.args.stream; writes = finmap.values c.args.txn.now.writes } in
    next_entry c.args.self.now t c.in_ok-entry.entry c.requires c.in_ok-entry.ensures

pub returns-clause-ok : goal.returns-clause-ok
returns-clause-ok c =
    let t : Transaction = record { time = c.args.time; stream = c.args.stream; writes = finmap.values c.args.txn.now.writes } in
    on_ok_weaker c.add.result (λ e. e ∙ entered c.args.self.now t c.in_ok-entry.entry c.requires c.in_ok-entry.ensures) c.add.ensures.ok
