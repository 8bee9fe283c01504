use Rattle.std.proofs.Common.{◌≡◌, ◌≤◌, ◌<◌, ◌^◌, ◌+◌, sym, ap, ◌∙◌, subst, arith}
use Rattle.std.specs.FinMap as finmap
use Rattle.hk_log.specs.Items.{EntryValue, IsEntry}
use Rattle.hk_model.specs.History.Histories.{Transaction, Follows, commits, entry_of}
use Rattle.hk_model.proofs.History.Histories.{are_commits}
use Rattle.hk_model.proofs.History.Formed.{entry_formed}
use Rattle.hk_primary.specs.Log.{PrimaryValue, history_of}
use Rattle.hk_primary.proofs.PrimaryRules.{is_history}
use Rattle.hk_primary.proofs.primary.Primary.entry_of.Goals as goal

pub of_parts-requires : goal.of_parts-requires
of_parts-requires c =
    let a = c.self.inside in
    let p : PrimaryValue = c.args.self.now in
    let t : Transaction = record { time = c.args.time; stream = c.args.stream; writes = finmap.values c.args.txn.now.writes } in
    let follows : Follows a.config (commits (history_of a.log.items)) t = subst (λ (q : PrimaryValue). Follows q.config (commits q.history) t) (sym c.self.view_is) c.requires in
    let log = c.log.ensures in
    let fits : a.config.log < 2 ^ 64 = let range = c.log.type_inv in omega arith in
    let formed = entry_formed a.config (commits (history_of a.log.items)) t fits c.self.invariant.few_streams (are_commits a.config (history_of a.log.items) (is_history a.config a.newest a.log.items a.facts a.counts.items a.retired.items c.self.invariant)) follows in
    let log_is : c.log.result ≡ p.config.log = log ∙ ap (λ (q : PrimaryValue). q.config.log) c.self.view_is in
    let is : record { log = c.log.result; stream = c.args.stream; number = c.count_of-number.result + 1; time = c.args.time; ends = c.in_ok-ends.ends.items; rows = c.in_ok-rows.rows.items } ≡ entry_of p.config (commits p.history) t =
    (λ i. record { log = log_is i; stream = c.args.stream; number = c.count_of-number.ensures.value i + 1; time = c.args.time; ends = c.in_ok-ends.ensures i; rows = c.in_ok-rows.ensures i })
    in
    subst IsEntry (sym is) (subst (λ (q : PrimaryValue). IsEntry (entry_of q.config (commits q.history) t)) c.self.view_is formed)
