use Rattle.std.proofs.Common.{◌≡◌, refl, sym, ap, ◌∙◌, subst, map, nat_lt, true, false, ◌==◌, ◌++◌}
use Rattle.std.specs.FinSet as set
use Rattle.hk_types.specs.declared.version_key.VersionKey.{VersionKey}
use Rattle.hk_store.specs.Reads.{facts_of_content}
use Rattle.hk_store.specs.Versions.{AreVersionsOf, borrowed}
use Rattle.hk_merge.specs.Sent.{fragment_sent, sends_row}
use Rattle.hk_merge.specs.Plans.{rises, may_go, all_gone, rows_back, ends_back}
use Rattle.hk_merge.proofs.RisingHorizon.{facts_are, risen_drops, risen_rows, risen_ends, level_drops, level_rows, level_ends, no_rise, some_rise}
use Rattle.hk_merge.proofs.join.rise.Goals as goal

pub returns-then-ge : goal.returns-then-ge
returns-then-ge c =
    let t = c.args.target.now in
    let f = fragment_sent c.args.sent.now in
    let level : rises t f ≡ false = ap (λ n. nat_lt n f.content.horizon) (sym c.horizon.ensures.value) ∙ ap (nat_lt c.horizon.result) (sym c.horizon-horizon.ensures.value) ∙ no_rise c.horizon.result c.horizon-horizon.result (sym c.ge.ensures ∙ c.if-ge.true) in
    record {
      drops = λ q. level_drops t f level _ q;
      rows = λ q. level_rows t f level _ q;
      ends = λ q. level_ends t f level _ q;
      horizon = refl;
      err = tt;
    }

pub returns : goal.returns
returns c =
    let t = c.args.target.now in
    let f = fragment_sent c.args.sent.now in
    let up : rises t f ≡ true = ap (λ n. nat_lt n f.content.horizon) (sym c.horizon.ensures.value) ∙ ap (nat_lt c.horizon.result) (sym c.horizon-horizon.ensures.value) ∙ some_rise c.horizon.result c.horizon-horizon.result (sym c.ge.ensures ∙ c.if-ge.false) in
    let whole : c.eq.result ≡ (f.base == 0) = c.eq.ensures ∙ (λ i. c.base.ensures i == c.zero.ensures i) in
    let own = map borrowed c.in_ok-own.own.items in
    let some = set.contains c.in_ok-some.some in
    let same = facts_are c.facts.result.now t c.facts.ensures.rows c.facts.ensures.ends in
    let are : AreVersionsOf (facts_of_content t) some own = subst (λ x. AreVersionsOf x some own) (facts_are c.facts-2.result.now t c.facts-2.ensures.rows c.facts-2.ensures.ends) c.in_ok-own.ensures in
    let may : (q : VersionKey) → some q ≡ may_go c.eq.result f.content.horizon (facts_of_content t) q = λ q. c.in_ok-some.ensures.ok q ∙ (λ i. may_go c.eq.result (c.horizon-horizon.ensures.value i) (same i) q) in
    let e = c.in_ok-leave.ensures in
    let old = c.args.change.now in
    let new = c.leave.new.change in
    record {
      drops = risen_drops t f up own some are c.eq.result whole may old.drops.items new.drops.items (e.drops ∙ (λ i. old.drops.items ++ all_gone c.eq.result (c.horizon-horizon.ensures.value i) (sends_row c.args.sent.now) (map borrowed (c.deref.ensures.value i))));
      rows = risen_rows t f up own some are c.eq.result whole may old.rows.items new.rows.items (e.rows ∙ (λ i. old.rows.items ++ rows_back c.eq.result (c.horizon-horizon.ensures.value i) (sends_row c.args.sent.now) (map borrowed (c.deref.ensures.value i))));
      ends = risen_ends t f up own some are c.eq.result whole may old.ends.items new.ends.items (e.ends ∙ (λ i. old.ends.items ++ ends_back c.eq.result (c.horizon-horizon.ensures.value i) (sends_row c.args.sent.now) (map borrowed (c.deref.ensures.value i))));
      horizon = c.leave.ensures.horizon;
      err = tt;
    }
