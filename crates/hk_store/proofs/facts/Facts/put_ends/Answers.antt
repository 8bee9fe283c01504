use Rattle.std.proofs.Common.{◌≡◌, refl, sym, ap, ◌∙◌, subst, Some, ◌==◌, ◌+◌, List, ℕ, true, false, map, take, drop, arith}
use Rattle.std.specs.Bool.{OnTrue}
use Rattle.std.specs.FinMap as finmap
use Rattle.hk_types.specs.declared.version_key.VersionKey.{VersionKey}
use Rattle.hk_model.specs.Replica.Maps.{union, values_conflict}
use Rattle.hk_facts.specs.declared.fact.Fact.TheVariants.{End}
use Rattle.hk_chains.specs.Facts.{conflicts_at}
use Rattle.hk_store.specs.Undos.{ends_conflict}
use Rattle.hk_store.proofs.RolledBack.{union_none}
use Rattle.hk_store.proofs.EntryConflicts.{ends_sorted}
use Rattle.hk_store.proofs.EntryPut.{IsOutside, walked, walked_more, any_one_more, any_found, outside_at, outside_more, all_put, lasted, end_put, ends_kept, rows_stay, passed_on, on_true_to, itself, through}
use Rattle.hk_store.proofs.facts.Facts.put_ends.Goals as goal

pub loop-version-init : goal.loop-version-init
loop-version-init c = record { same = λ q none. refl; lasted = on_true_to c.args.lasts (λ e. e) (itself c.args.lasts); put = on_true_to c.args.lasts (λ e. sym (union_none c.args.self.now.ends)) (itself c.args.lasts); agrees = refl; rows = refl; back = refl }

pub returns-in_err-room-clause-err : goal.returns-in_err-room-clause-err
returns-in_err-room-clause-err c =
    let l = c.loop-version in
    let all = c.args.ends.now in
    let v = c.version-item.result in
    let i = l.version-index in
    let whole = walked all i v c.version-item.is (omega arith) in
    let at = outside_at (λ (v : VersionKey). (v, c.args.time)) c.args.self.now.ends l.self.ends all (take i all) (drop (i + 1) all) v whole (ends_sorted c.args.time all c.requires) l.invariant.same in
    let e = c.in_err-room.ensures.err in
    passed_on c.from_residual.result c.in_err-room.field-0.0 _ c.from_residual.ensures.1 e.0
    (any_found (λ v. conflicts_at c.args.self.now v (End c.args.time)) all (take i all) (drop (i + 1) all) v whole l.invariant.agrees
    (ap (λ o. values_conflict (λ a b. a == b) o (Some c.args.time)) (sym at) ∙ e.1))

pub loop-version-preserved : goal.loop-version-preserved
loop-version-preserved c =
    let f : VersionKey → VersionKey × ℕ = λ v. (v, c.args.time) in
    let l = c.loop-version in
    let all = c.args.ends.now in
    let m = c.args.self.now.ends in
    let v = c.version-item.result in
    let i = l.version-index in
    let whole = walked all i v c.version-item.is (omega arith) in
    let more = sym (walked_more all i v c.version-item.is (omega arith)) in
    let at = outside_at f m l.self.ends all (take i all) (drop (i + 1) all) v whole (ends_sorted c.args.time all c.requires) l.invariant.same in
    let e = c.in_ok-room.ensures in
    let new = c.put_while.new.self in
    let b = c.in_ok-room.room in
    let added = end_put l.self new v l.room b c.args.time e.put in
    let still = lasted l.self new v l.room b (End c.args.time) e.put in
    record {
      same = subst (λ (xs : List VersionKey). IsOutside f m new.ends xs) more (outside_more f m l.self.ends new.ends (take i all) v b added (ends_kept l.self new v l.room b e.kept) l.invariant.same);
      lasted = through (c.args.lasts ≡ true) l.room b still l.invariant.lasted;
      put = subst (λ (xs : List VersionKey). OnTrue b (new.ends ≡ union m (finmap.from_entries (map f xs)))) more (all_put f m l.self.ends new.ends (take i all) v l.room b still added l.invariant.put);
      agrees = subst (λ (xs : List VersionKey). ends_conflict c.args.self.now c.args.time xs ≡ false) more
          (any_one_more (λ v. conflicts_at c.args.self.now v (End c.args.time)) (take i all) v l.invariant.agrees (ap (λ o. values_conflict (λ a b. a == b) o (Some c.args.time)) (sym at) ∙ e.agrees));
      rows = rows_stay l.self new v l.room b c.args.time e.put e.kept ∙ l.invariant.rows;
      back = e.back ∙ l.invariant.back;
    }
