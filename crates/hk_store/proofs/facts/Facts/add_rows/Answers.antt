use Rattle.std.proofs.Common.{refl, sym, ap, ◌∙◌, List, map, ℕ, ◌∷◌, []}
use Rattle.std.proofs.lemmas.Iterator.Consumers.{YieldsList-end}
use Rattle.std.proofs.lemmas.Iterator.Adapters.{YieldsList-from_vec}
use Rattle.std.proofs.lemmas.List.{map-id, map-append}
use Rattle.std.specs.FinMap as finmap
use Rattle.hk_types.specs.Values.{RowValue}
use Rattle.hk_types.specs.declared.version_key.VersionKey.{VersionKey}
use Rattle.hk_model.specs.Replica.Maps.{union}
use Rattle.hk_model.specs.History.Facts.{inserted_version}
use Rattle.hk_chains.specs.Facts.{FactsValue, with_added}
use Rattle.hk_store.proofs.RolledBack.{union_none, union_push}
use Rattle.hk_store.proofs.facts.Facts.add_rows.Goals as goal

pub loop-table-init : goal.loop-table-init
loop-table-init c = record { rows = sym (union_none c.args.self.now.rows); ends = refl; back = refl }

pub loop-table-preserved : goal.loop-table-preserved
loop-table-preserved c =
    let f = inserted_version c.args.time in
    let p : ℕ × ℕ × RowValue = (c.in-Some.table, c.in-Some.key, c.in-Some.row) in
    record {
      rows = ap (λ (x : FactsValue). x.rows) c.in_ok-add.ensures.ok ∙ ap (λ n. with_added n (f p).0 c.in-Some.row) c.loop-table.invariant.rows ∙ union_push c.args.self.now.rows (map f c.loop-table.yielded) (f p).0 c.in-Some.row ∙ ap (λ (es : List (VersionKey × RowValue)). union c.args.self.now.rows (finmap.from_entries es)) (sym (map-append f c.loop-table.yielded (p ∷ [])));
      ends = ap (λ (x : FactsValue). x.ends) c.in_ok-add.ensures.ok ∙ c.loop-table.invariant.ends;
      back = c.in_ok-add.ensures.back ∙ c.loop-table.invariant.back;
    }

pub returns : goal.returns
returns c =
    let given = c.into_iter-table-iterator.ensures.into_iter_gives in
    let all = YieldsList-end (YieldsList-from_vec c.args.rows.items given.0 (given.1 ∙ c.args.rows.ok.0)) c.loop-table.yielded c.loop-table.table-iterator c.loop-table.yielded_by c.next.result c.next.new.self c.in-None.is c.next.ensures.steps in
    record {
      ok = (λ i. record { rows = c.loop-table.invariant.rows i; ends = c.loop-table.invariant.ends i }) ∙ ap (λ (rows : List (ℕ × ℕ × RowValue)). record { rows = union c.args.self.now.rows (finmap.from_entries (map (inserted_version c.args.time) rows)); ends = c.args.self.now.ends }) (sym (map-id c.loop-table.yielded) ∙ all.0);
      err = tt;
      back = c.loop-table.invariant.back;
    }
