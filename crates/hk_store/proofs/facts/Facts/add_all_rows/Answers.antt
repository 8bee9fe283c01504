use Rattle.std.proofs.Common.{refl, sym, ap, ◌∙◌, List}
use Rattle.std.proofs.lemmas.Iterator.Consumers.{YieldsList-end}
use Rattle.std.proofs.lemmas.Iterator.Adapters.{YieldsList-from_vec}
use Rattle.std.proofs.lemmas.List.{map-id}
use Rattle.std.specs.FinMap as finmap
use Rattle.hk_types.specs.Values.{RowValue}
use Rattle.hk_types.specs.declared.version_key.VersionKey.{VersionKey}
use Rattle.hk_model.specs.Replica.Maps.{union}
use Rattle.hk_chains.specs.Facts.{FactsValue, with_added}
use Rattle.hk_store.proofs.RolledBack.{union_none, union_push}
use Rattle.hk_store.proofs.facts.Facts.add_all_rows.Goals as goal

pub loop-version-init : goal.loop-version-init
loop-version-init c = record { rows = sym (union_none c.args.self.now.rows); ends = refl; back = refl }

pub loop-version-preserved : goal.loop-version-preserved
loop-version-preserved c = record {
  rows = ap (λ (f : FactsValue). f.rows) c.in_ok-add.ensures.ok ∙ ap (λ n. with_added n c.in-Some.version c.in-Some.row) c.loop-version.invariant.rows ∙ union_push c.args.self.now.rows c.loop-version.yielded c.in-Some.version c.in-Some.row;
  ends = ap (λ (f : FactsValue). f.ends) c.in_ok-add.ensures.ok ∙ c.loop-version.invariant.ends;
  back = c.in_ok-add.ensures.back ∙ c.loop-version.invariant.back;
}

pub returns : goal.returns
returns c =
    let given = c.into_iter-version-iterator.ensures.into_iter_gives in
    let all = YieldsList-end (YieldsList-from_vec c.args.rows.items given.0 (given.1 ∙ c.args.rows.ok.0)) c.loop-version.yielded c.loop-version.version-iterator c.loop-version.yielded_by c.next.result c.next.new.self c.in-None.is c.next.ensures.steps in
    record {
      ok = (λ i. record { rows = c.loop-version.invariant.rows i; ends = c.loop-version.invariant.ends i }) ∙ ap (λ (es : List (VersionKey × RowValue)). record { rows = union c.args.self.now.rows (finmap.from_entries es); ends = c.args.self.now.ends }) (sym (map-id c.loop-version.yielded) ∙ all.0);
      err = tt;
      back = c.loop-version.invariant.back;
    }
