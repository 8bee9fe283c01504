use Rattle.std.proofs.Common.{refl, sym, ap, ◌∙◌, arith}
use Rattle.hk_chains.specs.Facts.{FactsValue}
use Rattle.hk_store.proofs.RolledBack.{union_none, add_more}
use Rattle.hk_store.proofs.facts.Facts.add_ends.Goals as goal

pub loop-version-init : goal.loop-version-init
loop-version-init c = record { rows = refl; ends = sym (union_none c.args.self.now.ends); back = refl }

pub loop-version-preserved : goal.loop-version-preserved
loop-version-preserved c = record {
  rows = ap (λ (f : FactsValue). f.rows) c.in_ok-add.ensures.ok ∙ c.loop-version.invariant.rows;
  ends = add_more (λ v. (v, c.args.time)) c.args.self.now.ends c.loop-version.self.ends c.add.new.self.ends c.args.ends.now c.loop-version.version-index c.version-item.result c.version-item.is (omega arith) c.loop-version.invariant.ends (ap (λ (f : FactsValue). f.ends) c.in_ok-add.ensures.ok);
  back = c.in_ok-add.ensures.back ∙ c.loop-version.invariant.back;
}
