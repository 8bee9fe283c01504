use Rattle.std.proofs.Common.{sym}
use Rattle.hk_facts.specs.declared.fact.Fact.TheVariants.{End}
use Rattle.hk_chains.proofs.Indexed.{put_is}
use Rattle.hk_store.proofs.LearntFacts.{no_end, end_above, end_below, end_comes_in, no_end_comes}
use Rattle.hk_store.proofs.facts.Facts.learn_end.Goals as goal

pub returns-in_default-clause-ok : goal.returns-in_default-clause-ok
returns-in_default-clause-ok c = no_end_comes c.args.self.now c.args.version.now _ (no_end c.args.coming.now.horizon _ (sym c.in_default.ensures.value))

pub returns-then-lt-clause-ok : goal.returns-then-lt-clause-ok
returns-then-lt-clause-ok c =
    let f = c.args.self.now in
    let v = c.args.version.now in
    end_comes_in f c.put.new.self v _ c.in-Some.died (end_above c.args.coming.now.horizon c.in-Some.died _ (sym c.in-Some.ensures.value) (sym c.if-lt.ensures)) (put_is f c.put.new.self v (End c.in-Some.died) c.in_ok-put.ensures.ok)

pub returns-clause-ok : goal.returns-clause-ok
returns-clause-ok c = no_end_comes c.args.self.now c.args.version.now _ (end_below c.args.coming.now.horizon c.in-Some.died _ (sym c.in-Some.ensures.value) (sym c.if-lt.ensures))
