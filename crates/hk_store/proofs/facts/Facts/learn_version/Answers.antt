use Rattle.std.proofs.lemmas.Result.{on_ok_weaker}
use Rattle.hk_facts.proofs.StoredTrees.{IfErr_map}
use Rattle.hk_chains.specs.Facts.{entry_if}
use Rattle.hk_store.specs.Learning.{row_told, end_told}
use Rattle.hk_store.proofs.LearntFacts.{both_agree, both_put, end_refused}
use Rattle.hk_store.proofs.facts.Facts.learn_version.Goals as goal

pub returns-clause-ok : goal.returns-clause-ok
returns-clause-ok c =
    let f = c.args.self.now in
    let v = c.args.version.now in
    let row = entry_if v (row_told c.args.coming.now.old c.args.coming.now.horizon v c.args.told.now) in
    let end = entry_if v (end_told c.args.coming.now.old c.args.coming.now.horizon v c.args.told.now) in
    on_ok_weaker c.learn_end.result (λ second. both_put f c.learn_row.new.self c.learn_end.new.self row end c.in_ok-learn_row.ensures.ok second) c.learn_end.ensures.ok

pub returns-clause-agrees : goal.returns-clause-agrees
returns-clause-agrees c = on_ok_weaker c.learn_end.result (λ end. both_agree c.args.self.now c.learn_row.new.self c.args.version.now c.args.told.now _ c.in_ok-learn_row.ensures.ok c.in_ok-learn_row.ensures.agrees end) c.learn_end.ensures.agrees

pub returns-clause-err : goal.returns-clause-err
returns-clause-err c = IfErr_map c.learn_end.result (end_refused c.args.self.now c.learn_row.new.self c.args.version.now c.args.told.now _ c.in_ok-learn_row.ensures.ok) c.learn_end.ensures.err
