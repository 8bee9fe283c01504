use Rattle.std.proofs.lemmas.Result.{on_ok_weaker}
use Rattle.hk_facts.proofs.StoredTrees.{IfErr_map, new_as, new_at}
use Rattle.hk_facts.proofs.ListedVersions.{Entry, nothing_first, only_there, put_only, born_then, join_only, join_only_refused}
use Rattle.hk_facts.proofs.chain_form.put_first.Goals as goal

pub returns-in-Some-clause-ok : goal.returns-in-Some-clause-ok
returns-in-Some-clause-ok c =
    let e : Entry = (c.in-Some._time, c.in-Some.version) in
    on_ok_weaker c.join.result (λ put. join_only c.args.first.now e c.in-Some.is c.args.born (born_then c.args.first.now e c.in-Some.is c.args.born c.requires) c.args.fact c.join.new.version put) c.join.ensures.ok

pub returns-in-Some-clause-err : goal.returns-in-Some-clause-err
returns-in-Some-clause-err c =
    let e : Entry = (c.in-Some._time, c.in-Some.version) in
    IfErr_map c.join.result (λ why put. join_only_refused c.args.first.now e c.in-Some.is c.args.born (born_then c.args.first.now e c.in-Some.is c.args.born c.requires) c.args.fact why put) c.join.ensures.err

pub returns-in-None-clause-ok : goal.returns-in-None-clause-ok
returns-in-None-clause-ok c = put_only c.args.first.now c.args.born c.args.fact c.version_of.result c.in-None.is c.version_of.ensures

pub returns-in-Some-clause-new : goal.returns-in-Some-clause-new
returns-in-Some-clause-new c =
    let e : Entry = (c.in-Some._time, c.in-Some.version) in
    new_as c.join.result _ _ c.args.fact (only_there c.args.first.now e c.in-Some.is c.args.born (born_then c.args.first.now e c.in-Some.is c.args.born c.requires)) c.join.ensures.new

pub returns-in-None-clause-new : goal.returns-in-None-clause-new
returns-in-None-clause-new c = new_at _ c.args.fact (nothing_first c.args.first.now c.args.born c.in-None.is)
