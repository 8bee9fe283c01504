use Rattle.std.proofs.Common.{sym}
use Rattle.std.proofs.lemmas.Result.{on_ok_weaker}
use Rattle.hk_facts.proofs.StoredTrees.{IfErr_map, new_as}
use Rattle.hk_facts.proofs.ListedVersions.{joined, join_refused, keys_stay, known}
use Rattle.hk_facts.proofs.few.join_at.Goals as goal

pub returns-clause-ok : goal.returns-clause-ok
returns-clause-ok c = on_ok_weaker c.join.result (λ put. joined c.args.versions.now.items c.args.place c.args.born c.index_mut.result.now c.requires.sorted c.requires.there c.index_mut.ensures.value c.args.fact c.join.new.version put) c.join.ensures.ok

pub returns-clause-err : goal.returns-clause-err
returns-clause-err c = IfErr_map c.join.result (λ why put. join_refused c.args.versions.now.items c.args.place c.args.born c.index_mut.result.now c.requires.sorted c.requires.there c.index_mut.ensures.value c.args.fact why put) c.join.ensures.err

pub returns-clause-keys : goal.returns-clause-keys
returns-clause-keys c = keys_stay c.args.versions.now.items c.args.place c.args.born c.index_mut.result.now c.requires.sorted c.requires.there c.index_mut.ensures.value c.join.new.version

pub returns-clause-new : goal.returns-clause-new
returns-clause-new c = new_as c.join.result _ _ c.args.fact (sym (known c.args.versions.now.items c.args.place c.args.born c.index_mut.result.now c.requires.sorted c.requires.there c.index_mut.ensures.value)) c.join.ensures.new
