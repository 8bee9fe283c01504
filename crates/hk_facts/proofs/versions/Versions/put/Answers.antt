use Rattle.std.proofs.Common.{sym, inl, None}
use Rattle.std.proofs.lemmas.Result.{on_err_weaker, on_ok_weaker}
use Rattle.hk_facts.specs.Facts.{put_result}
use Rattle.hk_facts.proofs.StoredTrees.{found_seen, put_there, put_refused, put_new, write_back, out_of_memory, IfErr_map, new_as, new_at}
use Rattle.hk_facts.proofs.versions.Versions.put.Goals as goal

pub returns-in-Some-clause-ok : goal.returns-in-Some-clause-ok
returns-in-Some-clause-ok c = rw (← c.self.view_is) (on_ok_weaker c.join.result (λ e. put_there c.self.inside.versions (c.get_mut.follows.lender c.join.new.version) c.args.born _ _ (put_result c.args.fact) c.in-Some.ensures.value (c.get_mut.follows.holds c.join.new.version).3 e) c.join.ensures.ok)

pub returns-in-Some-clause-err : goal.returns-in-Some-clause-err
returns-in-Some-clause-err c = rw (← c.self.view_is) (IfErr_map c.join.result (λ why e. inl (put_refused c.self.inside.versions c.args.born _ (put_result c.args.fact) why c.in-Some.ensures.value e)) c.join.ensures.err)

pub returns-in-Some-clause-kept : goal.returns-in-Some-clause-kept
returns-in-Some-clause-kept c = rw (← c.self.view_is) (on_err_weaker c.join.result (λ e. write_back c.self.inside.versions (c.get_mut.follows.lender c.join.new.version) c.args.born _ _ c.in-Some.ensures.value (c.get_mut.follows.holds c.join.new.version).3 e) c.join.ensures.kept)

pub returns-in_err-insert-clause-err : goal.returns-in_err-insert-clause-err
returns-in_err-insert-clause-err c = rw (← c.self.view_is) (out_of_memory _ c.from_residual.result c.from_residual.ensures.1 (sym (found_seen c.self.inside.versions c.args.born None c.in_default.ensures.value)))

pub returns-clause-ok : goal.returns-clause-ok
returns-clause-ok c =
    let updates = rw c.get_mut.follows.holds-at-none at c.in_ok-insert.ensures.ok in
    rw (← c.self.view_is) (put_new c.self.inside.versions c.insert.new.versions c.args.born _ (put_result c.args.fact) c.in_default.ensures.value c.version_of.ensures updates)

pub returns-in-Some-clause-new : goal.returns-in-Some-clause-new
returns-in-Some-clause-new c = rw (← c.self.view_is) (new_as c.join.result _ _ c.args.fact (found_seen c.self.inside.versions c.args.born _ c.in-Some.ensures.value) c.join.ensures.new)

pub returns-clause-new : goal.returns-clause-new
returns-clause-new c = rw (← c.self.view_is) (new_at _ c.args.fact (sym (found_seen c.self.inside.versions c.args.born None c.in_default.ensures.value)))
