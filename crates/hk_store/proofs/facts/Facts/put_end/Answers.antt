use Rattle.std.proofs.Common.{ap}
use Rattle.std.proofs.lemmas.Bool.{OnTrue_at}
use Rattle.hk_facts.specs.declared.fact.Fact.TheVariants.{End}
use Rattle.hk_store.specs.Undos.{rolled_back}
use Rattle.hk_chains.proofs.Indexed.{put_is}
use Rattle.hk_store.proofs.RolledBack.{taken_back, kept_unless_noted, noted_or_back}
use Rattle.hk_store.proofs.StatedFacts.{end_later, end_stated}
use Rattle.hk_store.proofs.facts.Facts.put_end.Goals as goal

pub invariant_of-self-in-Err : goal.invariant_of-self-in-Err
invariant_of-self-in-Err c =
    let a = c.self.inside in
    let new = OnTrue_at c.if-not-branch.false c.in_ok-put.ensures.new in
    let is = put_is a.chains c.put.new.self c.args.version.now (End c.args.died) c.in_ok-put.ensures.ok in
    let back = taken_back a.chains c.put.new.self c.args.version.now (End c.args.died) new is c.forget.new.self c.forget.ensures in
    rw (back, c.in-Err.ensures.kept) c.self.invariant

pub returns-in-Err-clause-kept : goal.returns-in-Err-clause-kept
returns-in-Err-clause-kept c =
    let a = c.self.inside in
    let new = OnTrue_at c.if-not-branch.false c.in_ok-put.ensures.new in
    let is = put_is a.chains c.put.new.self c.args.version.now (End c.args.died) c.in_ok-put.ensures.ok in
    rw (← c.self.view_is) (taken_back a.chains c.put.new.self c.args.version.now (End c.args.died) new is c.forget.new.self c.forget.ensures)

pub invariant_of-self-2 : goal.invariant_of-self-2
invariant_of-self-2 c =
    let a = c.self.inside in
    let new = OnTrue_at c.if-not-branch.false c.in_ok-put.ensures.new in
    let is = put_is a.chains c.put.new.self c.args.version.now (End c.args.died) c.in_ok-put.ensures.ok in
    record {
      tagged = rw is c.self.invariant.tagged;
      stated = rw (is, c.in_default.ensures.ok, c.of_version.ensures) (end_stated a.chains a.stated c.self.invariant.stated c.args.version.now c.args.died new);
      later = rw (is, c.min-self-inside.ensures, c.number.ensures.value) (end_later a.chains c.args.version.now a.first_end c.args.died c.self.invariant.later new);
    }

pub returns-in-Err-clause-back : goal.returns-in-Err-clause-back
returns-in-Err-clause-back c = ap (rolled_back c.args.undo.now) (returns-in-Err-clause-kept c)

pub returns-clause-kept : goal.returns-clause-kept
returns-clause-kept c =
    let a = c.self.inside in
    let new = OnTrue_at c.if-not-branch.false c.in_ok-put.ensures.new in
    let is = put_is a.chains c.put.new.self c.args.version.now (End c.args.died) c.in_ok-put.ensures.ok in
    rw (← c.self.view_is) (kept_unless_noted a.chains c.put.new.self c.args.version.now (End c.args.died) new is c.note.new.self c.args.undo.now c.note.new.undo c.note.result c.note.ensures.back)

pub returns-clause-back : goal.returns-clause-back
returns-clause-back c =
    let a = c.self.inside in
    let new = OnTrue_at c.if-not-branch.false c.in_ok-put.ensures.new in
    let is = put_is a.chains c.put.new.self c.args.version.now (End c.args.died) c.in_ok-put.ensures.ok in
    rw (← c.self.view_is) (noted_or_back a.chains c.put.new.self c.args.version.now (End c.args.died) new is c.note.new.self c.args.undo.now c.note.new.undo c.note.result c.note.ensures.noted c.note.ensures.stays c.note.ensures.same c.note.ensures.back)
