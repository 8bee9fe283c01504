use Rattle.std.proofs.Common.{refl, sym, ◌∙◌, inl, inr}
use Rattle.hk_session_parts.proofs.SessionTurns.{at_ok, at_err}
use Rattle.hk_session_parts.proofs.SessionStands.{continues_takes}
use Rattle.hk_turns.proofs.session.Session.take.Goals as goal

pub returns-then-is_err-clause-continues : goal.returns-then-is_err-clause-continues
returns-then-is_err-clause-continues g c =
    let same = at_err c.read.result _ (sym c.is_err.ensures.value ∙ c.if-is_err.true) c.read.ensures.err in
    continues_takes g.row.LATEST g.H.Host.may c.args.host.now c.args.host.now c.args.self.now c.read.new.self c.args.piece.now c.args.has_waited c.args.out.now.items c.args.out.now.items _ (inr (refl, refl, same, refl))

pub returns-clause-continues : goal.returns-clause-continues
returns-clause-continues g c =
    let read = at_ok c.read.result _ (sym c.is_err.ensures.value ∙ c.if-is_err.false) c.read.ensures.ok in
    continues_takes g.row.LATEST g.H.Host.may c.args.host.now c.answer.new.host c.args.self.now c.answer.new.self c.args.piece.now c.args.has_waited c.args.out.now.items c.answer.new.out.items c.answer.result (inl (c.read.new.self, read, c.answer.ensures.turns))
