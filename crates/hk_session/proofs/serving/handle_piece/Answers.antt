use Rattle.std.proofs.Common.{List, [], ℕ, sym, subst, append-nil, ◌++◌, ◌∙◌}
use Rattle.std.proofs.KnownBytes.{Appends-nil}
use Rattle.hk_session_parts.specs.Sessions.{EndedSo}
use Rattle.hk_session_parts.specs.declared.ended.Ended.TheVariants.{Memory}
use Rattle.hk_session_parts.proofs.SessionTurns.{at_ok}
use Rattle.hk_session_parts.proofs.SessionStands.{ended_memory, stands_read}
use Rattle.hk_session.proofs.serving.handle_piece.Goals as goal

pub returns-then-is_err-clause-speaks : goal.returns-then-is_err-clause-speaks
returns-then-is_err-clause-speaks g c start bytes text k =
    let ended = ended_memory g.row.LATEST g.H.Host.may start c.args.host.now bytes c.args.piece.now text c.args.session.now k in
    ([], Appends-nil _, (subst (λ (t : List ℕ). EndedSo g.row.LATEST g.H.Host.may start c.args.host.now (bytes ++ c.args.piece.now) t Memory) (sym (append-nil text)) ended, tt))

pub returns-clause-speaks : goal.returns-clause-speaks
returns-clause-speaks g c start bytes text k =
    let read = at_ok c.read.result _ (sym c.is_err.ensures.value ∙ c.if-is_err.false) c.read.ensures.ok in
    c.answer_all.ensures.speaks start (bytes ++ c.args.piece.now) text (stands_read g.row.LATEST g.H.Host.may start c.args.host.now bytes text c.args.piece.now c.args.session.now c.read.new.self k read)
