use Rattle.std.proofs.Common.{None, refl, subst}
use Rattle.hk_session_parts.specs.Sessions.{SessionValue, AppendsKept}
use Rattle.hk_session_parts.proofs.KeptReplies.{none_appended, piece_appended, whole_appended}
use Rattle.hk_turns.proofs.session.Session.append_kept.Goals as goal

pub returns-in_default-clause-ok : goal.returns-in_default-clause-ok
returns-in_default-clause-ok g c =
    let s = c.self.inside in
    subst (λ (v : SessionValue). AppendsKept v v c.args.out.now.items c.args.out.now.items) c.self.view_is
    (none_appended (record { requests = s.waiting.items; left = s.feeder; kept = s.kept; begun = s.place.bytes }) s.place c.args.out.now.items c.in_default.is refl c.self.invariant.1)

pub returns-in-Some-2-clause-ok : goal.returns-in-Some-2-clause-ok
returns-in-Some-2-clause-ok g c =
    let s = c.self.inside in
    subst (λ (v : SessionValue). AppendsKept v (record { requests = s.waiting.items; left = s.feeder; kept = s.kept; begun = c.in-Some-2.next.bytes }) c.args.out.now.items c.put_piece.new.out.items) c.self.view_is
    (piece_appended s.waiting.items s.feeder s.kept c.in-Some.reply s.place c.in-Some-2.next c.in_ok-next.field-0 c.args.out.now.items c.put_piece.new.out.items c.in-Some.is c.in-Some-2.is c.in_ok-next.ensures.ok)

pub returns-in-None-clause-ok : goal.returns-in-None-clause-ok
returns-in-None-clause-ok g c =
    let s = c.self.inside in
    subst (λ (v : SessionValue). AppendsKept v (record { requests = s.waiting.items; left = s.feeder; kept = None; begun = c.start-self-inside.result.bytes }) c.args.out.now.items c.put_piece.new.out.items) c.self.view_is
    (whole_appended s.waiting.items s.feeder s.kept c.in-Some.reply s.place c.start-self-inside.result.bytes c.in_ok-next.field-0 c.args.out.now.items c.put_piece.new.out.items c.in-Some.is c.in-None.is c.in_ok-next.ensures.ok)
