use Rattle.std.proofs.Common.{List, ap, subst, sym, ◌++◌, ◌∙◌}
use Rattle.hk_messages.specs.declared.request.Request.{Request}
use Rattle.hk_messages.specs.Requests.{AddsRequests}
use Rattle.hk_session_parts.specs.Sessions.{SessionValue, ReadIn}
use Rattle.hk_session_parts.proofs.SessionStands.{met_fault, open_left, read_faulty, read_more}
use Rattle.hk_turns.proofs.session.Session.read.Goals as goal

pub returns-then-is_some-clause-ok : goal.returns-then-is_some-clause-ok
returns-then-is_some-clause-ok g c =
    let met = met_fault c.self.inside.feeder c.self.inside.fault c.self.invariant.0 (sym c.is_some.ensures ∙ c.if-is_some.true) in
    read_faulty g.row.LATEST c.args.self.now met.0 c.args.piece.now (ap (λ (v : SessionValue). v.left) (sym c.self.view_is) ∙ met.1)

pub invariant_of-self-2 : goal.invariant_of-self-2
invariant_of-self-2 g c =
    let held = open_left c.self.inside.feeder c.self.inside.fault c.self.invariant.0 (sym c.is_some.ensures ∙ c.if-is_some.false) in
    ((c.in_ok-self-inside.ensures.reads held.0 held.1).1, c.self.invariant.1)

pub returns-clause-ok : goal.returns-clause-ok
returns-clause-ok g c =
    let held = open_left c.self.inside.feeder c.self.inside.fault c.self.invariant.0 (sym c.is_some.ensures ∙ c.if-is_some.false) in
    let text = held.0 ++ c.args.piece.now in
    let new = c.take_in-read.new.feeder in
    let before = c.from-requests.ensures.0 ∙ ap (λ d. d.items) c.replace.ensures.value in
    let added = subst (λ (l : List Request). AddsRequests g.row.LATEST l c.take_in-read.new.requests.items text new) before (c.in_ok-self-inside.ensures.reads held.0 held.1).0 in
    let behind = subst (λ (l : List Request). AddsRequests g.row.LATEST c.self.inside.waiting.items l text new) (sym c.from.ensures.0) added in
    subst (λ (v : SessionValue). ReadIn g.row.LATEST v (record { requests = c.from.result.items; left = new; kept = c.self.inside.kept; begun = c.self.inside.place.bytes }) c.args.piece.now) c.self.view_is
    (read_more g.row.LATEST c.self.inside.waiting.items c.from.result.items held.0 c.args.piece.now c.self.inside.feeder new c.self.inside.kept c.self.inside.place.bytes held.1 behind)
