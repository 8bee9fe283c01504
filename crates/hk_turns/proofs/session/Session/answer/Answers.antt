use Rattle.std.proofs.Common.{◌≡◌, refl, ◌≤◌, false, Some, length, ap, subst, sym, ◌∙◌, ltb-true, ltb-false, arith}
use Rattle.hk_session_parts.specs.Sessions.{SessionValue, HasNoNext}
use Rattle.hk_session_parts.proofs.SessionTurns.{TurnSoFar, at_ok, some_over, some_appended, none_kept, turn_start, turn_appended, turn_answered, turn_paused}
use Rattle.hk_turns.proofs.session.Session.answer.Goals as goal
use Rattle.hk_turns.proofs.session.Session.answer.Goals.{then-begun-via-then-begun, then-begun-via-else-begun+then-len-gt-MOST_READY}

pub requests-init : goal.requests-init
requests-init g c = record { so_far = turn_start g.H.Host.may c.args.host.now c.args.self.now c.args.has_waited c.args.out.now.items; begun = refl; ready = c.requires }

pub returns-then-begun-clause-turns : goal.returns-then-begun-clause-turns
returns-then-begun-clause-turns g c =
    let on = sym c.is_err.ensures.value ∙ c.if-is_err.false in
    let piece = at_ok c.append_kept.result _ on c.append_kept.ensures.ok in
    let now = turn_appended g.H.Host.may c.args.host.now c.requests.host c.args.self.now c.requests.self c.append_kept.new.self c.args.has_waited c.requests.waited c.args.out.now.items c.requests.out.items c.append_kept.new.out.items c.requests.invariant.so_far piece in (
      now.turn,
      elim c.then-begun.branch [
        | then-begun-via-then-begun w ↦ some_appended c.requests.self c.append_kept.new.self c.requests.out.items c.append_kept.new.out.items piece (ltb-true 0 c.requests.self.begun (sym c.has_begun-begun.ensures ∙ w.if-begun.true))
        | then-begun-via-else-begun+then-len-gt-MOST_READY w ↦ some_over c.append_kept.new.out.items 65536 (omega (arith, w.if-len-gt-MOST_READY.true, w.len.ensures))
      ],
    )

pub returns-in_default-clause-turns : goal.returns-in_default-clause-turns
returns-in_default-clause-turns g c =
    let on = sym c.is_err.ensures.value ∙ c.if-is_err.false in
    let piece = at_ok c.append_kept.result _ on c.append_kept.ensures.ok in
    let now = turn_appended g.H.Host.may c.args.host.now c.requests.host c.args.self.now c.requests.self c.append_kept.new.self c.args.has_waited c.requests.waited c.args.out.now.items c.requests.out.items c.append_kept.new.out.items c.requests.invariant.so_far piece in
    let few : length c.append_kept.new.out.items ≤ 65536 = omega (arith, c.if-len-gt-MOST_READY.false, c.len.ensures) in
    let none = none_kept c.requests.self c.append_kept.new.self c.requests.out.items c.append_kept.new.out.items piece few in
    let least = ltb-false 0 c.requests.self.begun (sym c.has_begun-begun.ensures ∙ c.if-begun.false) in
    let fresh : c.args.self.now.begun ≡ 0 = omega (arith, least, c.requests.invariant.begun) in
    let end = c.in_default.ensures.same in
    let kept = ap (λ (v : SessionValue). v.kept) end ∙ none in
    let at = subst (λ (v : SessionValue). HasNoNext c.requests.waited v.requests) (sym end) c.in_default.ensures.none in
    let same = subst (λ (v : SessionValue). TurnSoFar g.H.Host.may c.args.host.now c.requests.host c.args.self.now v c.args.has_waited c.requests.waited c.args.out.now.items c.append_kept.new.out.items) (sym end) now in
    turn_paused g.H.Host.may c.args.host.now c.requests.host c.args.self.now c.next.new.self c.args.has_waited c.requests.waited c.args.out.now.items c.append_kept.new.out.items c.pause.new.out.items c.pause.result same kept fresh few at c.pause.ensures

pub requests-preserved : goal.requests-preserved
requests-preserved g c =
    let on = sym c.is_err.ensures.value ∙ c.if-is_err.false in
    let piece = at_ok c.append_kept.result _ on c.append_kept.ensures.ok in
    let now = turn_appended g.H.Host.may c.args.host.now c.requests.host c.args.self.now c.requests.self c.append_kept.new.self c.args.has_waited c.requests.waited c.args.out.now.items c.requests.out.items c.append_kept.new.out.items c.requests.invariant.so_far piece in
    let few : length c.append_kept.new.out.items ≤ 65536 = omega (arith, c.if-len-gt-MOST_READY.false, c.len.ensures) in
    let none = none_kept c.requests.self c.append_kept.new.self c.requests.out.items c.append_kept.new.out.items piece few in
    let least = ltb-false 0 c.requests.self.begun (sym c.has_begun-begun.ensures ∙ c.if-begun.false) in
    let fresh : c.args.self.now.begun ≡ 0 = omega (arith, least, c.requests.invariant.begun) in
    let more = turn_answered g.H.Host.may c.args.host.now c.requests.host c.answer-reply.new.self c.args.self.now c.append_kept.new.self c.next.new.self c.args.has_waited c.requests.waited c.args.out.now.items c.append_kept.new.out.items c.in-Some.request c.answer-reply.result
    now none fresh few c.in-Some.ensures.some c.in-Some.ensures.prompt c.answer-reply.ensures.may in
    record {
      so_far = subst (λ (v : SessionValue). TurnSoFar g.H.Host.may c.args.host.now c.answer-reply.new.self c.args.self.now v c.args.has_waited false c.args.out.now.items c.append_kept.new.out.items) {x = record c.next.new.self { kept = Some c.answer-reply.result; begun = 0 }}
          (sym {b = record c.next.new.self { kept = Some c.answer-reply.result; begun = 0 }} c.keep.ensures) more;
      begun = ap (λ (v : SessionValue). v.begun) c.keep.ensures ∙ sym fresh;
      ready = c.answer-reply.ensures.ready;
    }
