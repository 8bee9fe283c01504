use Rattle.std.proofs.Common.{◌≡◌, None, sym, ap, ◌∙◌, subst}
use Rattle.hk_model.specs.Replica.Content.{Content}
use Rattle.hk_oplog.specs.declared.op.Op.TheVariants.{Join}
use Rattle.hk_oplog.specs.NodeContent.{NodeContent}
use Rattle.hk_oplog.specs.Pins.{pins_of}
use Rattle.hk_oplog.specs.Replay.{after_conflict, content_after_op, fit_or_full}
use Rattle.hk_oplog.proofs.JoinTests.{conflicted, refused_so}
use Rattle.hk_oplog.proofs.body.Body.join_fitting.Goals as goal

pub returns-in_default : goal.returns-in_default
returns-in_default c =
    let b = c.self.inside in
    let f = c.args.fragment.now in
    let now : NodeContent = record { content = b.state; holds = pins_of b.holds; damaged = b.damaged; guarded = b.guarded; hold_count = b.hold_count; op_count = b.op_count } in
    let fits : fit_or_full now f ≡ None = subst (λ (n : NodeContent). fit_or_full n f ≡ None) (sym c.self.view_is) c.requires in
    let so = refused_so now f c.join.new.target c.in-Err.why c.in_default.not-Memory c.in-Err.ensures.gives in
    c.meet_conflict.ensures ∙ ap (λ (s : Content). after_conflict (record now { content = s })) so.0 ∙ sym (conflicted now f c.in-Err.why fits so.1) ∙ ap (λ (n : NodeContent). content_after_op n (Join f)) c.self.view_is
