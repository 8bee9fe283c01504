use Rattle.std.proofs.Common.{ℕ, ◌+◌, ◌<◌, ◌≤◌, ◌^◌, ◌∷◌, [], List, map, ap, ◌∙◌, arith}
use Rattle.std.proofs.lemmas.List.Elements.{All-push}
use Rattle.std.proofs.lemmas.List.{map-append}
use Rattle.hk_oplog.specs.declared.op.Hold.{Hold}
use Rattle.hk_oplog.specs.declared.op.Op.TheVariants.{Hold as HoldAt}
use Rattle.hk_oplog.specs.NodeContent.{NodeContent}
use Rattle.hk_oplog.specs.Pins.{pin_of}
use Rattle.hk_oplog.specs.Replay.{effect}
use Rattle.hk_oplog.proofs.Pins.{all_up, pushed}
use Rattle.hk_oplog.proofs.body.Body.hold.Goals as goal

pub invariant_of-self-2 : goal.invariant_of-self-2
invariant_of-self-2 c =
    let b = c.self.inside in
    let n = b.hold_count + 1 in
    let low : b.hold_count ≤ b.op_count = c.self.invariant.0 in
    let room : b.op_count < 2 ^ 62 = rw (← c.self.view_is) at c.requires in
    let given = c.self.invariant.2.given in
    let es = c.in_ok-insert.ensures.entries ∙ pushed b.hold_count n c.args.at b.holds.entries given (omega arith) in
    let all = All-push (λ (e : ℕ × ℕ). e.0 ≤ n) b.holds.entries (n, c.args.at) (all_up b.hold_count n b.holds.entries (omega arith) given) (omega arith) in
    (omega (arith, low), omega (arith, room), record { ordered = c.in_ok-insert.ensures.ordered; given = rw es all })

pub returns : goal.returns
returns c =
    let b = c.self.inside in
    let n = b.hold_count + 1 in
    let es = c.in_ok-insert.ensures.entries ∙ pushed b.hold_count n c.args.at b.holds.entries c.self.invariant.2.given (omega arith) in
    ap (λ (hs : List Hold). record { content = b.state; holds = hs; damaged = b.damaged; guarded = b.guarded; hold_count = n; op_count = b.op_count + 1 })
    (ap (map pin_of) es ∙ map-append pin_of b.holds.entries ((n, c.args.at) ∷ []))
    ∙ ap (λ (d : NodeContent). effect d (HoldAt c.args.at)) c.self.view_is
