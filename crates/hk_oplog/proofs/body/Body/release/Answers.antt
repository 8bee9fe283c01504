use Rattle.std.proofs.Common.{List, ◌+◌, ◌≤◌, ◌<◌, ◌^◌, ap, ◌∙◌, map, arith, nat_cmp}
use Rattle.std.specs.BTreeMap.{is_at}
use Rattle.hk_oplog.specs.declared.op.Hold.{Hold}
use Rattle.hk_oplog.specs.declared.op.Op.TheVariants.{Release}
use Rattle.hk_oplog.specs.NodeContent.{NodeContent}
use Rattle.hk_oplog.specs.Pins.{pin_of}
use Rattle.hk_oplog.specs.Replay.{effect}
use Rattle.hk_oplog.proofs.Pins.{all_left, removed}
use Rattle.hk_oplog.proofs.body.Body.release.Goals as goal

pub invariant_of-self : goal.invariant_of-self
invariant_of-self c =
    let b = c.self.inside in
    let low : b.hold_count ≤ b.op_count = c.self.invariant.0 in
    let room : b.op_count < 2 ^ 62 = rw (← c.self.view_is) at c.requires.room in
    let left = all_left b.hold_count (is_at (nat_cmp c.args.reader)) b.holds.entries c.self.invariant.2.given in
    (omega (arith, low), omega (arith, room), record { ordered = c.remove.ensures.ordered; given = rw c.remove.ensures.entries left })

pub returns : goal.returns
returns c =
    let b = c.self.inside in
    ap (λ (hs : List Hold). record { content = b.state; holds = hs; damaged = b.damaged; guarded = b.guarded; hold_count = b.hold_count; op_count = b.op_count + 1 })
    (ap (map pin_of) c.remove.ensures.entries ∙ removed c.args.reader c.args.at b.holds.entries c.self.invariant.2.ordered (rw (← c.self.view_is) at c.requires.among))
    ∙ ap (λ (n : NodeContent). effect n (Release c.args.reader c.args.at)) c.self.view_is
