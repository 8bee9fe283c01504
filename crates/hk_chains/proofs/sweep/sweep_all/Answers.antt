use Rattle.std.proofs.Common.{refl, ◌∙◌, arith}
use Rattle.hk_chains.proofs.SweptChains.{all_left, ended_nowhere, free_passed, swept_passed, swept_same}
use Rattle.hk_chains.proofs.FactsByRow.{seen}
use Rattle.hk_chains.proofs.sweep.sweep_all.Goals.{in-Some, in_default}
use Rattle.hk_chains.proofs.sweep.sweep_all.Goals as goal

pub loop-slot-init : goal.loop-slot-init
loop-slot-init c = record {
  own = c.slot_bound-slot-end.ensures.own;
  stored = c.requires;
  same = refl;
  below = c.slot_bound-slot-end.ensures.above;
  passed = λ k s at low. absurd (omega arith);
}

pub loop-slot-preserved : goal.loop-slot-preserved
loop-slot-preserved c =
    let l = c.loop-slot in
    let h = c.args.until in
    elim c.match-key_at.branch [
      | in-Some w ↦
          let row = w.in-Some.row in
          let n = w.sweep_row.new.chains in
          let swept = w.sweep_row.ensures.swept in
          rw w.chains-is record {
            own = w.sweep_row.ensures.own;
            stored = w.sweep_row.ensures.stored;
            same = swept_same (seen l.chains) (seen n) row h swept ∙ l.invariant.same;
            below = λ k s at. l.invariant.below k s (w.sweep_row.ensures.slots k s at);
            passed = swept_passed l.chains h l.slot l.invariant.passed l.invariant.own n row w.in-Some.ensures.some swept w.sweep_row.ensures.slots;
          }
      | in_default w ↦ rw w.chains-is record {
        own = l.invariant.own;
        stored = l.invariant.stored;
        same = l.invariant.same;
        below = l.invariant.below;
        passed = free_passed l.chains h l.slot l.invariant.passed w.in_default.ensures.none;
      }
    ]

pub returns-clause-swept : goal.returns-clause-swept
returns-clause-swept c =
    let l = c.loop-slot in
    all_left (seen l.chains) c.args.until (ended_nowhere l.chains l.invariant.own c.args.until (λ k s at. let below = l.invariant.below k s at in l.invariant.passed k s at (omega arith))) ∙ l.invariant.same
