use Rattle.std.proofs.Common.{sym, ap, ◌∙◌, take}
use Rattle.hk_laws.proofs.TestedWrites.{writes_row, started_none, started_more, written_twice, written_often, all_built}
use Rattle.hk_laws.proofs.building.misbuilt.Goals as goal

pub loop-i-init : goal.loop-i-init
loop-i-init c = started_none c.args.writes.now

pub returns-then-is_written : goal.returns-then-is_written
returns-then-is_written c =
    let ws = c.args.writes.now in
    let there = sym (ap (λ k. writes_row k (take c.loop-i.i ws)) c.of.ensures) ∙ sym c.is_written.ensures ∙ c.if-is_written.true in
    written_twice ws c.loop-i.i c.index-writes-i.result c.loop-i-test.true c.index-writes-i.is c.loop-i.invariant there

pub returns-then-i-ge-MOST_WRITES : goal.returns-then-i-ge-MOST_WRITES
returns-then-i-ge-MOST_WRITES c =
    let ws = c.args.writes.now in
    let absent = sym (ap (λ k. writes_row k (take c.loop-i.i ws)) c.of.ensures) ∙ sym c.is_written.ensures ∙ c.if-is_written.false in
    written_often ws c.loop-i.i c.index-writes-i.result c.loop-i-test.true c.index-writes-i.is c.loop-i.invariant absent c.if-i-ge-MOST_WRITES.true

pub loop-i-preserved : goal.loop-i-preserved
loop-i-preserved c =
    let ws = c.args.writes.now in
    let absent = sym (ap (λ k. writes_row k (take c.loop-i.i ws)) c.of.ensures) ∙ sym c.is_written.ensures ∙ c.if-is_written.false in
    started_more ws c.loop-i.i c.index-writes-i.result c.loop-i-test.true c.index-writes-i.is c.loop-i.invariant absent c.if-i-ge-MOST_WRITES.false

pub returns : goal.returns
returns c = all_built c.args.writes.now c.loop-i.i c.loop-i.invariant c.loop-i-test.false c.loop-i.auto.i-end
