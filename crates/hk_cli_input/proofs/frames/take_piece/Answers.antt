use Rattle.std.proofs.Common.{rules, ℕ, List, [], ◌++◌, sym, ap, ◌∙◌, subst, append_assoc, append-nil}
use Rattle.std.proofs.lemmas.List.{nil_from_length}
use Rattle.std.specs.Result.{is_ok}
use Rattle.std.specs.Slice.Iter.{chunks_rest}
use Rattle.hk_cli_input.specs.Items.{GoesOn, BreaksOff}
use Rattle.hk_cli_input.proofs.Took.{err_so}
use Rattle.hk_cli_input.proofs.ItemSteps.{goes_nowhere, goes_further, goes_on, breaks_further, breaks_off}
use Rattle.hk_cli_input.proofs.frames.take_piece.Goals as goal

pub loop-part-init : goal.loop-part-init
loop-part-init g c = (search rules, tt, [], search rules, goes_nowhere g.S.Item.FromFrame.Reads g.S.Sink.took c.args.sink.now c.args.feeder.now)

pub loop-part-preserved : goal.loop-part-preserved
loop-part-preserved g c =
    let f = c.feed_with-fed in
    let inv = c.loop-part.invariant in
    let part = c.in-Some.part.now in
    let cut = c.in-Some.ensures.steps.1.0 in (
      search rules,
      tt,
      inv.2 ++ part,
      inv.3 ∙ (ap (λ (l : List ℕ). inv.2 ++ l) cut ∙ sym (append_assoc inv.2 part (chunks_rest c.next.new.self))),
      goes_further g.S.Item.FromFrame.Reads g.S.Sink.took c.args.sink.now c.loop-part.sink c.take_all.new.sink c.args.feeder.now c.loop-part.feeder f.new.self inv.2 part inv.4
          (goes_on g.S.Item.Format.Format.Adds g.S.Item.FromFrame.Reads g.S.Sink.took c.loop-part.sink c.take_all.new.sink c.loop-part.feeder f.new.self c.reserve-room.new.self.items f.new.out.items part f.result
          c.laws.ensures.adds c.laws.ensures.join (c.reserve-room.ensures.items ∙ c.new-items.ensures.items) f.ensures.reads (sym c.checked.ensures ∙ ap is_ok c.in_ok-checked.was) c.in_ok-take_all.ensures.ok),
    )

pub returns-in_err-take_all-clause-err : goal.returns-in_err-take_all-clause-err
returns-in_err-take_all-clause-err g c =
    let f = c.feed_with-fed in
    let inv = c.loop-part.invariant in
    let part = c.in-Some.part.now in
    let cut = c.in-Some.ensures.steps.1.0 in
    err_so c.from_residual.result
    (subst (λ (l : List ℕ). BreaksOff g.S.Item.FromFrame.Reads g.S.Sink.took c.args.sink.now c.take_all.new.sink c.args.feeder.now l) (sym (inv.3 ∙ ap (λ (l : List ℕ). inv.2 ++ l) cut))
    (breaks_further g.S.Item.FromFrame.Reads g.S.Sink.took c.args.sink.now c.loop-part.sink c.take_all.new.sink c.args.feeder.now c.loop-part.feeder inv.2 part (chunks_rest c.next.new.self) inv.4
    (breaks_off g.S.Item.Format.Format.Adds g.S.Item.FromFrame.Reads g.S.Sink.took c.loop-part.sink c.take_all.new.sink c.loop-part.feeder f.new.self c.reserve-room.new.self.items f.new.out.items part f.result
    c.laws.ensures.adds c.laws.ensures.join (c.reserve-room.ensures.items ∙ c.new-items.ensures.items) f.ensures.reads f.ensures.memory c.in_err-take_all.ensures.err)))

pub returns-in_err-checked-clause-err : goal.returns-in_err-checked-clause-err
returns-in_err-checked-clause-err g c =
    let f = c.feed_with-fed in
    let inv = c.loop-part.invariant in
    let part = c.in-Some.part.now in
    let cut = c.in-Some.ensures.steps.1.0 in
    err_so c.from_residual-in_err-checked.result
    (subst (λ (l : List ℕ). BreaksOff g.S.Item.FromFrame.Reads g.S.Sink.took c.args.sink.now c.take_all.new.sink c.args.feeder.now l) (sym (inv.3 ∙ ap (λ (l : List ℕ). inv.2 ++ l) cut))
    (breaks_further g.S.Item.FromFrame.Reads g.S.Sink.took c.args.sink.now c.loop-part.sink c.take_all.new.sink c.args.feeder.now c.loop-part.feeder inv.2 part (chunks_rest c.next.new.self) inv.4
    (breaks_off g.S.Item.Format.Format.Adds g.S.Item.FromFrame.Reads g.S.Sink.took c.loop-part.sink c.take_all.new.sink c.loop-part.feeder f.new.self c.reserve-room.new.self.items f.new.out.items part f.result
    c.laws.ensures.adds c.laws.ensures.join (c.reserve-room.ensures.items ∙ c.new-items.ensures.items) f.ensures.reads f.ensures.memory (f.new.out.items, [], sym (append-nil f.new.out.items), c.in_ok-take_all.ensures.ok))))

pub returns-clause-ok : goal.returns-clause-ok
returns-clause-ok g c =
    let inv = c.loop-part.invariant in
    let none = nil_from_length _ c.in-None.ensures.steps.1.0 in
    subst (λ (l : List ℕ). GoesOn g.S.Item.FromFrame.Reads g.S.Sink.took c.args.sink.now c.loop-part.sink c.args.feeder.now c.loop-part.feeder l)
    (sym (inv.3 ∙ (ap (λ (l : List ℕ). inv.2 ++ l) none ∙ append-nil inv.2))) inv.4
