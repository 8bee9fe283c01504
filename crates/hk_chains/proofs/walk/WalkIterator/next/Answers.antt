use Rattle.std.proofs.Common.{sym, ◌∙◌}
use Rattle.hk_chains.proofs.WalkedChains.{one_taken, row_done, shorter}
use Rattle.hk_chains.proofs.walk.WalkIterator.next.Goals as goal

pub returns-in-Some-found-clause-steps : goal.returns-in-Some-found-clause-steps
returns-in-Some-found-clause-steps c =
    let w = c.loop-self.self-inside in
    rw (← c.self.view_is) (rw c.in-Some-found.is (sym c.loop-self.invariant ∙ one_taken w.here w.after w.rows c.in-Some.row c.in-Some.chain c.in-Some.is c.next_of-found.result c.next_of-found.ensures _ c.in-Some-found.is))

pub returns-in-Some-found-clause-goes : goal.returns-in-Some-found-clause-goes
returns-in-Some-found-clause-goes c =
    let w = c.loop-self.self-inside in
    rw (← c.self.view_is) (rw c.in-Some-found.is (record {
      on = λ f. (tt, tt, shorter _ _ _ (sym c.loop-self.invariant ∙ one_taken w.here w.after w.rows c.in-Some.row c.in-Some.chain c.in-Some.is c.next_of-found.result c.next_of-found.ensures _ c.in-Some-found.is));
      keeps = tt;
      rests = λ f. tt;
    }))

pub loop-self-preserved : goal.loop-self-preserved
loop-self-preserved c =
    let w = c.loop-self.self-inside in
    row_done w.here w.after w.rows c.in-Some.row c.in-Some.chain c.in-Some.is c.next_of-found.result c.next_of-found.ensures c.in_default-found.is c.next-self-inside.result c.next-self-inside.new.self c.next-self-inside.ensures.steps ∙ c.loop-self.invariant
