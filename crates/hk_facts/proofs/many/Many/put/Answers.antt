use Rattle.std.proofs.Common.{sym, ◌∙◌, subst, true≢false, Option, ℕ, ◌≤◌}
use Rattle.std.specs.Option.{IfSome}
use Rattle.hk_facts.proofs.VersionsInTurn.{put_bounded, put_in_turn, told}
use Rattle.hk_facts.proofs.many.Many.put.Goals.{then-self, else-self}
use Rattle.hk_facts.proofs.many.Many.put.Goals as goal

pub invariant_of-self-2 : goal.invariant_of-self-2
invariant_of-self-2 c =
    let a = c.self.inside in
    let next = c.with-bounds in
    record {
      turn = λ is. elim c.if-self.branch [
        | then-self w ↦ put_in_turn a.versions c.put.new.self c.args.born c.args.fact (c.self.invariant.turn w.if-self.true) (told w.fits_turn-in_turn.result w.fits_turn-in_turn.ensures (sym w.in_turn-is ∙ is)) c.in_ok-is_new.ensures.ok
        | else-self w ↦ absurd (true≢false (sym is ∙ (w.in_turn-is ∙ w.if-self.false)))
      ];
      bounded = put_bounded a.versions c.put.new.self c.args.born c.args.fact a.bounds next.result next.ensures.births next.ensures.born next.ensures.ends (subst (λ (o : Option ℕ). IfSome o (λ d. d ≤ next.result.latest)) c.end_in.ensures next.ensures.died) c.self.invariant.bounded c.in_ok-is_new.ensures.ok;
    }
