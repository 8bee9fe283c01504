-- What was answered is answered after an absorb, and after a prune that does not touch the past.
use Rattle.std.proofs.Common.{◌≡◌, refl, sym, subst, ℕ, false, Result, Ok, Err}
use Rattle.hk_types.specs.declared.faults.Refusal.{Refusal}
use Rattle.hk_log.specs.declared.item.Item.{Item}
use Rattle.hk_model.specs.declared.took.Took.{Took}
use Rattle.hk_model.specs.Replica.Content.{Content}
use Rattle.hk_model.specs.Replica.Lawful.{IsLawful}
use Rattle.hk_model.specs.Replica.Touches.{prune_touches_past}
use Rattle.hk_model.proofs.Replica.Past.{past_replies, taken_past, pruned_later}
use Rattle.hk_model.proofs.Replica.Touches.{prune_untouched}
use Rattle.hk_state.specs.Calls.{Absorbs, AnswersStay, Prunes}

unchanged : (c d : Content) → d ≡ c → AnswersStay c d
unchanged c d e = subst (AnswersStay c) (sym e) (λ t old soon q. refl)

pub absorb_stays : (c d : Content) (item : Item) (result : Result Took Refusal) → Absorbs c d item result → AnswersStay c d
absorb_stays c d item (Ok told) e = let p = taken_past c item told d e in (past_replies c d p.0).0 p.1
absorb_stays c d item (Err why) e = unchanged c d e.0

pub prune_stays : (c d : Content) (h : ℕ) (result : Result (Unit {0}) Refusal) → IsLawful c → Prunes c d h result → prune_touches_past c h ≡ false → AnswersStay c d
prune_stays c d h (Ok done) lawful e clear = (past_replies c d (pruned_later c h d e)).0 ((prune_untouched c h d lawful e).0 clear)
prune_stays c d h (Err why) lawful e clear = unchanged c d e.0
