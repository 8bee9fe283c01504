-- A lawful content can be asked at its readable mark.
use Rattle.std.proofs.Common.{◌≡◌, sym, ap, ◌∙◌, ℕ, ◌≤◌, false, nat_lt, None, Result, Ok, Err, ◌⊎◌, inl, inr, IfOk, arith}
use Rattle.std.proofs.lemmas.Bool.Decides.{nat_tests}
use Rattle.hk_types.specs.declared.faults.Refusal.{Refusal}
use Rattle.hk_types.specs.declared.faults.Refusal.TheVariants.{Memory}
use Rattle.hk_model.specs.declared.answer.Answer.{Answer}
use Rattle.hk_model.specs.declared.query.Query.{Query}
use Rattle.hk_model.specs.Replica.Content.{Content, readable}
use Rattle.hk_model.specs.Replica.Lawful.{IsLawful}
use Rattle.hk_model.specs.Replica.Answers.{answer, reply, visible}
use Rattle.hk_query.specs.Primary.{IsOfPrimary, IsLatestOfPrimary}
use Rattle.hk_query.proofs.ReplyAtTime.{can_be_asked}
use Rattle.hk_state.proofs.Represented.{has_conflict_with}

not_old : (t horizon mark : ℕ) → t ≡ mark → horizon ≤ mark → nat_lt t horizon ≡ false
not_old t horizon mark e le = grind (arith, nat_tests)

not_soon : (t mark : ℕ) → t ≡ mark → nat_lt mark t ≡ false
not_soon t mark e = grind (arith, nat_tests)

pub newest_err : (c : Content) (t : ℕ) (q : Query) (why : Refusal) (X : Type 0) → IsLawful c → t ≡ readable c → (reply c t q ≡ Err why) ⊎ ((why ≡ Memory) × X) → why ≡ Memory
newest_err c t q why X lawful is (inl e) = absurd (has_conflict_with (answer (visible c t) q) why (sym (can_be_asked c t q (not_old t c.horizon (readable c) is lawful.in_reach) (not_soon t (readable c) is)) ∙ e))
newest_err c t q why X lawful is (inr m) = m.0

pub newest_of_primary : (c : Content) (t : ℕ) (q : Query) (a : Answer) → t ≡ readable c → IsOfPrimary c t q (Ok a) → IsLatestOfPrimary c q (Ok (t, a))
newest_of_primary c t q a is of config history items horizon history_is represents =
    let old : horizon ≤ t = omega (arith, is, represents.within) in
    let soon : t ≤ readable c = omega (arith, is) in
    (of config history items horizon history_is represents old soon).0
