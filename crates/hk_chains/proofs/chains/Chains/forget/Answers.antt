use Rattle.std.proofs.Common.{refl, sym, true≢false}
use Rattle.hk_chains.proofs.FactsByRow.{forgot_absent, forgot_there, left_stored, forgot_gone, gone_stored}
use Rattle.hk_chains.proofs.chains.Chains.forget.Goals as goal

pub returns-in_default : goal.returns-in_default
returns-in_default c = rw (c.get_mut.follows.holds-at-none, ← c.self.view_is) (forgot_absent c.self.inside.chains _ c.args.version.now c.of_version-row.ensures c.args.part c.in_default.ensures.value)

pub invariant_of-self-then-not-is_empty : goal.invariant_of-self-then-not-is_empty
invariant_of-self-then-not-is_empty c = left_stored c.self.inside.chains _ c.args.version.now c.of_version-row.ensures c.in-Some.chain.now c.in-Some.ensures.value (c.get_mut.follows.lender c.forget.new.self) c.forget.new.self (c.get_mut.follows.holds c.forget.new.self) c.args.part c.forget.ensures (λ e. true≢false (sym (c.if-not-is_empty.ensures.1 e))) c.self.invariant

pub returns-then-not-is_empty : goal.returns-then-not-is_empty
returns-then-not-is_empty c = rw (← c.self.view_is) (forgot_there c.self.inside.chains _ c.args.version.now c.of_version-row.ensures c.in-Some.chain.now c.in-Some.ensures.value (c.get_mut.follows.lender c.forget.new.self) c.forget.new.self (c.get_mut.follows.holds c.forget.new.self) c.args.part c.forget.ensures)

pub invariant_of-self-2 : goal.invariant_of-self-2
invariant_of-self-2 c = gone_stored c.self.inside.chains _ c.args.version.now c.of_version-row.ensures c.in-Some.chain.now c.in-Some.ensures.value (c.get_mut.follows.lender c.forget.new.self) c.forget.new.self (c.get_mut.follows.holds c.forget.new.self) c.args.part c.forget.ensures c.remove.new.self c.remove.ensures.map (c.if-not-is_empty.ensures.0 refl) c.self.invariant

pub returns : goal.returns
returns c = rw (← c.self.view_is) (forgot_gone c.self.inside.chains _ c.args.version.now c.of_version-row.ensures c.in-Some.chain.now c.in-Some.ensures.value (c.get_mut.follows.lender c.forget.new.self) c.forget.new.self (c.get_mut.follows.holds c.forget.new.self) c.args.part c.forget.ensures c.remove.new.self c.remove.ensures.map (c.if-not-is_empty.ensures.0 refl))
