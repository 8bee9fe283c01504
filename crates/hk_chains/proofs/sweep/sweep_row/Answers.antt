use Rattle.std.proofs.Common.{refl, sym, true≢false}
use Rattle.hk_chains.proofs.SweptChains.{written_swept, written_stored, written_own, gone_swept, gone_stored, gone_fewer, gone_own}
use Rattle.hk_chains.proofs.sweep.sweep_row.Goals as goal

pub returns-else-is_empty-clause-own : goal.returns-else-is_empty-clause-own
returns-else-is_empty-clause-own c = written_own c.args.chains.now c.requires.own c.args.row c.args.until c.in-Some.chain.now c.in-Some.ensures.value (c.get_mut.follows.lender c.drop_until.new.self) c.drop_until.new.self (c.get_mut.follows.holds c.drop_until.new.self) c.drop_until.ensures

pub returns-else-is_empty-clause-stored : goal.returns-else-is_empty-clause-stored
returns-else-is_empty-clause-stored c = written_stored c.args.chains.now c.requires.own c.args.row c.args.until c.in-Some.chain.now c.in-Some.ensures.value (c.get_mut.follows.lender c.drop_until.new.self) c.drop_until.new.self (c.get_mut.follows.holds c.drop_until.new.self) c.drop_until.ensures (λ e. true≢false (sym (c.if-is_empty.ensures.1 e))) c.requires.stored

pub returns-else-is_empty-clause-swept : goal.returns-else-is_empty-clause-swept
returns-else-is_empty-clause-swept c = written_swept c.args.chains.now c.requires.own c.args.row c.args.until c.in-Some.chain.now c.in-Some.ensures.value (c.get_mut.follows.lender c.drop_until.new.self) c.drop_until.new.self (c.get_mut.follows.holds c.drop_until.new.self) c.drop_until.ensures

pub returns-then-is_empty-clause-own : goal.returns-then-is_empty-clause-own
returns-then-is_empty-clause-own c = gone_own c.args.chains.now c.requires.own c.args.row c.args.until c.in-Some.chain.now c.in-Some.ensures.value (c.get_mut.follows.lender c.drop_until.new.self) c.drop_until.new.self (c.get_mut.follows.holds c.drop_until.new.self) c.drop_until.ensures c.remove.new.self c.remove.ensures.map c.remove.ensures.slots (c.if-is_empty.ensures.0 refl)

pub returns-then-is_empty-clause-stored : goal.returns-then-is_empty-clause-stored
returns-then-is_empty-clause-stored c = gone_stored c.args.chains.now c.requires.own c.args.row c.args.until c.in-Some.chain.now c.in-Some.ensures.value (c.get_mut.follows.lender c.drop_until.new.self) c.drop_until.new.self (c.get_mut.follows.holds c.drop_until.new.self) c.drop_until.ensures c.remove.new.self c.remove.ensures.map c.remove.ensures.slots (c.if-is_empty.ensures.0 refl) c.requires.stored

pub returns-then-is_empty-clause-slots : goal.returns-then-is_empty-clause-slots
returns-then-is_empty-clause-slots c = gone_fewer c.args.chains.now c.requires.own c.args.row c.args.until c.in-Some.chain.now c.in-Some.ensures.value (c.get_mut.follows.lender c.drop_until.new.self) c.drop_until.new.self (c.get_mut.follows.holds c.drop_until.new.self) c.drop_until.ensures c.remove.new.self c.remove.ensures.map c.remove.ensures.slots (c.if-is_empty.ensures.0 refl)

pub returns-then-is_empty-clause-swept : goal.returns-then-is_empty-clause-swept
returns-then-is_empty-clause-swept c = gone_swept c.args.chains.now c.requires.own c.args.row c.args.until c.in-Some.chain.now c.in-Some.ensures.value (c.get_mut.follows.lender c.drop_until.new.self) c.drop_until.new.self (c.get_mut.follows.holds c.drop_until.new.self) c.drop_until.ensures c.remove.new.self c.remove.ensures.map c.remove.ensures.slots (c.if-is_empty.ensures.0 refl)
