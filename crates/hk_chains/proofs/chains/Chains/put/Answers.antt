use Rattle.std.proofs.Common.{refl, sym, ap, ◌∙◌, subst}
use Rattle.std.specs.Option.{unwrap_or}
use Rattle.std.specs.Result.{IsOk}
use Rattle.std.specs.FinMap as finmap
use Rattle.hk_facts.proofs.StoredTrees.{out_of_memory}
use Rattle.hk_chains.specs.Facts.{facts_of, AreStored}
use Rattle.hk_chains.proofs.FactsByRow.{seen, absent_known}
use Rattle.hk_chains.proofs.PutChains.{put_in_stored, put_in, put_in_new, put_in_known, refused_by_chain, undone}
use Rattle.hk_chains.proofs.chains.Chains.put.Goals as goal

pub returns-in_err-chain-clause-err : goal.returns-in_err-chain-clause-err
returns-in_err-chain-clause-err c = rw (← c.self.view_is) (out_of_memory _ c.from_residual.result c.from_residual.ensures.1 (absent_known c.self.inside.chains _ c.args.version.now c.of_version-row.ensures (sym c.in_err-chain.ensures.absent)))

pub invariant_of-self-in-Ok : goal.invariant_of-self-in-Ok
invariant_of-self-in-Ok c = put_in_stored c.self.inside.chains (c.get_or_insert.follows.lender c.put.new.self) c.of_version-row.result c.args.version.now c.of_version-row.ensures c.args.fact c.in_ok-chain.chain.now c.put.new.self (c.in_ok-chain.ensures.value ∙ ap (unwrap_or (finmap.get (seen c.self.inside.chains) c.of_version-row.result)) c.new.ensures) (c.get_or_insert.follows.holds c.put.new.self (subst IsOk (sym c.in_ok-chain.was) refl)) c.in-Ok.ensures.ok c.self.invariant

pub returns-in-Ok-clause-ok : goal.returns-in-Ok-clause-ok
returns-in-Ok-clause-ok c = rw (← c.self.view_is) (put_in c.self.inside.chains (c.get_or_insert.follows.lender c.put.new.self) c.of_version-row.result c.args.version.now c.of_version-row.ensures c.args.fact c.in_ok-chain.chain.now c.put.new.self (c.in_ok-chain.ensures.value ∙ ap (unwrap_or (finmap.get (seen c.self.inside.chains) c.of_version-row.result)) c.new.ensures) (c.get_or_insert.follows.holds c.put.new.self (subst IsOk (sym c.in_ok-chain.was) refl)) c.in-Ok.ensures.ok)

pub returns-in-Ok-clause-new : goal.returns-in-Ok-clause-new
returns-in-Ok-clause-new c = rw (← c.self.view_is) (put_in_new c.self.inside.chains (c.get_or_insert.follows.lender c.put.new.self) c.of_version-row.result c.args.version.now c.of_version-row.ensures c.args.fact c.in_ok-chain.chain.now c.put.new.self (c.in_ok-chain.ensures.value ∙ ap (unwrap_or (finmap.get (seen c.self.inside.chains) c.of_version-row.result)) c.new.ensures) (c.get_or_insert.follows.holds c.put.new.self (subst IsOk (sym c.in_ok-chain.was) refl)) c.in-Ok.is_new c.in-Ok.ensures.new)

pub returns-in-Ok-clause-known : goal.returns-in-Ok-clause-known
returns-in-Ok-clause-known c = rw (← c.self.view_is) (put_in_known c.self.inside.chains (c.get_or_insert.follows.lender c.put.new.self) c.of_version-row.result c.args.version.now c.of_version-row.ensures c.args.fact c.in_ok-chain.chain.now c.put.new.self (c.in_ok-chain.ensures.value ∙ ap (unwrap_or (finmap.get (seen c.self.inside.chains) c.of_version-row.result)) c.new.ensures) (c.get_or_insert.follows.holds c.put.new.self (subst IsOk (sym c.in_ok-chain.was) refl)) c.in-Ok.is_new c.in-Ok.ensures.new c.in-Ok.ensures.ok)

pub invariant_of-self-in-Err : goal.invariant_of-self-in-Err
invariant_of-self-in-Err c =
    let same = undone c.self.inside.chains (c.get_or_insert.follows.lender c.put.new.self) c.of_version-row.result c.args.version.now c.of_version-row.ensures c.args.fact c.in_ok-chain.chain.now c.put.new.self (c.in_ok-chain.ensures.value ∙ ap (unwrap_or (finmap.get (seen c.self.inside.chains) c.of_version-row.result)) c.new.ensures) (c.get_or_insert.follows.holds c.put.new.self (subst IsOk (sym c.in_ok-chain.was) refl)) c.remove_if_empty.new.chains c.self.invariant c.in-Err.ensures.kept c.remove_if_empty.ensures.kept c.remove_if_empty.ensures.gone in
    subst AreStored (sym same) c.self.invariant

pub returns-in-Err-clause-err : goal.returns-in-Err-clause-err
returns-in-Err-clause-err c = rw (← c.self.view_is) (refused_by_chain c.self.inside.chains (c.get_or_insert.follows.lender c.put.new.self) c.of_version-row.result c.args.version.now c.of_version-row.ensures c.args.fact c.in_ok-chain.chain.now c.put.new.self (c.in_ok-chain.ensures.value ∙ ap (unwrap_or (finmap.get (seen c.self.inside.chains) c.of_version-row.result)) c.new.ensures) (c.get_or_insert.follows.holds c.put.new.self (subst IsOk (sym c.in_ok-chain.was) refl)) c.in-Err.why c.in-Err.ensures.err)

pub returns-in-Err-clause-kept : goal.returns-in-Err-clause-kept
returns-in-Err-clause-kept c =
    let same = undone c.self.inside.chains (c.get_or_insert.follows.lender c.put.new.self) c.of_version-row.result c.args.version.now c.of_version-row.ensures c.args.fact c.in_ok-chain.chain.now c.put.new.self (c.in_ok-chain.ensures.value ∙ ap (unwrap_or (finmap.get (seen c.self.inside.chains) c.of_version-row.result)) c.new.ensures) (c.get_or_insert.follows.holds c.put.new.self (subst IsOk (sym c.in_ok-chain.was) refl)) c.remove_if_empty.new.chains c.self.invariant c.in-Err.ensures.kept c.remove_if_empty.ensures.kept c.remove_if_empty.ensures.gone in
    rw (← c.self.view_is) (ap facts_of same)
