use Rattle.std.proofs.Common.{sym, ap, ◌∙◌}
use Rattle.hk_store.proofs.WalkedChains.{all_taken}
use Rattle.hk_delta.specs.Cuts.{all_left}
use Rattle.hk_delta.proofs.cutting.left_of_all.Goals as goal

pub returns : goal.returns
returns c =
    let l = c.loop-version in
    let whole = sym c.into_iter-version-iterator.ensures.into_iter_gives ∙ all_taken c.into_iter-version-iterator.result l.yielded l.version-iterator c.next.new.self c.next.result l.yielded_by c.in-None.is c.next.ensures.steps in
    (c.walk-version-items.result, (c.walk-version-items.ensures, l.invariant ∙ ap (all_left c.args.base) (sym whole)))
