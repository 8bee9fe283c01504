use Rattle.std.proofs.Common.{◌∙◌}
use Rattle.hk_model.specs.History.Rows.{row_key_cmp}
use Rattle.hk_slots.specs.SlotMaps.{map_of}
use Rattle.hk_chains.proofs.CountedRows.{counted_from}
use Rattle.hk_chains.proofs.chains.Chains.count_at.Goals as goal

pub returns : goal.returns
returns c =
    rw (← c.self.view_is) ((rw (c.new-2.ensures, c.new.ensures) at c.count_from.ensures) ∙ counted_from (map_of row_key_cmp c.self.inside.chains) c.self.invariant.known c.args.table c.args.time)
