use Rattle.std.proofs.Common.{sym, ap, ◌∙◌, subst, filter, is_le}
use Rattle.std.specs.FinMap as finmap
use Rattle.hk_model.specs.History.Rows.{RowKey, row_key_cmp, version_key_cmp}
use Rattle.hk_facts.specs.Chains.{ChainValue}
use Rattle.hk_slots.specs.SlotMaps.{map_of}
use Rattle.hk_chains.specs.Facts.{facts_of}
use Rattle.hk_chains.specs.Versions.{AreVersionsOf, versions_of_rows}
use Rattle.hk_chains.proofs.CountedRows.{from_start}
use Rattle.hk_chains.proofs.WalkedRows.{rows_are}
use Rattle.hk_chains.proofs.WalkedChains.{begun}
use Rattle.hk_chains.proofs.chains.Chains.walk_from.Goals as goal

pub returns : goal.returns
returns c =
    let m = map_of row_key_cmp c.self.inside.chains in
    let k : RowKey = record { table = c.args.table; key = c.args.key } in
    let listed = rows_are m c.self.invariant.known k (finmap.entries m) (finmap.entries_sorted m) (λ q. finmap.get-entries m q) in
    let rows = begun c.range-rows.result c.next.result c.next.new.self c.next.ensures.steps ∙ ap versions_of_rows (c.range-rows.ensures.between tt ∙ (λ i. filter (λ (e : RowKey × ChainValue). from_start (is_le (row_key_cmp (c.new.ensures i) e.0)) i) (finmap.entries m))) in
    rw (← c.self.view_is) (subst (λ es. AreVersionsOf (facts_of m) (λ q. is_le (version_key_cmp (record { table = c.args.table; key = c.args.key; born = 0 }) q)) es) (sym rows) listed)
