use Rattle.std.proofs.Common.{rules, ap, ◌∙◌, Bool, filter, is_le, is_some, ◌==◌}
use Rattle.std.proofs.lemmas.Iterator.Consumers.{YieldsList-from_rest, YieldsList-at, YieldsList-from_filter, count_from_yields_List}
use Rattle.std.proofs.lemmas.Iterator.Search.{YieldsList-from_take_while}
use Rattle.std.specs.FinMap as finmap
use Rattle.hk_model.specs.History.Rows.{RowKey, row_key_cmp}
use Rattle.hk_facts.specs.Chains.{ChainValue, row_at}
use Rattle.hk_slots.specs.SlotMaps.{map_of}
use Rattle.hk_chains.proofs.CountedRows.{from_start}
use Rattle.hk_chains.proofs.chains.count_from.Goals as goal

pub returns : goal.returns
returns c =
    count_from_yields_List c.filter.result _ c.count.ensures.ran
    (YieldsList-from_filter _ (λ (e : RowKey × ChainValue). is_some (row_at e.1 c.args.time))
    (YieldsList-at c.filter.ensures.source
    (YieldsList-from_take_while _ (λ (e : RowKey × ChainValue). e.0.table == c.args.first.table)
    (YieldsList-at c.take_while.ensures.source
    (YieldsList-from_rest (filter (λ (e : RowKey × ChainValue). is_le (row_key_cmp c.args.first e.0)) (finmap.entries (map_of row_key_cmp c.args.chains.now)))
    (c.range.ensures.between tt ∙ ap (λ (p : RowKey × ChainValue → Bool). filter p (finmap.entries (map_of row_key_cmp c.args.chains.now))) (λ i e. from_start (is_le (row_key_cmp c.args.first e.0)) i))))
    c.take_while.ensures.closure c.take_while.ensures.done (λ x b q k. search rules)))
    c.filter.ensures.closure (λ x b q k. search rules))
