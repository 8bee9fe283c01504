use Rattle.std.proofs.Common.{rules, ◌-◌, sym, ap, ◌∙◌, subst, List, length, nat_le, nat_lt, take, drop}
use Rattle.std.proofs.lemmas.Bool.{and_parts}
use Rattle.std.proofs.lemmas.List.{take_rest}
use Rattle.std.proofs.lemmas.List.Sorted.{IsNonDecreasingBy-drop, IsPartitionPoint-from_clause, IsPartitionedBy-leb, IsPartitionedBy-ltb}
use Rattle.std.specs.List.Sorted.{IsNonDecreasingBy}
use Rattle.hk_index.specs.declared.timed_row.TimedRow.{TimedRow}
use Rattle.hk_index.specs.Timed.{is_in, is_until}
use Rattle.hk_index.proofs.TimedLists.{from_first, until_last}
use Rattle.hk_index.proofs.timed_rows.within.Goals as goal

pub returns-in-Some : goal.returns-in-Some
returns-in-Some c timed is there =
    let ts = c.args.rows.now in
    let start = c.partition_point-start.result in
    let rest = take_rest ts start in
    let span = c.args.span.now in
    let until = c.in-Some.until in
    let parts = and_parts (nat_le span.from timed.time) (is_until span.until timed.time) is in
    let front = IsPartitionPoint-from_clause (λ (t : TimedRow). nat_lt t.time span.from) ts start c.partition_point-start.ensures.partitioned (IsPartitionedBy-ltb (λ (t : TimedRow). t.time) ts span.from c.requires) (λ a r f h. search rules) in
    let from = take (length ts - start) (drop start ts) in
    let rising = subst (IsNonDecreasingBy (λ (t : TimedRow). t.time)) (sym rest) (IsNonDecreasingBy-drop (λ (t : TimedRow). t.time) start ts c.requires) in
    let back = IsPartitionPoint-from_clause (λ (t : TimedRow). nat_le t.time until) from c.partition_point-count.result c.partition_point-count.ensures.partitioned (IsPartitionedBy-leb (λ (t : TimedRow). t.time) from until rising) (λ a r f h. search rules) in
    until_last from until c.partition_point-count.result back.1 timed (ap (λ o. is_until o timed.time) (sym c.in-Some.is) ∙ parts.1)
    (ap (λ (l : List TimedRow). is_in l timed) rest ∙ from_first ts span.from start c.partition_point-start.ensures.bound front.0 timed parts.0 there)

pub returns-in-None : goal.returns-in-None
returns-in-None c timed is there =
    let ts = c.args.rows.now in
    let start = c.partition_point-start.result in
    let span = c.args.span.now in
    let parts = and_parts (nat_le span.from timed.time) (is_until span.until timed.time) is in
    let front = IsPartitionPoint-from_clause (λ (t : TimedRow). nat_lt t.time span.from) ts start c.partition_point-start.ensures.partitioned (IsPartitionedBy-ltb (λ (t : TimedRow). t.time) ts span.from c.requires) (λ a r f h. search rules) in
    ap (λ (l : List TimedRow). is_in l timed) (take_rest ts start) ∙ from_first ts span.from start c.partition_point-start.ensures.bound front.0 timed parts.0 there
