use Rattle.std.proofs.Common.{◌∙◌, sym, rules, get_or, nat_le}
use Rattle.std.proofs.lemmas.List.Sorted.{IsPartitionPoint-from_clause}
use Rattle.hk_facts.proofs.ListedVersions.{Entry, up_to, below, above, all_until, told_not_less}
use Rattle.hk_facts.proofs.list.count_until.Goals as goal

pub returns-in-Some-clause-front : goal.returns-in-Some-clause-front
returns-in-Some-clause-front c k d low h =
    let es = c.args.list.now in
    let point = IsPartitionPoint-from_clause (λ (e : Entry). nat_le e.0 c.args.time) es c.partition_point.result c.partition_point.ensures.partitioned (up_to es c.args.time c.requires) (λ a r f h. search rules) in
    below (get_or es k d).0 c.args.time (point.0 k d low h)

pub returns-in-Some-clause-back : goal.returns-in-Some-clause-back
returns-in-Some-clause-back c k d low h =
    let es = c.args.list.now in
    let point = IsPartitionPoint-from_clause (λ (e : Entry). nat_le e.0 c.args.time) es c.partition_point.result c.partition_point.ensures.partitioned (up_to es c.args.time c.requires) (λ a r f h. search rules) in
    above (get_or es k d).0 c.args.time (point.1 k d low h)

pub returns-in_default-clause-front : goal.returns-in_default-clause-front
returns-in_default-clause-front c = all_until c.args.list.now c.in-Some.last.now c.requires c.in-Some.ensures.value c.args.time (told_not_less c.args.time c.in-Some.last.now.0 (sym c.lt.ensures ∙ c.if-lt.false))
