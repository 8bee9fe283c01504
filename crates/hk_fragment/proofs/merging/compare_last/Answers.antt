use Rattle.std.proofs.Common.{◌-◌, take, length, inl}
use Rattle.hk_fragment.proofs.MergedLists.{last_is, none_last, compared}
use Rattle.hk_fragment.proofs.merging.compare_last.Goals as goal

pub returns-in-None-Some : goal.returns-in-None-Some
returns-in-None-Some c =
    let coming = c.args.coming.now in
    (take (length coming - 1) coming, c.in-None-Some.field-0-1.now, last_is coming c.in-None-Some.field-0-1.now c.in-None-Some.ensures'.value, inl (none_last c.args.own.now c.in-None-Some.ensures.value))

pub returns-in-Some-None : goal.returns-in-Some-None
returns-in-Some-None c =
    let own = c.args.own.now in
    (take (length own - 1) own, c.in-Some-None.field-0-0.now, last_is own c.in-Some-None.field-0-0.now c.in-Some-None.ensures.value, inl (none_last c.args.coming.now c.in-Some-None.ensures'.value))

pub returns-in-Some-Some : goal.returns-in-Some-Some
returns-in-Some-Some c = compared c.args.own.now c.args.coming.now c.in-Some-Some.field-0-0.now c.in-Some-Some.field-0-1.now c.cmp.result c.cmp.ensures c.in-Some-Some.ensures.value c.in-Some-Some.ensures'.value
