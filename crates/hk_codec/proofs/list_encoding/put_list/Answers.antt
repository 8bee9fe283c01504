use Rattle.std.proofs.Common.{◌++◌, ap}
use Rattle.std.specs.Int.{w16}
use Rattle.std.proofs.lemmas.Result.{IfOk-equal}
use Rattle.hk_frames.specs.Fields.{number}
use Rattle.hk_codec.specs.Lists.{group_text}
use Rattle.hk_codec.proofs.ListLoops.{one_group_text}
use Rattle.hk_codec.proofs.list_encoding.put_list.Goals as goal

pub returns-in-Some-clause-ok : goal.returns-in-Some-clause-ok
returns-in-Some-clause-ok g c =
    IfOk-equal c.put_one_group.result c.put_one_group.new.out.items (c.args.out.now.items ++ (number w16 1 ++ group_text g.E.Elements.text (c.in-Some.table, c.args.elements.now))) _ c.put_one_group.ensures.ok
    (ap (λ l. c.args.out.now.items ++ l) (one_group_text c.args.version g.E.Elements.place g.E.Elements.text c.args.elements.now c.in-Some.table c.if-version-eq-VERSION_1.false c.in-Some.ensures))
